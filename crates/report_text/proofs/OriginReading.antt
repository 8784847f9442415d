-- What the key of a seal belongs to is read back from its word.
use Rattle.std.proofs.Common.{◌≡◌, ℕ, eqb, List, [], ◌∷◌, ◌++◌, length, take, drop, Ok, Err, refl, ap, ◌∙◌, arith, if◌then◌else◌, append_assoc}
use Rattle.std.proofs.Math.Seq.{take-append_seam, drop-append_seam}
use Rattle.std.specs.Int.{w64, to_be_bytes}
use Rattle.hex.specs.Hex.{lower_digits}
use Rattle.hex.proofs.HexLemmas.{length-encode_with}
use Rattle.ha_base.specs.declared.counter_names.Derivation.{Derivation}
use Rattle.line_fields.specs.Octets.{IsOctetField, octets_text, sized, spi_in_word, spi_text}
use Rattle.line_fields.specs.declared.fault.LineReason.TheVariants.{Word}
use Rattle.line_fields.proofs.FieldLaws.{sized_field}
use Rattle.report_text.specs.LineRanges.{FitsDerivation, FitsOrigin}
use Rattle.report_text.specs.Spelling.{derivation_text, origin_text}
use Rattle.report_text.specs.declared.line.KeyOrigin.{KeyOrigin}
use Rattle.report_text.specs.declared.line.KeyOrigin.TheVariants as origins
use Rattle.report_text.proofs.WordReading.{◌>>=◌, Reading, number_again, number_in, spi_again}

-- a word is parted behind so many octets and one more
first_piece : (n : ℕ) (a rest : List ℕ) → length a ≡ n → take n (a ++ (46 ∷ rest)) ≡ a
first_piece n a rest e = rw (← e) (take-append_seam a (46 ∷ rest))

other_pieces : (n : ℕ) (a rest : List ℕ) → length a ≡ n → drop 1 (drop n (a ++ (46 ∷ rest))) ≡ rest
other_pieces n a rest e = rw (← e) (ap (drop 1) (drop-append_seam a (46 ∷ rest)))

spi_long : (n : ℕ) → length (spi_text n) ≡ 16
spi_long n = omega (arith, length-encode_with lower_digits (to_be_bytes w64 n))

nonce_long : (xs : List ℕ) → IsOctetField 32 32 xs → length (octets_text xs) ≡ 64
nonce_long [] fits = absurd (let some = fits.least_size in omega arith)
nonce_long (b ∷ bs) fits = omega (arith, length-encode_with lower_digits (b ∷ bs), fits.least_size, fits.most_size)

-- a piece of so many octets, read, and what is behind the octet after it
abbrev piece : {A B : Type 0} → ℕ → (List ℕ → Reading A) → List ℕ → (A → List ℕ → Reading B) → Reading B
piece n read w go = read (take n w) >>= (λ x. go x (drop 1 (drop n w)))

piece_again : {A B : Type 0} (n : ℕ) (read : List ℕ → Reading A) (a rest : List ℕ) (x : A) (go : A → List ℕ → Reading B) → length a ≡ n → read a ≡ Ok x → piece n read (a ++ (46 ∷ rest)) go ≡ go x rest
piece_again n read a rest x go long is = rw (first_piece n a rest long, other_pieces n a rest long, is) refl

abbrev nonce_in : List ℕ → Reading (List ℕ)
nonce_in w = sized 32 32 w

after_spii : ℕ → List ℕ → List ℕ → ℕ → List ℕ → Reading Derivation
after_spii old_spir ni nr spii w = spi_in_word w >>= (λ spir. Ok (record { old_spir = old_spir; ni = ni; nr = nr; spii = spii; spir = spir }))

after_nr : ℕ → List ℕ → List ℕ → List ℕ → Reading Derivation
after_nr old_spir ni nr w = piece 16 spi_in_word w (after_spii old_spir ni nr)

after_ni : ℕ → List ℕ → List ℕ → Reading Derivation
after_ni old_spir ni w = piece 64 nonce_in w (after_nr old_spir ni)

after_old : ℕ → List ℕ → Reading Derivation
after_old old_spir w = piece 64 nonce_in w (after_ni old_spir)

pub derivation_in : List ℕ → Reading Derivation
derivation_in w = piece 16 spi_in_word w after_old

nonce_again : (xs : List ℕ) → IsOctetField 32 32 xs → nonce_in (octets_text xs) ≡ Ok xs
nonce_again xs fits = (sized_field 32 32).again xs fits

old_again : (a rest : List ℕ) (x : ℕ) → length a ≡ 16 → spi_in_word a ≡ Ok x → derivation_in (a ++ (46 ∷ rest)) ≡ after_old x rest
unfolding derivation_in
old_again a rest x long is = piece_again 16 spi_in_word a rest x after_old long is

ni_again : (old : ℕ) (a rest xs : List ℕ) → length a ≡ 64 → nonce_in a ≡ Ok xs → after_old old (a ++ (46 ∷ rest)) ≡ after_ni old xs rest
unfolding after_old
ni_again old a rest xs long is = piece_again 64 nonce_in a rest xs (after_ni old) long is

nr_again : (old : ℕ) (ni a rest xs : List ℕ) → length a ≡ 64 → nonce_in a ≡ Ok xs → after_ni old ni (a ++ (46 ∷ rest)) ≡ after_nr old ni xs rest
unfolding after_ni
nr_again old ni a rest xs long is = piece_again 64 nonce_in a rest xs (after_nr old ni) long is

spii_again : (old : ℕ) (ni nr a rest : List ℕ) (x : ℕ) → length a ≡ 16 → spi_in_word a ≡ Ok x → after_nr old ni nr (a ++ (46 ∷ rest)) ≡ after_spii old ni nr x rest
unfolding after_nr
spii_again old ni nr a rest x long is = piece_again 16 spi_in_word a rest x (after_spii old ni nr) long is

spir_again : (d : Derivation) (w : List ℕ) → spi_in_word w ≡ Ok d.spir → after_spii d.old_spir d.ni d.nr d.spii w ≡ Ok d
unfolding after_spii
spir_again d w is = rw is refl

derivation_parts : (d : Derivation) → derivation_text d ≡ spi_text d.old_spir ++ (46 ∷ (octets_text d.ni ++ (46 ∷ (octets_text d.nr ++ (46 ∷ (spi_text d.spii ++ (46 ∷ spi_text d.spir)))))))
unfolding derivation_text
derivation_parts d =
    let a = spi_text d.old_spir in
    let b = 46 ∷ octets_text d.ni in
    let c = 46 ∷ octets_text d.nr in
    let e = 46 ∷ spi_text d.spii in
    let f = 46 ∷ spi_text d.spir in
    append_assoc ((a ++ b) ++ c) e f ∙ append_assoc (a ++ b) c (e ++ f) ∙ append_assoc a b (c ++ (e ++ f))

derivation_again : (d : Derivation) → FitsDerivation d → derivation_in (derivation_text d) ≡ Ok d
derivation_again d fits =
    ap derivation_in (derivation_parts d)
    ∙ old_again (spi_text d.old_spir) _ d.old_spir (spi_long d.old_spir) (spi_again d.old_spir fits.old_spir)
    ∙ ni_again d.old_spir (octets_text d.ni) _ d.ni (nonce_long d.ni fits.ni) (nonce_again d.ni fits.ni)
    ∙ nr_again d.old_spir d.ni (octets_text d.nr) _ d.nr (nonce_long d.nr fits.nr) (nonce_again d.nr fits.nr)
    ∙ spii_again d.old_spir d.ni d.nr (spi_text d.spii) (spi_text d.spir) d.spii (spi_long d.spii) (spi_again d.spii fits.spii)
    ∙ spir_again d (spi_text d.spir) (spi_again d.spir fits.spir)

abbrev pub origin_in : List ℕ → Reading KeyOrigin
origin_in [] = Err Word
origin_in (c ∷ w) =
    if eqb c 105 then spi_in_word w >>= (λ spir. Ok (origins.Imported spir))
    else if eqb c 114 then derivation_in w >>= (λ d. Ok (origins.Resumed d))
    else if eqb c 116 then number_in w >>= (λ generation. Ok (origins.TicketKey generation))
    else Err Word

pub origin_again : (origin : KeyOrigin) → FitsOrigin origin → origin_in (origin_text origin) ≡ Ok origin
origin_again (origins.Imported spir) fits = rw (spi_again spir fits) refl
origin_again (origins.Resumed d) fits = rw (derivation_again d fits) refl
origin_again (origins.TicketKey generation) fits = rw (number_again generation fits) refl
