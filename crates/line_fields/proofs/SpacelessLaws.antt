-- No word of a field has a space.
use Rattle.std.proofs.Common.{◌≡◌, ℕ, ◌^◌, ◌<◌, ◌≤◌, Bool, true, false, ◌&&◌, not, eqb, List, [], ◌∷◌, refl, sym, ◌∙◌, arith, inl, inr}
use Rattle.std.proofs.lemmas.Bool.{and_parts, false≢true}
use Rattle.std.proofs.lemmas.Bool.Decides.{eqb_tells}
use Rattle.std.proofs.lemmas.Fmt.{digits_decimal}
use Rattle.std.specs.Fmt.{decimal}
use Rattle.std.specs.Int.{w32, w64, to_be_bytes}
use Rattle.std.specs.List.{list_all}
use Rattle.hex.specs.Hex.{IsBytes, encode_lower}
use Rattle.ha_base.specs.declared.identities.Identity.{Identity}
use Rattle.ha_base.specs.declared.key_material.KeySize.{KeySize}
use Rattle.ha_base.specs.declared.key_material.KeySize.TheVariants.{Bits128, Bits256}
use Rattle.line_fields.specs.Numbers.{is_digit}
use Rattle.line_fields.specs.Octets.{IsOctetField, esp_spi_text, is_lower, octets_text, spi_text}
use Rattle.line_fields.specs.Identities.{IsDomainName, IsIdentity, identity_text}
use Rattle.line_fields.specs.Fields.{size_text}
use Rattle.line_fields.proofs.NumberLaws.{own}
use Rattle.line_fields.proofs.OctetLaws.{lower-encode}
use Rattle.line_fields.proofs.FieldLaws.{bytes_high, one_byte}

-- neither a space nor a line feed
abbrev pub plain_octet : ℕ → Bool
plain_octet c = not (eqb c 32) && not (eqb c 10)

abbrev pub is_plain : List ℕ → Bool
is_plain w = list_all plain_octet w

plain_from : (p : ℕ → Bool) → p 32 ≡ false → p 10 ≡ false → (c : ℕ) → p c ≡ true → plain_octet c ≡ true
plain_from p no_spaces no_feeds c h =
    elim (eqb_tells c 32) [
      | inl space ↦ absurd (false≢true (sym no_spaces ∙ (rw space.1 at h)))
      | inr other ↦
          elim (eqb_tells c 10) [
            | inl feed ↦ absurd (false≢true (sym no_feeds ∙ (rw feed.1 at h)))
            | inr neither ↦ rw (other.0, neither.0) refl
          ]
    ]

-- where each passes one test, each passes the other
pub all_also : {A : Type 0} (p q : A → Bool) → ((x : A) → p x ≡ true → q x ≡ true) → (xs : List A) → list_all p xs ≡ true → list_all q xs ≡ true
all_also p q f [] h = refl
all_also p q f (x ∷ xs) h =
    let parts = and_parts (p x) (list_all p xs) h in
    rw (f x parts.0, all_also p q f xs parts.1) refl

pub word_decimal : (n : ℕ) → n < 2 ^ 64 → is_plain (decimal n) ≡ true
word_decimal n lt = all_also is_digit plain_octet (plain_from is_digit refl refl) (decimal n) (digits_decimal own n lt)

word_encode : (bs : List ℕ) → IsBytes bs → is_plain (encode_lower bs) ≡ true
word_encode bs h = all_also is_lower plain_octet (plain_from is_lower refl refl) (encode_lower bs) (lower-encode bs h)

pub word_octets : (least most : ℕ) (xs : List ℕ) → IsOctetField least most xs → is_plain (octets_text xs) ≡ true
word_octets least most [] h = refl
word_octets least most (b ∷ bs) h = word_encode (b ∷ bs) h.bytes

pub word_spi : (n : ℕ) → is_plain (spi_text n) ≡ true
word_spi n = word_encode (to_be_bytes w64 n) (bytes_high 8 n)

pub word_esp_spi : (n : ℕ) → is_plain (esp_spi_text n) ≡ true
word_esp_spi n = word_encode (to_be_bytes w32 n) (bytes_high 4 n)

pub word_size : (size : KeySize) → is_plain (size_text size) ≡ true
word_size Bits128 = refl
word_size Bits256 = refl

pub word_identity : (i : Identity) → IsIdentity i → is_plain (identity_text i) ≡ true
word_identity i (inl h) = rw h.kind (word_octets 4 4 i.octets h.octets)
word_identity i (inr (inl h)) = rw h.kind (word_octets 16 16 i.octets h.octets)
word_identity i (inr (inr (inl h))) = rw h.kind (word_octets 1 64 i.octets h.octets)
word_identity i (inr (inr (inr (inl h)))) = rw h.kind (word_octets 1 64 i.octets h.octets)
word_identity i (inr (inr (inr (inr (inl h))))) = rw h.kind (word_octets 1 64 i.octets h.octets)
word_identity i (inr (inr (inr (inr (inr h))))) = absurd h

pub word_domain_name : (i : Identity) → IsDomainName i → is_plain (identity_text i) ≡ true
word_domain_name i h = word_identity i (inr (inr (inl h)))

pub word_octet : (n : ℕ) → n < 256 → is_plain (octets_text (n ∷ [])) ≡ true
word_octet n lt = word_encode (n ∷ []) (one_byte n lt)

pub number_word : (n limit : ℕ) → n < limit → limit ≤ 2 ^ 64 → is_plain (decimal n) ≡ true
number_word n limit lt small = word_decimal n (omega arith)
