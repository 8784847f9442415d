-- Proposals that are read are spelled so, and what is spelled so is read.
use Rattle.std.proofs.Common.{◌≡◌, ℕ, ◌+◌, ◌-◌, ◌<◌, Bool, eqb, List, [], ◌∷◌, ◌++◌, length, take, drop, Result, Ok, refl, sym, ap, subst, ◌∙◌, arith, length-append}
use Rattle.std.specs.Prelude.{slice_index, ◌==◌}
use Rattle.std.proofs.lemmas.Bool.{ltb-false}
use Rattle.std.proofs.lemmas.List.{take-append-drop, take_at, drop_at, length-take}
use Rattle.ike_values.specs.Values.{TransformValue, ProposalValue}
use Rattle.ike_values.specs.Spelling.{is_last}
use Rattle.ike_grammar.proofs.Steps.{ProposalParts, SpellsProposal, SpellsProposals}
use Rattle.ike_values.specs.declared.fault.Bad.{Bad}
use Rattle.ike_grammar.specs.OctetRange.{IsOctets}
use Rattle.ike_grammar.specs.Faults.{◌>>=◌, Passes, two_at, many}
use Rattle.ike_grammar.specs.Proposals.{item_tests, within, behind_item, transforms_at, proposal_tests, left_tests, proposal_read, inside_at, proposal_made, proposal_at, proposals_tests, proposals_at}
use Rattle.ike_grammar.proofs.Binds.{done, bind_ok, ok_is, unless_ok, unless_passes, not_none, some_octets}
use Rattle.ike_grammar.proofs.Cells.{IsOctets-drop, IsOctets-take}
use Rattle.ike_grammar.proofs.ItemLaws.{item_found, item_octets, item_again}
use Rattle.ike_grammar.proofs.TransformLaws.{transforms_found, transforms_again}
use Rattle.ike_grammar.proofs.Shorter.{proposals_shorten}
use Rattle.ike_grammar.proofs.ManyLaws.{Items, many_found, many_again}

abbrev FoundProposal : List ℕ → ProposalValue × List ℕ → Type 0
FoundProposal bytes x = (p : ProposalParts) × SpellsProposal x.0 (length p.rest == 0) bytes p × (p.rest ≡ x.1) × IsOctets x.1

pub proposal_found : (end : ℕ) (bytes : List ℕ) (x : ProposalValue × List ℕ) → IsOctets bytes → proposal_at end bytes ≡ Ok x
    → (p : ProposalParts) × SpellsProposal x.0 (length p.rest == 0) bytes p × (p.rest ≡ x.1) × IsOctets x.1
unfolding proposal_at
proposal_found end bytes x fits e =
    let last = length (behind_item bytes) == 0 in
    let u = unless_ok (proposal_tests end bytes) (inside_at end bytes >>= λ inside. proposal_made end bytes inside) x e in
    let b = bind_ok (inside_at end bytes) (λ inside. proposal_made end bytes inside) x u.1 in
    let v = unless_ok (left_tests (end - length (behind_item bytes)) b.0.1) (Ok (proposal_read bytes b.0.0)) x b.2 in
    let size = slice_index bytes 6 in
    let item = item_found end 2 (8 + size) last bytes fits (omega arith) u.0 in
    let nothing : length b.0.1 ≡ 0 = (let le = ltb-false 0 (length b.0.1) v.0.0 in omega arith) in
    let content_fits = IsOctets-drop 8 _ (IsOctets-take (two_at bytes 2) bytes fits) in
    let all = transforms_found (slice_index bytes 7) (end - length (behind_item bytes)) (drop size (within bytes)) b.0 (IsOctets-drop size (within bytes) content_fits) b.1 nothing in
    let spi = take size (within bytes) in
    let spi_len : length spi ≡ size = omega (arith, length-take size (within bytes), item.least_fits) in
    let joined : within bytes ≡ spi ++ drop size (within bytes) = sym (take-append-drop size (within bytes)) in
    subst (FoundProposal bytes) (ok_is (proposal_read bytes b.0.0) x v.1) (
      record { reserved = slice_index bytes 1; inside = drop size (within bytes); rest = behind_item bytes },
      record {
        bytes_are = item.bytes_are ∙
            ap (λ (i : List ℕ). item_octets 2 last (slice_index bytes 1) (slice_index bytes 4) (slice_index bytes 5) size (slice_index bytes 7) i (behind_item bytes)) joined ∙
            ap (λ (k : ℕ). item_octets 2 last (slice_index bytes 1) (slice_index bytes 4) (slice_index bytes 5) k (slice_index bytes 7) (spi ++ drop size (within bytes)) (behind_item bytes)) (sym spi_len) ∙
            ap (λ (k : ℕ). item_octets 2 last (slice_index bytes 1) (slice_index bytes 4) (slice_index bytes 5) (length spi) k (spi ++ drop size (within bytes)) (behind_item bytes)) (sym all.1);
        length_fits = subst (λ (i : List ℕ). 8 + length i < 65536) joined item.fits;
        spi_fits = omega (arith, spi_len, fits 6);
        count_fits = omega (arith, all.1, fits 7);
        transforms = all.0;
      },
      refl,
      IsOctets-drop (two_at bytes 2) bytes fits,
    )

proposal_same : (number protocol : ℕ) (spi spi' : List ℕ) (transforms : List TransformValue) (rest rest' : List ℕ) → spi ≡ spi' → rest ≡ rest'
    → (let made : ProposalValue × List ℕ = (record { number = number; protocol = protocol; spi = spi; transforms = transforms }, rest) in done made)
    ≡ (let made : ProposalValue × List ℕ = (record { number = number; protocol = protocol; spi = spi'; transforms = transforms }, rest') in done made)
proposal_same number protocol spi spi' transforms rest rest' e f = rw (e, f) refl

pub proposal_again : (end : ℕ) (last : Bool) (bytes : List ℕ) (x : ProposalValue) (p : ProposalParts) → SpellsProposal x last bytes p → eqb (length p.rest) 0 ≡ last → proposal_at end bytes ≡ Ok (x, p.rest)
unfolding proposal_at
proposal_again end last bytes x p s is_last_by_length =
    let content : List ℕ = x.spi ++ p.inside in
    let octets = item_octets 2 last p.reserved x.number x.protocol (length x.spi) (length x.transforms) content p.rest in
    let item = item_again end 2 (8 + length x.spi) last p.reserved x.number x.protocol (length x.spi) (length x.transforms) content p.rest (omega (arith, length-append x.spi p.inside)) in
    let same_last : last ≡ eqb (length (behind_item octets)) 0 = sym is_last_by_length ∙ ap (λ (r : List ℕ). eqb (length r) 0) (sym item.behind_is) in
    let passes : Passes (proposal_tests end octets) = subst (λ (l : Bool). Passes (item_tests end 2 (8 + length x.spi) l octets)) same_last item.passes in
    let content_end = end - length (behind_item octets) in
    let transforms_are : drop (length x.spi) (within octets) ≡ p.inside = ap (λ (w : List ℕ). drop (length x.spi) w) item.within_is ∙ drop_at x.spi p.inside (length x.spi) refl in
    let spi_is : take (length x.spi) (within octets) ≡ x.spi = ap (λ (w : List ℕ). take (length x.spi) w) item.within_is ∙ take_at x.spi p.inside (length x.spi) refl in
    let inside : inside_at end octets ≡ Ok (x.transforms, []) = ap (λ (t : List ℕ). transforms_at content_end (length x.transforms) t) transforms_are ∙ transforms_again content_end x.transforms p.inside s.transforms in
    ap (proposal_at end) s.bytes_are ∙
    unless_passes (proposal_tests end octets) (inside_at end octets >>= λ i. proposal_made end octets i) passes ∙
    ap (λ (r : Result (List TransformValue × List ℕ) Bad). r >>= λ i. proposal_made end octets i) inside ∙
    unless_passes (left_tests content_end []) (Ok (proposal_read octets x.transforms)) (refl, tt) ∙
    proposal_same x.number x.protocol _ x.spi x.transforms _ p.rest spi_is item.behind_is

-- ---- lists of proposals: the one with nothing behind it is the last of the list

last_by_rest : (xs : List ProposalValue) (rest : List ℕ) → SpellsProposals xs rest → eqb (length rest) 0 ≡ is_last xs
last_by_rest [] rest s = ap (λ (r : List ℕ). eqb (length r) 0) s
last_by_rest (x ∷ xs) rest s = not_none (length rest) (omega (arith, ap length s.1.bytes_are))

proposals_items : (end : ℕ) → Items (proposal_at end) SpellsProposals
proposals_items end =
    record {
      shortens = proposals_shorten end;
      rest_fits = λ bytes x fits e. (proposal_found end bytes x fits e).3;
      none = refl;
      found = λ bytes x xs fits e s.
          let f = proposal_found end bytes x fits e in
          let rest : SpellsProposals xs f.0.rest = subst (λ (r : List ℕ). SpellsProposals xs r) (sym f.2) s in
          (f.0, subst (λ (l : Bool). SpellsProposal x.0 l bytes f.0) (last_by_rest xs f.0.rest rest) f.1, rest);
      empty = λ bytes s. s;
      again = λ bytes x xs s. (s.0.rest, proposal_again end (is_last xs) bytes x s.0 s.1 (last_by_rest xs s.0.rest s.2), s.2);
    }

some_proposal : (xs : List ProposalValue) (body : List ℕ) → SpellsProposals xs body → 0 < length body → 0 < length xs
some_proposal [] body s some = absurd (omega (arith, ap length s))
some_proposal (x ∷ xs) body s some = omega arith

pub proposals_found : (end : ℕ) (body : List ℕ) (xs : List ProposalValue) → IsOctets body → proposals_at end body ≡ Ok xs → (0 < length xs) × SpellsProposals xs body
unfolding proposals_at
proposals_found end body xs fits e =
    let u = unless_ok (proposals_tests end body) (many (proposal_at end) body) xs e in
    let s = many_found (proposal_at end) SpellsProposals (proposals_items end) body xs fits u.1 in
    (some_proposal xs body s (some_octets (length body) u.0.0), s)

pub proposals_again : (end : ℕ) (body : List ℕ) (xs : List ProposalValue) → 0 < length xs → SpellsProposals xs body → proposals_at end body ≡ Ok xs
unfolding proposals_at
proposals_again end body [] some s = absurd (omega arith)
proposals_again end body (x ∷ xs) some s =
    unless_passes (proposals_tests end body) (many (proposal_at end) body) (not_none (length body) (omega (arith, ap length s.1.bytes_are)), tt) ∙
    many_again (proposal_at end) SpellsProposals (proposals_items end) body (x ∷ xs) s
