-- The first slot that passes a test, by the place where it stands.
use Rattle.std.proofs.Common.{◌≡◌, ℕ, zero, suc, ◌<◌, ◌==◌, Bool, true, false, List, [], ◌∷◌, ◌++◌, length, take, Some, None, get_or, refl, ap, sym, ◌∙◌, arith}
use Rattle.std.proofs.lemmas.Bool.{and_parts, eqb-true}
use Rattle.turn_rules.specs.Slots.{Slot, first_slot, has_spir}
use Rattle.cluster_peer.specs.Slots.{IsFirstSlot}

-- a live association of a responder's SPI has it
pub its-spir : (spir : ℕ) (slot : Slot) → has_spir spir slot ≡ true → slot.sa.spir ≡ spir
its-spir spir slot is = eqb-true slot.sa.spir spir (and_parts slot.live (slot.sa.spir == spir) is).1

module _ (test : Slot → Bool) where
  here : (s : Slot) (ss : List Slot) → test s ≡ true → first_slot test (s ∷ ss) ≡ Some s
  here s ss t = rw t

  there : (s : Slot) (ss : List Slot) → test s ≡ false → first_slot test (s ∷ ss) ≡ first_slot test ss
  there s ss t = rw t

  not_here : (s : Slot) (ss : List Slot) → first_slot test (s ∷ ss) ≡ None → test s ≡ false
  not_here s ss n = go (test s) refl
    where
      go : (b : Bool) → test s ≡ b → test s ≡ false
      go false t = t
      go true t = let found : first_slot test (s ∷ ss) ≡ Some s = here s ss t in absurd (cc)

  -- where no slot passes, one more that does not changes nothing
  pub none_more : (ss : List Slot) (s : Slot) → first_slot test ss ≡ None → test s ≡ false → first_slot test (ss ++ s ∷ []) ≡ None
  none_more [] s n t = there s [] t
  none_more (x ∷ xs) s n t =
      let other = not_here x xs n in
      there x (xs ++ s ∷ []) other ∙ none_more xs s (sym (there x xs other) ∙ n) t

  first_within : (place : ℕ) (ss : List Slot) (s : Slot) → place < length ss → first_slot test (take place ss) ≡ None → test s ≡ true → s ≡ get_or ss place s → first_slot test ss ≡ Some s
  first_within place [] s w n t at = absurd (omega arith)
  first_within zero (x ∷ xs) s w n t at = here x xs (ap test (sym at) ∙ t) ∙ ap Some (sym at)
  first_within (suc k) (x ∷ xs) s w n t at =
      let other = not_here x (take k xs) n in
      there x xs other ∙ first_within k xs s (omega arith) (sym (there x (take k xs) other) ∙ n) t at

  -- the first slot is found
  pub first_at : (place : ℕ) (ss : List Slot) (s : Slot) → IsFirstSlot test place ss → s ≡ get_or ss place s → first_slot test ss ≡ Some s
  first_at place ss s is at = first_within place ss s is.within is.none_before (is.here s at) at
