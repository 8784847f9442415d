-- What a member holds after a takeover.
use Rattle.std.proofs.Common.{◌≡◌, ℕ, ◌==◌, Bool, true, false, Option, Some, None, List, [], ◌∷◌, refl, ap, sym, ◌∙◌, if◌then◌else◌}
use Rattle.std.proofs.lemmas.Bool.{eqb-false, eqb-true}
use Rattle.std.specs.Option.{option_map}
use Rattle.events.specs.declared.turn.Step.{Step}
use Rattle.keeper_book.specs.Told.{seen}
use Rattle.keeper_book.specs.declared.calls.Call.{Call}
use Rattle.keeper_book.specs.declared.calls.KeeperAnswer.TheVariants as answer
use Rattle.keeper_book.specs.declared.calls.KeeperAsk.TheVariants as ask
use Rattle.keeper_book.specs.declared.records.Taken.{Taken}
use Rattle.turn_rules.specs.Held.{Held, advanced, held_begun, first_some, grant_in, granted, held_after, held_at}
use Rattle.turn_rules.specs.Tasks as task
use Rattle.cluster_member.specs.Members.{HoldsAfter}
use Rattle.cluster_member.specs.Places.{KeepsOthers}

module _ (size spir member : ℕ) (call : Call) (step : Step) (asked : call.asked ≡ ask.TakeOver spir member) (sealed : step.seals ≡ []) where
  -- a takeover seals nothing, and uses and covers no number
  unmoved-by : (s : ℕ) (x : Option Held) → option_map (advanced s (task.TakeOver spir) (call ∷ []) step) x ≡ x
  unmoved-by s None = refl
  unmoved-by s (Some held) = rw (asked, sealed)

  -- an association is held as it was granted, and every other one as before
  pub took : (taken : Taken) (old new : List Held) → seen call ≡ answer.Taken taken → taken.sa.spir ≡ spir → held_at new taken.sa.spir ≡ Some (held_begun size taken) → KeepsOthers taken.sa.spir old new
      → HoldsAfter size (task.TakeOver spir) (call ∷ []) step old new
  took taken old new sees its holds others s = by_test (spir == s) refl
    where
      grants : grant_in s (call ∷ []) ≡ first_some (if spir == s then Some taken else None) None
      grants = ap (λ a. first_some (granted s a (seen call)) None) asked ∙ ap (λ k. first_some (granted s (ask.TakeOver spir member) k) None) sees

      by_test : (b : Bool) → (spir == s) ≡ b → held_at new s ≡ held_after size s (task.TakeOver spir) (call ∷ []) step (held_at old s)
      by_test true e =
          ap (held_at new) (sym (eqb-true spir s e) ∙ sym its)
          ∙ holds
          ∙ sym (ap (λ g. first_some (option_map (held_begun size) g) (option_map (advanced s (task.TakeOver spir) (call ∷ []) step) (held_at old s))) (grants ∙ ap (λ b. first_some (if b then Some taken else None) None) e))
      by_test false e =
          others s (λ same. eqb-false spir s e (sym its ∙ sym same))
          ∙ sym (unmoved-by s (held_at old s))
          ∙ sym (ap (λ g. first_some (option_map (held_begun size) g) (option_map (advanced s (task.TakeOver spir) (call ∷ []) step) (held_at old s))) (grants ∙ ap (λ b. first_some (if b then Some taken else None) None) e))
