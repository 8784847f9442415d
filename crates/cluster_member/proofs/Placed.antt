-- What a member holds of all its associations after a task, by what one of them is then.
use Rattle.std.proofs.Common.{◌≡◌, ℕ, ◌==◌, Bool, true, false, Option, Some, None, List, [], refl, ap, sym, ◌∙◌, subst}
use Rattle.std.proofs.lemmas.Bool.{eqb-false, eqb-true}
use Rattle.std.specs.Option.{option_map}
use Rattle.events.specs.declared.turn.Step.{Step}
use Rattle.events.specs.declared.verdict.Refusal.{Refusal}
use Rattle.events.specs.declared.verdict.Verdict.TheVariants as out
use Rattle.events.specs.declared.verdict.EspVerdict.TheVariants as esp
use Rattle.ha_base.specs.declared.counter_names.End.TheVariants as end
use Rattle.ha_base.specs.declared.esp_outcomes.EspDrop.{EspDrop}
use Rattle.keeper_book.specs.declared.calls.Call.{Call}
use Rattle.turn_rules.proofs.Readies.{none-vain}
use Rattle.turn_rules.proofs.Ties.{used-receiving}
use Rattle.turn_rules.specs.Held.{Held, accepted, advanced, held_begun, first_some, grant_in, held_after, held_at}
use Rattle.turn_rules.specs.Packets.{IsVerdictOf}
use Rattle.turn_rules.specs.Steps.{IsQuiet, Says}
use Rattle.turn_rules.specs.Tasks as task
use Rattle.turn_rules.specs.Tasks.{Task}
use Rattle.cluster_member.proofs.Advancing.{received-no-message, refused-unmoved, unmoved}
use Rattle.cluster_member.specs.Members.{HoldsAfter, HoldsOn}
use Rattle.cluster_member.specs.Places.{KeepsOthers}
use Rattle.cluster_member.specs.Advances.{Advances}

module _ (size : ℕ) (asked : Task) (calls : List Call) (step : Step) where
  -- a turn that grants nothing of an association, and makes nothing of it
  pub stays-held : (spir : ℕ) → grant_in spir calls ≡ None → ((held : Held) → advanced spir asked calls step held ≡ held) → (x : Option Held) → held_after size spir asked calls step x ≡ x
  stays-held spir none stays None = ap (λ g. first_some (option_map (held_begun size) g) None) none
  stays-held spir none stays (Some held) = ap (λ g. first_some (option_map (held_begun size) g) (Some (advanced spir asked calls step held))) none ∙ ap Some (stays held)

  -- one association is held as the turn makes it, and the others as before
  pub placed : (spir : ℕ) (held now : Held) (old new : List Held) → held.sa.spir ≡ spir → held_at old spir ≡ Some held → held_at new spir ≡ Some now → KeepsOthers spir old new → Advances held asked calls step now
      → HoldsAfter size asked calls step old new
  placed spir held now old new is was holds others advances s = by_test (spir == s) refl
    where
      by_test : (b : Bool) → (spir == s) ≡ b → held_at new s ≡ held_after size s asked calls step (held_at old s)
      by_test true e =
          subst (λ n. held_at new n ≡ held_after size n asked calls step (held_at old n)) (eqb-true spir s e)
          (holds
          ∙ ap Some (advances.now ∙ ap (λ n. advanced n asked calls step held) is)
          ∙ sym (ap (λ g. first_some (option_map (held_begun size) g) (Some (advanced spir asked calls step held))) (advances.no_grant spir))
          ∙ sym (ap (held_after size spir asked calls step) was))
      by_test false e =
          others s (λ same. eqb-false spir s e (sym same))
          ∙ sym (stays-held s (advances.no_grant s) (advances.elsewhere s (ap (λ n. n == s) is ∙ e)) (held_at old s))

-- what is refused without a call leaves what is held
pub refused-holds : (asked : Task) (step : Step) (why : Refusal) (held : List Held) → Says (out.Refused why) step → HoldsOn asked [] step held held
refused-holds asked step why held says size s = sym (stays-held size asked [] step s refl (refused-unmoved asked [] step why (none-vain [] refl) says s) (held_at held s))

-- and so does a packet that is dropped
pub dropped-holds : (step : Step) (why : EspDrop) (after : List ℕ) (held : List Held) → IsVerdictOf (esp.Dropped why) after step.verdict → IsQuiet step → HoldsOn task.Receive [] step held held
dropped-holds step why after held said quiet size s =
    sym (stays-held size task.Receive [] step s refl
    (unmoved task.Receive [] step (none-vain [] refl) (λ spir c. used-receiving end.Cluster spir c step quiet) (λ spir. ap (accepted spir) said)
    (received-no-message step (out.DroppedEsp why) said (λ spir. refl) (λ spir. refl) refl) s)
    (held_at held s))
