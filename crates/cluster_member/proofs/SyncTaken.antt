-- What a holding is once the response to a request to synchronise was taken.
use Rattle.std.proofs.Common.{◌≡◌, ℕ, ◌==◌, ◌||◌, max, true, false, Option, Some, None, [], refl, ap, sym, ◌∙◌, if◌then◌else◌}
use Rattle.std.proofs.lemmas.Bool.{eq-eqb}
use Rattle.std.specs.Prelude.{is_some}
use Rattle.events.specs.declared.ike_outcomes.IkeDrop.{IkeDrop}
use Rattle.events.specs.declared.turn.Step.{Step}
use Rattle.events.specs.declared.verdict.Verdict.TheVariants as out
use Rattle.ha_base.specs.declared.counter_names.End.TheVariants as end
use Rattle.ike_window.specs.Stored.{raised_to}
use Rattle.keeper_book.specs.declared.counters.Counter.TheVariants as counter
use Rattle.turn_rules.proofs.Readies.{none-vain}
use Rattle.turn_rules.proofs.Ties.{used-receiving}
use Rattle.turn_rules.specs.CountersOf.{is_of_spir}
use Rattle.turn_rules.specs.Draws.{counter_name}
use Rattle.turn_rules.specs.Held.{Held, accepted, advanced, after_number, after_received}
use Rattle.turn_rules.specs.IkeState.{answered_after, outstanding_after, replied_in, response_to, taken_id}
use Rattle.turn_rules.specs.Steps.{Says}
use Rattle.turn_rules.specs.Synchronised.{Agreed, after_jump, agreed_in, ends_in, next_in}
use Rattle.turn_rules.specs.Tasks as task
use Rattle.cluster_member.proofs.Advancing.{received-no-message, unmoved, vain-advances}
use Rattle.cluster_member.specs.Advances.{Advances}

-- a message that is dropped changes nothing
pub drop-advances : (held now : Held) (step : Step) (why : IkeDrop) → Says (out.DroppedIke why) step → now ≡ held → Advances held task.Receive [] step now
drop-advances held now step why says = vain-advances task.Receive [] step held now (none-vain [] refl)
    (unmoved task.Receive [] step (none-vain [] refl) (λ spir c. used-receiving end.Cluster spir c step says.quiet) (λ spir. ap (accepted spir) says.said)
    (received-no-message step (out.DroppedIke why) says.said (λ spir. refl) (λ spir. refl) refl))

-- what is held once a member agreed with the peer on these Message IDs
abbrev pub synced_at : ℕ → ℕ → Held → Held
synced_at next floor held = record held {
  nexts = record held.nexts { ask = max next held.nexts.ask };
  answered = raised_to floor held.answered;
  synced = true;
}

module _ (held now : Held) (next floor : ℕ) (step : Step) (says : Says (out.Synced (counter_name held.sa counter.Answer) next floor) step) where
  abbrev agreement : Agreed
  agreement = record { next = next; floor = floor; delta = 0; ends_requests = false }

  abbrev none : Option Agreed
  none = None

  agrees : (spir : ℕ) → agreed_in spir task.Receive step.verdict ≡ (if held.sa.spir == spir then Some agreement else none)
  agrees spir =
      ap (agreed_in spir task.Receive) says.said
      ∙ ap (λ (x : Option ℕ). if is_of_spir spir x then Some agreement else none) held.sa.origin_is_own

  own : agreed_in held.sa.spir task.Receive step.verdict ≡ Some agreement
  own = agrees held.sa.spir ∙ ap (λ b. if b then Some agreement else none) (eq-eqb held.sa.spir held.sa.spir refl)

  others : (spir : ℕ) → (held.sa.spir == spir) ≡ false → agreed_in spir task.Receive step.verdict ≡ none
  others spir other = agrees spir ∙ ap (λ b. if b then Some agreement else none) other

  abbrev made : Option Agreed → Held → Held
  made agreed there = record there {
    nexts = record there.nexts { ask = after_jump (next_in agreed) there.nexts.ask };
    answered = answered_after agreed None there.answered;
    synced = is_some agreed || there.synced;
    asked = outstanding_after (ends_in agreed) None None there.asked;
  }

  makes : (spir : ℕ) (there : Held) → advanced spir task.Receive [] step there ≡ made (agreed_in spir task.Receive step.verdict) there
  makes spir there i = record there {
    nexts = record there.nexts {
      esp_out = after_number (used-receiving end.Cluster spir counter.EspOut step says.quiet i) there.nexts.esp_out;
      esp_in = after_number (used-receiving end.Cluster spir counter.EspIn step says.quiet i) there.nexts.esp_in;
      iv = after_number (used-receiving end.Cluster spir counter.Iv step says.quiet i) there.nexts.iv;
      ask = after_jump (next_in (agreed_in spir task.Receive step.verdict))
          (after_number (used-receiving end.Cluster spir counter.Ask step says.quiet i) there.nexts.ask);
      answer = after_number (used-receiving end.Cluster spir counter.Answer step says.quiet i) there.nexts.answer;
    };
    window = after_received (ap (accepted spir) says.said i) there.window;
    asked = outstanding_after (ends_in (agreed_in spir task.Receive step.verdict)) None (ap (replied_in spir task.Receive) says.said i) there.asked;
    answered = answered_after (agreed_in spir task.Receive step.verdict) (ap (λ v. response_to (taken_id spir v) step.gives) says.said i) there.answered;
    synced = is_some (agreed_in spir task.Receive step.verdict) || there.synced;
  }

  pub synced-advances : now ≡ synced_at next floor held → Advances held task.Receive [] step now
  synced-advances same = record {
    no_grant = λ spir. refl;
    now = same ∙ sym (makes held.sa.spir held ∙ ap (λ agreed. made agreed held) own);
    elsewhere = λ spir other there. makes spir there ∙ ap (λ agreed. made agreed there) (others spir other);
  }
