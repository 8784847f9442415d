-- What a turn makes of what is held that is none of a synchronisation.
use Rattle.std.proofs.Common.{◌≡◌, ℕ, ◌||◌, false, List}
use Rattle.std.specs.Prelude.{is_some}
use Rattle.events.specs.declared.turn.Step.{Step}
use Rattle.ha_base.specs.declared.counter_names.End.TheVariants as end
use Rattle.keeper_book.specs.Counters.{five_at}
use Rattle.keeper_book.specs.declared.calls.Call.{Call}
use Rattle.turn_rules.proofs.NoSynchronisation.{agreed-none, announced-none, is_of_sync, jumped-none}
use Rattle.turn_rules.specs.Held.{Held, advanced, after_number, after_received, covers_in, first_some, five_of, greatest, received_in, used_in}
use Rattle.turn_rules.specs.IkeState.{answered_after, outstanding_after, replied_in, request_in, response_in, with_taken}
use Rattle.turn_rules.specs.Synchronised.{after_jump, ends_in}
use Rattle.turn_rules.specs.Tasks.{Task}

abbrev pub plainly : ℕ → Task → List Call → Step → Held → Held
plainly spir asked calls step held = record held {
  nexts = five_of (λ c. after_number (used_in end.Cluster spir c asked step) (five_at held.nexts c));
  highs = five_of (λ c. greatest (five_at held.highs c) (covers_in spir c calls));
  window = after_received (received_in spir asked step.verdict) held.window;
  asked = outstanding_after false (request_in spir asked step) (replied_in spir asked step.verdict) held.asked;
  answered = with_taken (response_in spir asked step) held.answered;
}

pub plain-advanced : (spir : ℕ) (asked : Task) (calls : List Call) (step : Step) (held : Held) → is_of_sync step.verdict ≡ false → advanced spir asked
    calls step held ≡ plainly spir asked calls step held
plain-advanced spir asked calls step held plain i = record held {
  nexts = five_of (λ c. after_jump (jumped-none spir c asked step.verdict plain i)
      (after_number (used_in end.Cluster spir c asked step) (five_at held.nexts c)));
  highs = five_of (λ c. greatest (five_at held.highs c) (covers_in spir c calls));
  window = after_received (received_in spir asked step.verdict) held.window;
  asked = outstanding_after (ends_in (agreed-none spir asked step.verdict plain i)) (request_in spir asked step) (replied_in spir asked step.verdict)
      held.asked;
  answered = answered_after (agreed-none spir asked step.verdict plain i) (response_in spir asked step) held.answered;
  synced = is_some (agreed-none spir asked step.verdict plain i) || held.synced;
  attempt = first_some (announced-none spir asked step.verdict plain i) held.attempt;
}
