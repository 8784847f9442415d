-- What a member comes to itself where it asks to synchronise.
use Rattle.std.proofs.Common.{ℕ, ◌≤◌, Bool, true, false, MatchBool, Option, Some, None, List, length, refl, arith}
use Rattle.events.specs.declared.turn.Step.{Step}
use Rattle.events.specs.declared.verdict.Refusal.TheVariants as refusal
use Rattle.events.specs.declared.verdict.Verdict.TheVariants as out
use Rattle.ike_sas.specs.Held.{request_header}
use Rattle.ike_sas.specs.declared.synchronising.TheConstants.{SYNC_DELTA}
use Rattle.keeper_book.specs.Counters.{five_at}
use Rattle.keeper_book.specs.declared.calls.Call.{Call}
use Rattle.keeper_book.specs.declared.counters.Counter.TheVariants as counter
use Rattle.sync_exchange.specs.Laws.{request_with}
use Rattle.turn_rules.proofs.KeySizes.{sized_sk_er}
use Rattle.turn_rules.proofs.Refusals.{stop-own}
use Rattle.turn_rules.specs.Draws.{refusal_of_stop}
use Rattle.turn_rules.specs.Held.{Held}
use Rattle.turn_rules.specs.MemberMessages.{HeldSyncs, ReadiesWithIv, SendsSync, SyncsOf, cluster_keys, held_ike, sync_id, sync_ids}
use Rattle.run_ends.proofs.MessageBounds.{sends_message-brief, sync-few}
use Rattle.run_ends.proofs.Messages.{readies-fold, says-proper}
use Rattle.run_ends.proofs.Verdicts.{IsProper, none-few, of-verdict}
use Rattle.turn_rules.specs.Steps.{RefusesThen}

module _ (fresh : List ℕ) (held : Held) (calls : List Call) (step : Step) where
  abbrev iv : ℕ
  iv = five_at held.nexts counter.Iv

  sends_sync : length calls ≤ 3 → SendsSync fresh held iv step → IsProper calls step
  sends_sync few s = record {
    few = few;
    said = of-verdict step.verdict (out.Syncing (sync_id held) held.answered.floor) (record { no_join = refl; heard = refl }) s.said;
    brief = sends_message-brief (held_ike held) iv (request_header (cluster_keys held.sa) 0) (request_with (sync_ids fresh held) SYNC_DELTA) step
        (sized_sk_er held.sa.size held.sa.keys held.sa.child held.sa.key_lengths) (omega (arith, sync-few (sync_ids fresh held) SYNC_DELTA)) s.sends;
    alone = s.served;
  }

  by_synced : (b : Bool) → MatchBool b (RefusesThen refusal.NoSync calls step) (ReadiesWithIv held counter.Ask (sync_id held) calls step (SendsSync fresh held iv step)) → IsProper calls step
  by_synced true r = says-proper calls step refusal.NoSync refl (none-few calls r.0) r.1
  by_synced false ready = readies-fold held counter.Ask (sync_id held) calls step (SendsSync fresh held iv step)
      (λ why few says. says-proper calls step (refusal_of_stop why) (stop-own why) few says) sends_sync ready

  held-syncs : HeldSyncs fresh held calls step → IsProper calls step
  held-syncs does = by_synced held.synced does

pub syncs-proper : (fresh : List ℕ) (held : Option Held) (calls : List Call) (step : Step) → SyncsOf fresh held calls step → IsProper calls step
syncs-proper fresh None calls step r = says-proper calls step refusal.NotOwner refl (none-few calls r.0) r.1
syncs-proper fresh (Some held) calls step does = held-syncs fresh held calls step does
