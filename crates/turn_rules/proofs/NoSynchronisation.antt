-- What is no synchronisation makes nothing of the counters.
use Rattle.std.proofs.Common.{◌≡◌, ℕ, Bool, true, false, None, refl, ap}
use Rattle.events.specs.declared.verdict.Refusal.{Refusal}
use Rattle.events.specs.declared.verdict.Verdict.{Verdict}
use Rattle.events.specs.declared.verdict.Verdict.TheVariants as out
use Rattle.keeper_book.specs.declared.counters.Counter.{Counter}
use Rattle.keeper_book.specs.declared.counters.Counter.TheVariants as counter
use Rattle.turn_rules.specs.IkeState.{heard_in, taken_id}
use Rattle.turn_rules.specs.Synchronised.{agreed_in, announced_in, jumped_in, next_in}
use Rattle.turn_rules.specs.Tasks as task
use Rattle.turn_rules.specs.Tasks.{Task}

-- a member asked for it, or an end took something on
abbrev pub is_of_sync : Verdict → Bool
is_of_sync (out.Syncing m1 p1) = true
is_of_sync (out.SyncAccepted name p2 m2 delta unknown) = true
is_of_sync (out.Synced name next floor) = true
is_of_sync verdict = false

pub agreed-none : (spir : ℕ) (asked : Task) (verdict : Verdict) → is_of_sync verdict ≡ false → agreed_in spir asked verdict ≡ None
agreed-none spir task.Receive (out.SyncAccepted name p2 m2 delta unknown) other = absurd (cc)
agreed-none spir task.Receive (out.Synced name next floor) other = absurd (cc)
agreed-none spir asked verdict other = refl

pub announced-none : (spir : ℕ) (asked : Task) (verdict : Verdict) → is_of_sync verdict ≡ false → announced_in spir asked verdict ≡ None
announced-none spir (task.Sync of) (out.Syncing m1 p1) other = absurd (cc)
announced-none spir asked verdict other = refl

pub jumped-none : (spir : ℕ) (c : Counter) (asked : Task) (verdict : Verdict) → is_of_sync verdict ≡ false → jumped_in spir c asked verdict ≡ None
jumped-none spir counter.Ask (task.Sync of) verdict other = announced-none spir (task.Sync of) verdict other
jumped-none spir counter.Ask task.Receive verdict other = ap next_in (agreed-none spir task.Receive verdict other)
jumped-none spir c asked verdict other = refl

-- what came to be known of the cluster's Message IDs is then what was taken
pub heard-taken : (spir : ℕ) (verdict : Verdict) → is_of_sync verdict ≡ false → heard_in spir task.Receive verdict ≡ taken_id spir verdict
heard-taken spir (out.SyncAccepted name p2 m2 delta unknown) other = absurd (cc)
heard-taken spir verdict other = refl

pub heard-refused : (spir : ℕ) (asked : Task) (why : Refusal) → heard_in spir asked (out.Refused why) ≡ None
heard-refused spir task.Receive why = refl
heard-refused spir asked why = refl
