-- A request that the window has as old is one that is dropped.
use Rattle.std.proofs.Common.{◌≡◌, ◌≤◌, true, false, nat_lt, refl, arith}
use Rattle.std.proofs.lemmas.Bool.Decides.{nat_tests}
use Rattle.ike_sas.specs.Arrivals.{IsOrdinaryRequest}
use Rattle.ike_sas.specs.Held.{IkeHeld}
use Rattle.ike_sas.specs.declared.arrival.Arrival.TheVariants as arrival
use Rattle.events.specs.declared.ike_outcomes.IkeDrop.TheVariants as drop
use Rattle.ike_window.specs.Requests.{IsRequestJudgedBy}
use Rattle.ike_window.specs.Windows.{IsAnswered}
use Rattle.ike_window.specs.declared.judged.Judged.TheVariants as judged
use Rattle.sk_payload.specs.declared.open.Opened.{Opened}

pub old_by_window : (held : IkeHeld) (opened : Opened) → held.answered.floor ≤ opened.header.id → held.synced ≡ true →
    IsRequestJudgedBy held.answered.floor held.answered.low (IsAnswered held.answered) opened.header.id judged.Old →
    IsOrdinaryRequest held opened (arrival.Dropped (drop.Old opened.header.id))
old_by_window held opened from synced is =
    let above : nat_lt opened.header.id held.answered.floor ≡ false = grind (arith, nat_tests) in
    rw above (rw synced (judged.Old, is, refl))
