-- The Message IDs of a member that is synchronised do not fall.
use Rattle.std.proofs.Common.{◌≡◌, ℕ, ◌≤◌, List, Ok, ap, arith}
use Rattle.ike_values.specs.Values.{PayloadValue}
use Rattle.ike_window.specs.Kept.{AllBelow, KeptMessage}
use Rattle.ike_sas.proofs.Asked.{below_later}
use Rattle.sync_exchange.specs.Answers.{IsMemberAnswer}

pub below_synced : (next floor nonce : ℕ) (payloads : List PayloadValue) (ids : ℕ × ℕ) (kept : List KeptMessage) →
    IsMemberAnswer next floor nonce payloads (Ok ids) → AllBelow next kept → AllBelow ids.0 kept
below_synced next floor nonce payloads ids kept is below = below_later next ids.0 kept (omega (arith, ap (λ p. p.0) is.3)) below
