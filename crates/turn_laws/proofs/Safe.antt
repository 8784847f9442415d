-- What follows of whole runs.
use Rattle.std.proofs.Common.{ℕ, List}
use Rattle.std.specs.List.{AllByRecursion}
use Rattle.events.specs.declared.turn.Turn.{Turn}
use Rattle.keeper_book.specs.Book.{Book}
use Rattle.turn_laws.proofs.Accepted.{packets-once, requests-once}
use Rattle.turn_laws.proofs.Records.{answering-run}
use Rattle.turn_laws.proofs.Sealed.{no-nonce-reuse}
use Rattle.turn_rules.proofs.SlotTies.{all-weaker}
use Rattle.turn_rules.specs.Local.{Explained, Stands}
use Rattle.turn_rules.specs.Genuine.{AreAccepted}
use Rattle.turn_rules.specs.Safe.{Safe, TakesWhereServed}

-- a service executes only in turns that take a request
pub served-once : (boxes : ℕ) (past : List Turn) → Explained boxes past → AllByRecursion TakesWhereServed past
served-once boxes past local = all-weaker past (λ turn answering. answering.takes) (answering-run boxes past local)

-- a run is safe where covered genuine packets are accepted at first delivery
pub safe-run : (boxes : ℕ) (past : List Turn) (book : Book) → Explained boxes past → Stands past book → AreAccepted past → Safe past
safe-run boxes past book local stands accepted = record {
  no_nonce_reuse = no-nonce-reuse boxes past book local stands;
  packets_once = packets-once boxes past book local stands;
  genuine_accepted = accepted;
  requests_once = requests-once boxes past book local stands;
  served_once = served-once boxes past local;
}
