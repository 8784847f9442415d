-- What a member sends to synchronise, by the payloads that it prepared.
use Rattle.std.specs.Prelude.{◌≡◌, ℕ, None, List}
use Rattle.events.specs.declared.turn.Step.{Step}
use Rattle.events.specs.declared.verdict.Verdict.TheVariants as out
use Rattle.ike_sas.specs.Held.{IkeHeld, request_header}
use Rattle.ike_sas.specs.declared.synchronising.TheConstants.{SYNC_DELTA}
use Rattle.ike_values.specs.Values.{PayloadValue}
use Rattle.keeper_book.specs.declared.calls.Call.{Call}
use Rattle.keeper_book.specs.declared.counters.Counter.TheVariants as counter
use Rattle.sync_exchange.specs.Laws.{request_with}
use Rattle.turn_rules.specs.Held.{Held}
use Rattle.turn_rules.specs.MemberMessages.{ReadiesWithIv, SendsSync, sync_id, sync_ids}
use Rattle.turn_rules.specs.Messages.{SendsMessage}

-- a request to synchronise was sent under an IV, which announces this Message ID
pub record Announces (held : IkeHeld) (id iv : ℕ) (payloads : List PayloadValue)
    (step : Step) : Type 0 where
  pub said : step.verdict ≡ out.Syncing id held.answered.floor
  pub served : step.served ≡ None
  pub sends : SendsMessage held iv (request_header held.keys 0) payloads step

-- the payloads are those of the request that a member with these fresh octets sends
abbrev pub AreOfSync : List ℕ → Held → List PayloadValue → Type 0
AreOfSync fresh held payloads = payloads ≡ request_with (sync_ids fresh held) SYNC_DELTA

-- a request with these payloads is sent, once the Message ID that it announces and an IV are ready
abbrev pub SendsPrepared : List PayloadValue → Held → List Call → Step → Type 0
SendsPrepared payloads held calls step = (fresh : List ℕ) → AreOfSync fresh held payloads
    → ReadiesWithIv held counter.Ask (sync_id held) calls step
    (SendsSync fresh held held.nexts.iv step)
