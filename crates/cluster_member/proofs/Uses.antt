-- What is held once numbers were used: the forms in which proofs go from horizons to the rules.
use Rattle.std.proofs.Common.{ℕ, ◌+◌, ◌≡◌, false, None, List, [], Result, Ok, Err}
use Rattle.events.specs.declared.turn.Step.{Step}
use Rattle.events.specs.declared.verdict.EspVerdict.{EspVerdict}
use Rattle.events.specs.declared.verdict.EspVerdict.TheVariants as esp
use Rattle.events.specs.declared.verdict.Verdict.TheVariants as out
use Rattle.ha_base.specs.declared.esp_outcomes.EspDrop.{EspDrop}
use Rattle.ha_base.specs.declared.esp_outcomes.EspOpened.{EspOpened}
use Rattle.horizons.specs.Ready.{Ready}
use Rattle.keeper_book.specs.Counters.{five_at, with_five}
use Rattle.keeper_book.specs.declared.calls.Call.{Call}
use Rattle.keeper_book.specs.declared.counters.Counter.{Counter}
use Rattle.keeper_book.specs.declared.counters.Counter.TheVariants as counter
use Rattle.ike_values.specs.Values.{PayloadValue}
use Rattle.cluster_member.specs.Answering.{covered_below}
use Rattle.turn_rules.specs.Draws.{counter_name, reach_of, refusal_of_stop}
use Rattle.turn_rules.specs.Held.{Held}
use Rattle.turn_rules.specs.IkeState.{kept_under, outstanding_after}
use Rattle.turn_rules.specs.MemberMessages.{held_ike}
use Rattle.turn_rules.specs.MemberPackets.{inbound_of, outbound_of}
use Rattle.turn_rules.specs.Messages.{SendsRequest}
use Rattle.turn_rules.specs.Packets.{SendsEsp, noted}
use Rattle.turn_rules.specs.Steps.{RefusesThen, Says}

-- what is held once the next ESP number was used below this high
abbrev pub sent_below : ℕ → Held → Held
sent_below high held = record held {
  nexts = with_five counter.EspOut (five_at held.nexts counter.EspOut + 1) held.nexts;
  highs = with_five counter.EspOut high held.highs;
}

-- what is held once the number of a packet was noted below this high
abbrev pub received_below : ℕ → ℕ → Held → Held
received_below number high held = record held {
  highs = with_five counter.EspIn high held.highs;
  window = (noted number (inbound_of held)).window;
}

-- the next ESP number is used, once it is ready, and this is done with it
abbrev pub UsesNext : Held → Type 0 → List Call → Step → Held → Type 0
UsesNext held done calls step now = Ready (reach_of held counter.EspOut)
    (five_at held.nexts counter.EspOut) calls
    (λ why rest. (rest ≡ []) × Says (out.Refused (refusal_of_stop why)) step × (now ≡ held))
    (λ high rest. (rest ≡ []) × done × (now ≡ sent_below high held))

-- it is drawn
abbrev pub DrawsNext : Held → List Call → Step → Held → Type 0
DrawsNext held calls step now = UsesNext held (Says
    (out.Number (five_at held.nexts counter.EspOut)) step) calls step now

-- a payload is sent under it
abbrev pub SendsNext : Held → List ℕ → List Call → Step → Held → Type 0
SendsNext held payload calls step now =
    UsesNext held
    (SendsEsp (outbound_of held)
    (five_at held.nexts counter.EspOut) payload step) calls step now

-- a packet that was opened is noted once its number is ready
abbrev pub Notes : Held → Result EspOpened EspDrop → List Call → EspVerdict → Held → Type 0
Notes held (Err why) calls answer now = (calls ≡ []) × (answer ≡ esp.Dropped why) × (now ≡ held)
Notes held (Ok packet) calls answer now = Ready (reach_of held counter.EspIn) packet.number calls
    (λ why rest. (rest ≡ []) × (answer ≡ esp.Refused (refusal_of_stop why)) × (now ≡ held))
    (λ high rest. (rest ≡ []) × (answer ≡ esp.Accepted (counter_name held.sa counter.EspIn) packet)
    × (now ≡ received_below packet.number high held))

-- a number is made ready, and then the next IV, and this is done below both highs; what was covered
-- first stays so where the IV is refused
abbrev pub UsesWithIv : Held → Counter → ℕ → (ℕ → ℕ → Type 0) → List Call → Step → Held → Type 0
UsesWithIv held c at done calls step now = Ready (reach_of held c) at calls
    (λ why rest. RefusesThen (refusal_of_stop why) rest step × (now ≡ held))
    (λ high rest. Ready (reach_of held counter.Iv) held.nexts.iv rest
    (λ why more. RefusesThen (refusal_of_stop why) more step × (now ≡ covered_below c high held))
    (λ above more. (more ≡ []) × done high above))

-- what is held once a request was sent under the next Message ID and the next IV, below these highs
abbrev pub asked_below : ℕ → ℕ → Step → Held → Held
asked_below high above step held = record held {
  nexts = record held.nexts { ask = held.nexts.ask + 1; iv = held.nexts.iv + 1 };
  highs = record held.highs { ask = high; iv = above };
  asked = outstanding_after false (kept_under held.nexts.ask step.gives) None held.asked;
}

-- a request is sent under the next Message ID and the next IV, once both are ready
abbrev pub AsksNext : Held → List PayloadValue → List Call → Step → Held → Type 0
AsksNext held payloads calls step now = UsesWithIv held counter.Ask held.nexts.ask (λ high above.
    SendsRequest (held_ike held) held.nexts.ask held.nexts.iv payloads step
    × (now ≡ asked_below high above step held)) calls step now
