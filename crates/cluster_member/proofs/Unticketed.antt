-- Calls and verdicts by which no number of a ticket was leased or used.
use Rattle.std.proofs.Common.{◌≡◌, ℕ, Option, Some, None, List, [], ◌∷◌, ◌++◌, Result, Ok, Err, ⊎_elim, refl, ap, sym, ◌∙◌, length}
use Rattle.std.proofs.lemmas.Bool.{cases_lt}
use Rattle.events.specs.declared.turn.Step.{Step}
use Rattle.events.specs.declared.verdict.EspVerdict.{EspVerdict}
use Rattle.events.specs.declared.verdict.EspVerdict.TheVariants as esp
use Rattle.events.specs.declared.verdict.Verdict.{Verdict}
use Rattle.events.specs.declared.verdict.Verdict.TheVariants as out
use Rattle.ha_base.specs.declared.esp_outcomes.EspDrop.{EspDrop}
use Rattle.ha_base.specs.declared.esp_outcomes.EspOpened.{EspOpened}
use Rattle.horizons.specs.Reaches.{Reach, cover_of}
use Rattle.horizons.specs.Ready.{Covers, Ready}
use Rattle.horizons.specs.declared.stop.Stop.{Stop}
use Rattle.horizons.specs.declared.stop.Stop.TheVariants as stop
use Rattle.ike_values.specs.Values.{PayloadValue}
use Rattle.ike_window.specs.Kept.{kept_octets}
use Rattle.keeper_book.specs.Told.{seen}
use Rattle.keeper_book.specs.declared.calls.Call.{Call}
use Rattle.keeper_book.specs.declared.calls.KeeperAnswer.{KeeperAnswer}
use Rattle.keeper_book.specs.declared.calls.KeeperAnswer.TheVariants as answer
use Rattle.keeper_book.specs.declared.counters.Counter.{Counter}
use Rattle.keeper_book.specs.declared.counters.Counter.TheVariants as counter
use Rattle.sk_payload.specs.declared.open.Opened.{Opened}
use Rattle.spend_once.specs.Lot.{Remaining}
use Rattle.turn_rules.proofs.Cases.{by_bool, by_option}
use Rattle.turn_rules.proofs.Readies.{ready-map}
use Rattle.turn_rules.specs.Draws.{Concludes, Grants, TakesOver, counter_name, reach_of, refusal_of_stop, refusal_of_takeover}
use Rattle.turn_rules.specs.Fits.{DrawsOf, SendsOf}
use Rattle.turn_rules.specs.Held.{Held, first_some}
use Rattle.turn_rules.specs.MemberMessages.{AsksOf, HeldTakesSync, KeepsNothing, ReadiesWithIv, ResendsOf, SendsSync, SyncsOf, TakesSyncAnswer, awaits_sync, held_ike, of_spii, sync_id}
use Rattle.turn_rules.specs.MemberPackets.{MemberReceives, TakesPacket, outbound_of}
use Rattle.turn_rules.specs.Messages.{SendsRequest, TakesInner}
use Rattle.ha_base.specs.declared.counter_names.CounterName.{CounterName}
use Rattle.ike_values.specs.declared.fault.Bad.{Bad}
use Rattle.sync_exchange.specs.declared.sync_drop.SyncDrop.{SyncDrop}
use Rattle.sync_exchange.specs.declared.sync_drop.SyncDrop.TheVariants as reason
use Rattle.cluster_member.specs.Arriving.{TakesWhereHeld}
use Rattle.sk_payload.specs.declared.open.Opened.{Opened}
use Rattle.turn_rules.specs.Packets.{IsVerdictOf, SendsEsp}
use Rattle.turn_rules.specs.Steps.{RefusesThen, Says}
use Rattle.turn_rules.specs.TicketNumbers.{after_lease, after_ticket, first_leased, lease_in, numbers_after, ticket_number}
use Rattle.cluster_member.proofs.Readying.{answered-any, answered-onto, ready-any}

-- ---- calls

-- no number was leased by the calls that make a number ready, where none was by those behind them
module _ {S : Stop → List Call → Type 0} {G : ℕ → List Call → Type 0}
    (stops : (why : Stop) (rest : List Call) → S why rest → lease_in rest ≡ None)
    (goes : (high : ℕ) (rest : List Call) → G high rest → lease_in rest ≡ None) where
  covers-unleased : (h : Reach) (at : ℕ) (calls : List Call) → Covers h at calls S G → lease_in calls ≡ None
  covers-unleased h at [] c = absurd c
  covers-unleased h at (call ∷ rest) c =
      ap (λ a. first_some (first_leased a (seen call)) (lease_in rest)) c.0
      ∙ answered-any (seen call) (answered-onto (λ why s. stops why rest s) (λ g. goes (cover_of h at) rest g) (seen call) c.1)

  pub ready-unleased : (h : Reach) (at : ℕ) (calls : List Call) → Ready h at calls S G → lease_in calls ≡ None
  ready-unleased h at calls r = ⊎_elim (λ w. goes h.high calls (r.within w))
      (λ low. ⊎_elim (λ below. covers-unleased h at calls (r.asked low below)) (λ e. stops stop.Exhausted calls (r.ended low e)) (cases_lt at h.end))
      (cases_lt at h.high)

pub none-unleased : (calls : List Call) → calls ≡ [] → lease_in calls ≡ None
none-unleased calls none = ap lease_in none

pub lease-then : (xs ys : List Call) → lease_in xs ≡ None → lease_in (xs ++ ys) ≡ lease_in ys
lease-then [] ys none = refl
lease-then (x ∷ xs) ys none = go (λ n. lease-then xs ys n) (first_leased x.asked (seen x)) none
  where
    go : (lease_in xs ≡ None → lease_in (xs ++ ys) ≡ lease_in ys) → (first : Option ℕ) → first_some first (lease_in xs) ≡ None
        → first_some first (lease_in (xs ++ ys)) ≡ lease_in ys
    go later None none = later none
    go later (Some n) none = absurd (cc)

-- the numbers are left by such calls as they are by those behind them
pub numbers-then : (xs ys : List Call) (step : Step) (numbers : Remaining) → lease_in xs ≡ None
    → numbers_after (xs ++ ys) step numbers ≡ numbers_after ys step numbers
numbers-then xs ys step numbers none =
    ap (λ l. after_ticket (ticket_number step.verdict) (after_lease l numbers)) (lease-then xs ys none)

-- the numbers are as they were
pub record Unticketed (calls : List Call) (verdict : Verdict) : Type 0 where
  pub unleased : lease_in calls ≡ None
  pub unused : ticket_number verdict ≡ None

pub unticketed-numbers : (calls : List Call) (step : Step) (numbers : Remaining) → Unticketed calls step.verdict → numbers ≡ numbers_after calls step numbers
unticketed-numbers calls step numbers none = sym (λ i. after_ticket (none.unused i) (after_lease (none.unleased i) numbers))

pub quiet-numbers : (step : Step) (numbers : Remaining) → ticket_number step.verdict ≡ None → numbers ≡ numbers_after [] step numbers
quiet-numbers step numbers none = sym (ap (λ n. after_ticket n numbers) none)

-- ---- what is done by a number that is made ready

-- in each case the verdict has no ticket, and no call is left
module _ {S : Stop → List Call → Type 0} {G : ℕ → List Call → Type 0} (verdict : Verdict)
    (stops : (why : Stop) (rest : List Call) → S why rest → (rest ≡ []) × (ticket_number verdict ≡ None))
    (goes : (high : ℕ) (rest : List Call) → G high rest → Unticketed rest verdict) where
  pub ready-unticketed : (h : Reach) (at : ℕ) (calls : List Call) → Ready h at calls S G → Unticketed calls verdict
  ready-unticketed h at calls r = record {
    unleased = ready-unleased (λ why rest s. none-unleased rest (stops why rest s).0) (λ high rest g. (goes high rest g).unleased) h at calls r;
    unused = ready-any h at calls (ready-map {P = S} {G = G} (λ why rest s. (stops why rest s).1) (λ high rest g. (goes high rest g).unused) h at calls r);
  }

refused-unticketed : (why : _) (calls : List Call) (step : Step) → calls ≡ [] → Says (out.Refused why) step → Unticketed calls step.verdict
refused-unticketed why calls step none says = record { unleased = none-unleased calls none; unused = ap ticket_number says.said }

-- ---- the rules of what a member does

pub draws-unticketed : (x : Option Held) (calls : List Call) (step : Step) → DrawsOf x calls step → Unticketed calls step.verdict
draws-unticketed None calls step draws = refused-unticketed _ calls step draws.no_calls draws.says
draws-unticketed (Some held) calls step draws = ready-unticketed
    {S = λ why rest. Concludes rest step.verdict (out.Refused (refusal_of_stop why))}
    {G = λ high rest. Concludes rest step.verdict (out.Number held.nexts.esp_out)} step.verdict
    (λ why rest s. (s.no_more, ap ticket_number s.said))
    (λ high rest g. record { unleased = none-unleased rest g.no_more; unused = ap ticket_number g.said })
    (reach_of held counter.EspOut) held.nexts.esp_out calls draws.follows

pub sends-unticketed : (x : Option Held) (payload : List ℕ) (calls : List Call) (step : Step) → SendsOf x payload calls step → Unticketed calls step.verdict
sends-unticketed None payload calls step sends = refused-unticketed _ calls step sends.no_calls sends.says
sends-unticketed (Some held) payload calls step sends = ready-unticketed
    {S = λ why rest. (rest ≡ []) × Says (out.Refused (refusal_of_stop why)) step}
    {G = λ high rest. (rest ≡ []) × SendsEsp (outbound_of held) held.nexts.esp_out payload step} step.verdict
    (λ why rest s. (s.0, ap ticket_number s.1.said))
    (λ high rest g. record { unleased = none-unleased rest g.0; unused = ap ticket_number g.1.said })
    (reach_of held counter.EspOut) held.nexts.esp_out calls sends

-- a number and the next IV
with-iv-unticketed : (held : Held) (c : Counter) (at : ℕ) (calls : List Call) (step : Step) (D : Type 0) → (D → ticket_number step.verdict ≡ None)
    → ReadiesWithIv held c at calls step D → Unticketed calls step.verdict
with-iv-unticketed held c at calls step D says readies = ready-unticketed
    {S = λ why rest. RefusesThen (refusal_of_stop why) rest step}
    {G = λ high rest. Ready (reach_of held counter.Iv) held.nexts.iv rest (λ why more. RefusesThen (refusal_of_stop why) more step) (λ above more. (more ≡ []) × D)}
    step.verdict
    (λ why rest s. (s.0, ap ticket_number s.1.said))
    (λ high rest r. ready-unticketed
    {S = λ why more. RefusesThen (refusal_of_stop why) more step} {G = λ above more. (more ≡ []) × D} step.verdict
    (λ why more s. (s.0, ap ticket_number s.1.said))
    (λ above more g. record { unleased = none-unleased more g.0; unused = says g.1 })
    (reach_of held counter.Iv) held.nexts.iv rest r)
    (reach_of held c) at calls readies

pub asks-unticketed : (x : Option Held) (payloads : List PayloadValue) (calls : List Call) (step : Step) → AsksOf x payloads calls step → Unticketed calls step.verdict
asks-unticketed None payloads calls step asks = refused-unticketed _ calls step asks.0 asks.1
asks-unticketed (Some held) payloads calls step asks = by_bool held.synced
    (λ windowed. ⊎_elim
    (λ fits. with-iv-unticketed held counter.Ask held.nexts.ask calls step (SendsRequest (held_ike held) held.nexts.ask held.nexts.iv payloads step)
    (λ sends. ap ticket_number sends.said) fits.1)
    (λ full. refused-unticketed _ calls step full.3.0 full.3.1) windowed)
    (λ unsynced. refused-unticketed _ calls step unsynced.0 unsynced.1) asks

pub syncs-unticketed : (fresh : List ℕ) (x : Option Held) (calls : List Call) (step : Step) → SyncsOf fresh x calls step → Unticketed calls step.verdict
syncs-unticketed fresh None calls step syncs = refused-unticketed _ calls step syncs.0 syncs.1
syncs-unticketed fresh (Some held) calls step syncs = by_bool held.synced
    (λ synced. refused-unticketed _ calls step synced.0 synced.1)
    (λ readies. with-iv-unticketed held counter.Ask (sync_id held) calls step (SendsSync fresh held held.nexts.iv step) (λ sends. ap ticket_number sends.said) readies)
    syncs

pub resends-unused : (x : Option Held) (id : ℕ) (step : Step) → ResendsOf x id [] step → ticket_number step.verdict ≡ None
resends-unused None id step resends = ap ticket_number resends.1.said
resends-unused (Some held) id step resends = by_option (kept_octets id held.asked)
    (λ none says. ap ticket_number says.said)
    (λ octets some gives. ap ticket_number gives.said)
    resends.1

grants-unused : (spir : ℕ) (answered : KeeperAnswer) (verdict : Verdict) → Grants spir answered verdict → ticket_number verdict ≡ None
grants-unused spir answer.Done verdict g = absurd g
grants-unused spir (answer.Taken taken) verdict g = ap ticket_number g.1
grants-unused spir (answer.First first) verdict g = absurd g
grants-unused spir (answer.Look spent) verdict g = absurd g
grants-unused spir (answer.Refused why) verdict g = by_option (refusal_of_takeover why) (λ none no. absurd no) (λ r some is. ap ticket_number is) g

pub takes-unticketed : (spir member : ℕ) (calls : List Call) (verdict : Verdict) → TakesOver spir member calls verdict → Unticketed calls verdict
takes-unticketed spir member [] verdict takes = absurd takes
takes-unticketed spir member (call ∷ []) verdict takes = record {
  unleased = ap (λ a. first_some (first_leased a (seen call)) None) takes.0;
  unused = grants-unused spir (seen call) verdict takes.1;
}
takes-unticketed spir member (call ∷ other ∷ more) verdict takes = absurd takes

packet-unused : (answered : EspVerdict) (after : List ℕ) (verdict : Verdict) → IsVerdictOf answered after verdict → ticket_number verdict ≡ None
packet-unused (esp.Accepted name packet) after verdict is = ap ticket_number is.2
packet-unused (esp.Dropped why) after verdict is = ap ticket_number is
packet-unused (esp.Refused why) after verdict is = ap ticket_number is

packet-unleased : (held : Held) (opened : Result EspOpened EspDrop) (calls : List Call) (answered : EspVerdict) → TakesPacket held opened calls answered → lease_in calls ≡ None
packet-unleased held (Err why) calls answered takes = none-unleased calls takes.0
packet-unleased held (Ok packet) calls answered takes = ready-unleased
    {S = λ why rest. (rest ≡ []) × (answered ≡ esp.Refused (refusal_of_stop why))}
    {G = λ high rest. (rest ≡ []) × (answered ≡ esp.Accepted (counter_name held.sa counter.EspIn) packet)}
    (λ why rest s. none-unleased rest s.0) (λ high rest g. none-unleased rest g.0)
    (reach_of held counter.EspIn) packet.number calls takes

pub receives-unticketed : (held : ℕ → Option Held) (octets : List ℕ) (calls : List Call) (answered : EspVerdict) (after : List ℕ) (step : Step)
    → MemberReceives held octets calls answered after → IsVerdictOf answered after step.verdict → Unticketed calls step.verdict
receives-unticketed held octets calls answered after step receives worded = record {
  unleased = ⊎_elim
      (λ short. none-unleased calls (receives.short short).0)
      (λ long. ⊎_elim (λ nowhere. none-unleased calls nowhere.1.0) (λ r. packet-unleased r.receiver r.receives.opened calls answered r.receives.takes) (receives.long long))
      (cases_lt (length octets) 34);
  unused = packet-unused answered after step.verdict worded;
}

-- ---- responses

inner-unused : (name : CounterName) (id : ℕ) (inner : Result (List PayloadValue) Bad) (step : Step) → TakesInner KeepsNothing name id inner step → ticket_number step.verdict ≡ None
inner-unused name id (Ok payloads) step takes = ap ticket_number takes.2.says.said
inner-unused name id (Err bad) step takes = absurd takes

pub takes-there-unused : (held_by : ℕ → Option Held) (response : Opened) (step : Step)
    → TakesWhereHeld held_by response (λ h. TakesInner KeepsNothing (counter_name h.sa counter.Ask) response.header.id response.inner step) → ticket_number step.verdict ≡ None
takes-there-unused held_by response step = by_option (of_spii response.header.spii (held_by response.header.spir))
    (λ none no-one. absurd no-one)
    (λ h some takes. inner-unused (counter_name h.sa counter.Ask) response.header.id response.inner step takes)

sync-answer-unused : (held : Held) (answered : Result (ℕ × ℕ) SyncDrop) (step : Step) → TakesSyncAnswer held answered step → ticket_number step.verdict ≡ None
sync-answer-unused held (Ok ids) step takes = ap ticket_number takes.said
sync-answer-unused held (Err reason.Nonce) step takes = ap ticket_number takes.said
sync-answer-unused held (Err reason.NotSync) step takes = absurd takes
sync-answer-unused held (Err (reason.NotAbove id)) step takes = absurd takes
sync-answer-unused held (Err reason.Delta) step takes = absurd takes

pub takes-sync-unused : (fresh : List ℕ) (held_by : ℕ → Option Held) (response : Opened) (step : Step)
    → TakesWhereHeld held_by response (λ h. HeldTakesSync fresh h response [] step) → ticket_number step.verdict ≡ None
takes-sync-unused fresh held_by response step = by_option (of_spii response.header.spii (held_by response.header.spir))
    (λ none no-one. absurd no-one)
    (λ h some takes. by_option (awaits_sync h)
    (λ none says. ap ticket_number says.said)
    (λ id some t. sync-answer-unused h t.answer step t.takes) takes.1)
