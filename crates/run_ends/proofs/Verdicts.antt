-- What the ends come to themselves: how it comes out, by how many calls, and how long what they send is.
use Rattle.std.proofs.Common.{◌≡◌, ℕ, ◌≤◌, Bool, true, false, Option, Some, None, Result, Ok, Err, MatchOption, List, [], ◌∷◌, length, option_to_list, ⊎_elim, refl, ap, sym, subst, arith}
use Rattle.std.proofs.lemmas.Bool.{cases_lt}
use Rattle.std.specs.List.{AllByRecursion}
use Rattle.std.specs.Option.{option_map}
use Rattle.esp_packets.specs.Packet.{spi_of}
use Rattle.events.specs.declared.turn.Step.{Step}
use Rattle.events.specs.declared.verdict.EspVerdict.{EspVerdict}
use Rattle.events.specs.declared.verdict.EspVerdict.TheVariants as esp
use Rattle.events.specs.declared.verdict.Refusal.{Refusal}
use Rattle.events.specs.declared.verdict.Refusal.TheVariants as refusal
use Rattle.events.specs.declared.verdict.Verdict.{Verdict}
use Rattle.events.specs.declared.verdict.Verdict.TheVariants as out
use Rattle.ha_base.specs.declared.counter_names.CounterName.{CounterName}
use Rattle.ha_base.specs.declared.esp_outcomes.EspDrop.{EspDrop}
use Rattle.ha_base.specs.declared.esp_outcomes.EspDrop.TheVariants as drop
use Rattle.ha_base.specs.declared.esp_outcomes.EspOpened.{EspOpened}
use Rattle.keeper_book.specs.Counters.{five_at}
use Rattle.keeper_book.specs.Told.{seen}
use Rattle.keeper_book.specs.declared.calls.Call.{Call}
use Rattle.keeper_book.specs.declared.calls.KeeperAnswer.{KeeperAnswer}
use Rattle.keeper_book.specs.declared.calls.KeeperAnswer.TheVariants as answer
use Rattle.keeper_book.specs.CounterEnds.{end_of}
use Rattle.keeper_book.specs.declared.counters.Counter.TheVariants as counter
use Rattle.keeper_book.specs.declared.faults.KeeperFault.{KeeperFault}
use Rattle.keeper_book.specs.declared.faults.KeeperFault.TheVariants as fault
use Rattle.keeper_book.specs.declared.records.Record.{Record}
use Rattle.turn_rules.proofs.KeySizes.{sized_to_cluster, sized_to_peer}
use Rattle.turn_rules.proofs.Readies.{ready-elim}
use Rattle.turn_rules.proofs.Refusals.{stop-own}
use Rattle.turn_rules.specs.Datagrams.{plain_datagram}
use Rattle.turn_rules.specs.Deliveries.{MemberTakes, PeerTakes}
use Rattle.turn_rules.specs.Draws.{Admits, Concludes, EntersRecord, Grants, TakesOver, counter_name, refusal_of_import, refusal_of_stop, refusal_of_takeover}
use Rattle.turn_rules.specs.Ends.{is_of_run}
use Rattle.turn_rules.specs.Fits.{DrawsOf, Quietly, Refuses, Refusing, SendsOf}
use Rattle.turn_rules.specs.Held.{Held}
use Rattle.turn_rules.specs.MemberPackets.{MemberReceives, TakesPacket, outbound_of}
use Rattle.turn_rules.specs.Packets.{Drops, IsVerdictOf, SendsEsp}
use Rattle.turn_rules.specs.Slots.{PeerReceives, PeerSends, Slot, SlotReceives, SlotSends, SlotTakes, first_slot, has_spir, peer_counter, receives_at, slot_outbound}
use Rattle.turn_rules.specs.Steps.{IsQuiet, Says}
use Rattle.run_ends.proofs.Bounds.{sends-short}
use Rattle.run_ends.proofs.MessageBounds.{IsBrief}
use Rattle.run_ends.specs.Parties.{IsShort}
use Rattle.run_ends.specs.Acting.{IsOfEnd}

-- a step that an end comes to itself with no service, by three calls at most, and gives nothing long
pub record IsProper (calls : List Call) (step : Step) : Type 0 where
  pub few : length calls ≤ 3
  pub said : IsOfEnd step.verdict
  pub brief : IsBrief step
  pub alone : step.served ≡ None

pub none-few : (calls : List Call) → calls ≡ [] → length calls ≤ 3
none-few calls none = omega (arith, ap length none)

pub quiet-brief : (step : Step) → step.gives ≡ None → IsBrief step
quiet-brief step none = subst (λ gives. AllByRecursion IsShort (option_to_list (option_map plain_datagram gives))) (sym none) tt

pub of-verdict : (verdict is : Verdict) → IsOfEnd is → verdict ≡ is → IsOfEnd verdict
of-verdict verdict is own same = subst IsOfEnd (sym same) own

pub of-refusal : (verdict : Verdict) (why : Refusal) → is_of_run why ≡ false → verdict ≡ out.Refused why → IsOfEnd verdict
of-refusal verdict why own = of-verdict verdict (out.Refused why) (record { no_join = refl; heard = own })

abbrev own_of : Option Refusal → Bool
own_of None = false
own_of (Some r) = is_of_run r

takeover-own : (why : KeeperFault) → own_of (refusal_of_takeover why) ≡ false
takeover-own fault.Failed = refl
takeover-own fault.Unknown = refl
takeover-own fault.Closed = refl
takeover-own (fault.Full limit) = refl
takeover-own fault.SpiInUse = refl
takeover-own (fault.Replaced epoch) = refl
takeover-own fault.Spent = refl
takeover-own fault.Memory = refl

import-own : (why : KeeperFault) → own_of (refusal_of_import why) ≡ false
import-own fault.Failed = refl
import-own fault.Unknown = refl
import-own fault.Closed = refl
import-own (fault.Full limit) = refl
import-own fault.SpiInUse = refl
import-own (fault.Replaced epoch) = refl
import-own fault.Spent = refl
import-own fault.Memory = refl

keeper-refused : (refused : Option Refusal) (verdict : Verdict) → own_of refused ≡ false → MatchOption refused ⊥ (λ r. verdict ≡ out.Refused r) → IsOfEnd verdict
keeper-refused None verdict own m = absurd m
keeper-refused (Some r) verdict own m = of-refusal verdict r own m

pub quiet-proper : (calls : List Call) (step : Step) → length calls ≤ 3 → IsOfEnd step.verdict → IsQuiet step → IsProper calls step
quiet-proper calls step few said quiet = record { few = few; said = said; brief = quiet-brief step quiet.gives; alone = quiet.served }

pub takes-proper : (spir member : ℕ) (calls : List Call) (step : Step) → Quietly (TakesOver spir member) calls step → IsProper calls step
takes-proper spir member calls step quietly = go calls quietly.follows
  where
    granted : (answered : KeeperAnswer) → Grants spir answered step.verdict → IsOfEnd step.verdict
    granted answer.Done g = absurd g
    granted (answer.First first) g = absurd g
    granted (answer.Look spent) g = absurd g
    granted (answer.Taken taken) g = of-verdict step.verdict (out.Owned taken.epoch taken.bases) (record { no_join = refl; heard = refl }) g.1
    granted (answer.Refused why) g = keeper-refused (refusal_of_takeover why) step.verdict (takeover-own why) g

    go : (calls : List Call) → TakesOver spir member calls step.verdict → IsProper calls step
    go [] t = absurd t
    go (call ∷ []) t = quiet-proper (call ∷ []) step (omega arith) (granted (seen call) t.1) quietly.quiet
    go (call ∷ other ∷ more) t = absurd t

pub enters-proper : (sa : Record) (calls : List Call) (step : Step) → Quietly (EntersRecord sa) calls step → IsProper calls step
enters-proper sa calls step quietly = go calls quietly.follows
  where
    admitted : (answered : KeeperAnswer) → Admits answered step.verdict → IsOfEnd step.verdict
    admitted answer.Done a = of-verdict step.verdict out.Entered (record { no_join = refl; heard = refl }) a
    admitted (answer.Taken taken) a = absurd a
    admitted (answer.First first) a = absurd a
    admitted (answer.Look spent) a = absurd a
    admitted (answer.Refused why) a = keeper-refused (refusal_of_import why) step.verdict (import-own why) a

    go : (calls : List Call) → EntersRecord sa calls step.verdict → IsProper calls step
    go [] e = absurd e
    go (call ∷ []) e = quiet-proper (call ∷ []) step (omega arith) (admitted (seen call) e.1) quietly.quiet
    go (call ∷ other ∷ more) e = absurd e

refuses-proper : (calls : List Call) (step : Step) (why : Refusal) → is_of_run why ≡ false → Refuses why calls step → IsProper calls step
refuses-proper calls step why own r = quiet-proper calls step (none-few calls r.no_calls) (of-refusal step.verdict why own r.says.said) r.says.quiet

pub imports-proper : (sa : Record) (clash : Bool) (calls : List Call) (step : Step) → Refusing clash refusal.SpiInUse calls step (Quietly (EntersRecord sa) calls step) → IsProper calls step
imports-proper sa true calls step r = refuses-proper calls step refusal.SpiInUse refl r
imports-proper sa false calls step quietly = enters-proper sa calls step quietly

pub draws-proper : (held : Option Held) (calls : List Call) (step : Step) → DrawsOf held calls step → IsProper calls step
draws-proper None calls step r = refuses-proper calls step refusal.NotOwner refl r
draws-proper (Some held) calls step quietly = ready-elim held counter.EspOut (five_at held.nexts counter.EspOut)
    (λ why rest. Concludes rest step.verdict (out.Refused (refusal_of_stop why)))
    (λ high rest. Concludes rest step.verdict (out.Number (five_at held.nexts counter.EspOut)))
    (λ why rest c. c.no_more) (λ high rest c. c.no_more) calls
    (λ why rest vain c. quiet-proper calls step (omega (arith, vain.few)) (of-refusal step.verdict (refusal_of_stop why) (stop-own why) c.said) quietly.quiet)
    (λ high rest covers c. quiet-proper calls step (omega (arith, covers.few)) (of-verdict step.verdict (out.Number (five_at held.nexts counter.EspOut)) (record { no_join = refl; heard = refl }) c.said) quietly.quiet)
    quietly.follows

pub sends-proper : (held : Option Held) (payload : List ℕ) (calls : List Call) (step : Step) → length payload ≤ 1400 → SendsOf held payload calls step → IsProper calls step
sends-proper None payload calls step size r = refuses-proper calls step refusal.NotOwner refl r
sends-proper (Some held) payload calls step size sends = ready-elim held counter.EspOut (five_at held.nexts counter.EspOut)
    (λ why rest. (rest ≡ []) × Says (out.Refused (refusal_of_stop why)) step)
    (λ high rest. (rest ≡ []) × SendsEsp (outbound_of held) (five_at held.nexts counter.EspOut) payload step)
    (λ why rest s. s.0) (λ high rest s. s.0) calls
    (λ why rest vain s. quiet-proper calls step (omega (arith, vain.few)) (of-refusal step.verdict (refusal_of_stop why) (stop-own why) s.1.said) s.1.quiet)
    (λ high rest covers s. record {
      few = omega (arith, covers.few);
      said = of-verdict step.verdict (out.Sent (five_at held.nexts counter.EspOut)) (record { no_join = refl; heard = refl }) s.1.said;
      brief = sends-short (outbound_of held) (five_at held.nexts counter.EspOut) payload step (sized_to_peer held.sa.size held.sa.keys held.sa.child held.sa.key_lengths) size s.1;
      alone = s.1.served;
    })
    sends

pub peer_sends-proper : (spir : ℕ) (slots : List Slot) (payload : List ℕ) (step : Step) → length payload ≤ 1400 → PeerSends spir slots payload step → IsProper [] step
peer_sends-proper spir slots payload step size sends = go (first_slot (has_spir spir) slots) sends
  where
    sent : (slot : Slot) → SlotSends slot payload step → IsProper [] step
    sent slot s = ⊎_elim
        (λ below. let it = s.within below in record {
          few = omega arith;
          said = of-verdict step.verdict (out.Sent slot.next) (record { no_join = refl; heard = refl }) it.said;
          brief = sends-short (slot_outbound slot) slot.next payload step (sized_to_cluster slot.sa.size slot.sa.keys slot.sa.child slot.sa.key_lengths) size it;
          alone = it.served;
        })
        (λ above. let it = s.ended above in quiet-proper [] step (omega arith) (of-refusal step.verdict refusal.Exhausted refl it.said) it.quiet)
        (cases_lt slot.next (end_of slot.sa counter.EspOut))

    go : (x : Option Slot) → MatchOption x (Says (out.Refused refusal.Unknown) step) (λ slot. SlotSends slot payload step) → IsProper [] step
    go None says = quiet-proper [] step (omega arith) (of-refusal step.verdict refusal.Unknown refl says.said) says.quiet
    go (Some slot) s = sent slot s

-- the answer to a packet, as it is worded
module _ (calls : List Call) (step : Step) (ended : EspVerdict) (after : List ℕ) (worded : IsVerdictOf ended after step.verdict) (quiet : IsQuiet step) where
  as_said : (said : EspVerdict) → ended ≡ said → IsVerdictOf said after step.verdict
  as_said said e = subst (λ a. IsVerdictOf a after step.verdict) e worded

  dropped-proper : (why : EspDrop) → calls ≡ [] → ended ≡ esp.Dropped why → IsProper calls step
  dropped-proper why none e = quiet-proper calls step (none-few calls none) (of-verdict step.verdict (out.DroppedEsp why) (record { no_join = refl; heard = refl }) (as_said (esp.Dropped why) e)) quiet

  accepted-said : (name : CounterName) (packet : EspOpened) → ended ≡ esp.Accepted name packet → IsOfEnd step.verdict
  accepted-said name packet e =
      let is = as_said (esp.Accepted name packet) e in
      of-verdict step.verdict (out.Accepted name packet.number packet.next_header is.0) (record { no_join = refl; heard = refl }) is.2

  packet-proper : (held : Held) (opened : Result EspOpened EspDrop) → TakesPacket held opened calls ended → IsProper calls step
  packet-proper held (Err why) takes = dropped-proper why takes.0 takes.1
  packet-proper held (Ok packet) takes = ready-elim held counter.EspIn packet.number
      (λ why rest. (rest ≡ []) × (ended ≡ esp.Refused (refusal_of_stop why)))
      (λ high rest. (rest ≡ []) × (ended ≡ esp.Accepted (counter_name held.sa counter.EspIn) packet))
      (λ why rest s. s.0) (λ high rest s. s.0) calls
      (λ why rest vain s. quiet-proper calls step (omega (arith, vain.few)) (of-refusal step.verdict (refusal_of_stop why) (stop-own why) (as_said (esp.Refused (refusal_of_stop why)) s.1)) quiet)
      (λ high rest covers s. quiet-proper calls step (omega (arith, covers.few)) (accepted-said (counter_name held.sa counter.EspIn) packet s.1) quiet)
      takes

  received-proper : (held : ℕ → Option Held) (octets : List ℕ) → MemberReceives held octets calls ended after → IsProper calls step
  received-proper held octets r = ⊎_elim
      (λ short. let d = r.short short in dropped-proper _ d.0 d.1.said)
      (λ long. ⊎_elim (λ nowhere. dropped-proper _ nowhere.1.0 nowhere.1.1.said) (λ it. packet-proper it.receiver it.receives.opened it.receives.takes) (r.long long))
      (cases_lt (length octets) 34)

  slot-proper : (slot : Slot) (opened : Result EspOpened EspDrop) → calls ≡ [] → SlotTakes slot opened ended → IsProper calls step
  slot-proper slot (Err why) none takes = dropped-proper why none takes
  slot-proper slot (Ok packet) none takes = quiet-proper calls step (none-few calls none) (accepted-said (peer_counter slot.sa counter.EspIn) packet takes) quiet

  peer_received-proper : (slots : List Slot) (octets : List ℕ) → calls ≡ [] → PeerReceives slots octets ended after → IsProper calls step
  peer_received-proper slots octets none r = ⊎_elim
      (λ short. dropped-proper _ none (r.short short).said)
      (λ long. go (first_slot (receives_at (spi_of octets)) slots) (r.long long))
      (cases_lt (length octets) 34)
    where
      go : (x : Option Slot) → MatchOption x (Drops drop.WrongSpi octets ended after) (λ slot. SlotReceives slot octets ended after) → IsProper calls step
      go None d = dropped-proper _ none d.said
      go (Some slot) it = slot-proper slot it.opened none it.takes

pub member_takes-proper : (held : ℕ → Option Held) (octets : List ℕ) (calls : List Call) (step : Step) → MemberTakes held octets calls step → IsProper calls step
member_takes-proper held octets calls step t = received-proper calls step t.answer t.after t.worded t.quiet held octets t.receives

pub peer_takes-proper : (slots : List Slot) (octets : List ℕ) (calls : List Call) (step : Step) → PeerTakes slots octets calls step → IsProper calls step
peer_takes-proper slots octets calls step t = peer_received-proper calls step t.answer t.after t.worded t.quiet slots octets t.no_calls t.receives
