-- What the ends come to themselves with requests of their own.
use Rattle.std.proofs.Common.{◌≡◌, ℕ, ◌≤◌, ◌⊎◌, inl, inr, Bool, true, false, Option, Some, None, MatchOption, List, [], length, ⊎_elim, refl, arith}
use Rattle.std.proofs.lemmas.Bool.{cases_lt}
use Rattle.std.specs.Prelude.{IfSome, MatchBool}
use Rattle.events.specs.declared.turn.Step.{Step}
use Rattle.events.specs.declared.verdict.Refusal.TheVariants as refusal
use Rattle.events.specs.declared.verdict.Verdict.TheVariants as out
use Rattle.ike_sas.specs.Held.{IkeHeld, request_header}
use Rattle.ike_window.specs.Kept.{kept_octets}
use Rattle.keeper_book.specs.CounterEnds.{end_of}
use Rattle.keeper_book.specs.Counters.{five_at}
use Rattle.keeper_book.specs.declared.calls.Call.{Call}
use Rattle.keeper_book.specs.declared.counters.Counter.TheVariants as counter
use Rattle.turn_rules.proofs.Refusals.{stop-own}
use Rattle.turn_rules.specs.Draws.{refusal_of_stop}
use Rattle.turn_rules.specs.Held.{Held}
use Rattle.turn_rules.specs.MemberMessages.{AsksOf, HeldSendsRequest, ResendsOf, held_ike}
use Rattle.turn_rules.specs.Messages.{GivesAgain, Resends, SendsRequest, Windowed}
use Rattle.turn_rules.specs.PeerMessages.{PeerAsks, PeerResends, SlotAsks, SlotSendsRequest, slot_ike}
use Rattle.turn_rules.specs.Slots.{Slot, first_slot, has_spir, PeerForgets}
use Rattle.turn_rules.specs.Steps.{Says, RefusesThen}
use Rattle.turn_rules.proofs.KeySizes.{sized_sk_ei, sized_sk_er}
use Rattle.run_ends.proofs.MessageBounds.{sends_message-brief}
use Rattle.run_ends.proofs.Messages.{again-brief, first-short, readies-fold, says-proper}
use Rattle.run_ends.proofs.ShortKept.{AreShort, HeldKeepsShort, KeepsShort, SlotsKeepShort, kept-short}
use Rattle.run_ends.proofs.Verdicts.{IsProper, none-few, of-refusal, of-verdict, quiet-proper}
use Rattle.run_ends.specs.Acting.{IsOfEnd}
use Rattle.ike_values.specs.Values.{PayloadValue}
use Rattle.ike_values.specs.Writing.{chain_written}

module _ (held : IkeHeld) (sized : (length held.keys.sending.octets ≡ 20) ⊎ (length held.keys.sending.octets ≡ 36)) (id iv : ℕ) (payloads : List PayloadValue) (size : length (chain_written payloads) ≤ 264) (calls : List Call) (step : Step) (few : length calls ≤ 3) where
  sends_request-proper : SendsRequest held id iv payloads step → IsProper calls step
  sends_request-proper s = record {
    few = few;
    said = of-verdict step.verdict (out.Asked id) (record { no_join = refl; heard = refl }) s.said;
    brief = sends_message-brief held iv (request_header held.keys id) payloads step sized (omega (arith, size)) s.sends;
    alone = s.served;
  }

module _ (slot : Slot) (payloads : List PayloadValue) (step : Step) (size : length (chain_written payloads) ≤ 264) where
  exhausted : Says (out.Refused refusal.Exhausted) step → IsProper [] step
  exhausted says = says-proper [] step refusal.Exhausted refl (omega arith) says

  slot_sends : SlotSendsRequest slot payloads step → IsProper [] step
  slot_sends s = ⊎_elim
      (λ below. ⊎_elim
      (λ under. sends_request-proper (slot_ike slot) (sized_sk_ei slot.sa.size slot.sa.keys slot.sa.child slot.sa.key_lengths) slot.ask slot.iv payloads size [] step (omega arith) (s.within below under))
      (λ over. exhausted (s.ended (inr over)))
      (cases_lt slot.iv (end_of slot.sa counter.Iv)))
      (λ above. exhausted (s.ended (inl above)))
      (cases_lt slot.ask (end_of slot.sa counter.Ask))

  slot_asks : SlotAsks slot payloads step → IsProper [] step
  slot_asks w = ⊎_elim (λ fits. slot_sends fits.1) (λ full. says-proper [] step (refusal.WindowFull full.0) refl (omega arith) full.3) w

pub peer_asks-proper : (spir : ℕ) (slots : List Slot) (payloads : List PayloadValue) (step : Step) → length (chain_written payloads) ≤ 264 → PeerAsks spir slots payloads step → IsProper [] step
peer_asks-proper spir slots payloads step size asks = go (first_slot (has_spir spir) slots) asks
  where
    go : (x : Option Slot) → MatchOption x (Says (out.Refused refusal.Unknown) step) (λ slot. SlotAsks slot payloads step) → IsProper [] step
    go None says = says-proper [] step refusal.Unknown refl (omega arith) says
    go (Some slot) w = slot_asks slot payloads step size w

module _ (held : Held) (payloads : List PayloadValue) (calls : List Call) (step : Step) (size : length (chain_written payloads) ≤ 264) where
  held_sends : HeldSendsRequest held payloads calls step → IsProper calls step
  held_sends s = readies-fold held counter.Ask (five_at held.nexts counter.Ask) calls step (SendsRequest (held_ike held) (five_at held.nexts counter.Ask) (five_at held.nexts counter.Iv) payloads step)
      (λ why few says. says-proper calls step (refusal_of_stop why) (stop-own why) few says)
      (λ few. sends_request-proper (held_ike held) (sized_sk_er held.sa.size held.sa.keys held.sa.child held.sa.key_lengths) (five_at held.nexts counter.Ask) (five_at held.nexts counter.Iv) payloads size calls step few)
      s

  abbrev FitsWindow : Type 0
  FitsWindow = Windowed (held_ike held) (five_at held.nexts counter.Ask) (λ least. RefusesThen (refusal.WindowFull least) calls step) (HeldSendsRequest held payloads calls step)

  held_asks : (b : Bool) → MatchBool b FitsWindow (RefusesThen refusal.NotSynced calls step) → IsProper calls step
  held_asks true w = ⊎_elim (λ fits. held_sends fits.1) (λ full. says-proper calls step (refusal.WindowFull full.0) refl (none-few calls full.3.0) full.3.1) w
  held_asks false r = says-proper calls step refusal.NotSynced refl (none-few calls r.0) r.1

pub asks-proper : (held : Option Held) (payloads : List PayloadValue) (calls : List Call) (step : Step) → length (chain_written payloads) ≤ 264 → AsksOf held payloads calls step → IsProper calls step
asks-proper None payloads calls step size r = says-proper calls step refusal.NotOwner refl (none-few calls r.0) r.1
asks-proper (Some held) payloads calls step size asks = held_asks held payloads calls step size held.synced asks

-- a payloads that is sent again: what is kept is given, and nothing is sealed
module _ (held : IkeHeld) (id : ℕ) (step : Step) where
  resends-said : Resends id held step → IsOfEnd step.verdict
  resends-said r = go (kept_octets id held.asked) r
    where
      go : (x : Option (List ℕ)) → MatchOption x (Says (out.Refused (refusal.NotOutstanding id)) step) (λ octets. GivesAgain (out.Resent id) octets step) → IsOfEnd step.verdict
      go None says = of-refusal step.verdict (refusal.NotOutstanding id) refl says.said
      go (Some octets) g = of-verdict step.verdict (out.Resent id) (record { no_join = refl; heard = refl }) g.said

  resends-alone : Resends id held step → step.served ≡ None
  resends-alone r = go (kept_octets id held.asked) r
    where
      go : (x : Option (List ℕ)) → MatchOption x (Says (out.Refused (refusal.NotOutstanding id)) step) (λ octets. GivesAgain (out.Resent id) octets step) → step.served ≡ None
      go None says = says.quiet.served
      go (Some octets) g = g.served

  resends-proper : AreShort held.asked → Resends id held step → IsProper [] step
  resends-proper short r = go (kept_octets id held.asked) refl r
    where
      go : (x : Option (List ℕ)) → kept_octets id held.asked ≡ x → MatchOption x (Says (out.Refused (refusal.NotOutstanding id)) step) (λ octets. GivesAgain (out.Resent id) octets step) → IsProper [] step
      go None e says = says-proper [] step (refusal.NotOutstanding id) refl (omega arith) says
      go (Some octets) e g = record { few = omega arith; said = resends-said r; brief = again-brief (out.Resent id) octets step (kept-short id held.asked octets short e) g; alone = g.served }

pub peer_resends-said : (spir : ℕ) (slots : List Slot) (id : ℕ) (step : Step) → PeerResends spir slots id step → IsOfEnd step.verdict
peer_resends-said spir slots id step r = go (first_slot (has_spir spir) slots) r
  where
    go : (x : Option Slot) → MatchOption x (Says (out.Refused refusal.Unknown) step) (λ slot. Resends id (slot_ike slot) step) → IsOfEnd step.verdict
    go None says = of-refusal step.verdict refusal.Unknown refl says.said
    go (Some slot) r = resends-said (slot_ike slot) id step r

pub peer_resends-alone : (spir : ℕ) (slots : List Slot) (id : ℕ) (step : Step) → PeerResends spir slots id step → step.served ≡ None
peer_resends-alone spir slots id step r = go (first_slot (has_spir spir) slots) r
  where
    go : (x : Option Slot) → MatchOption x (Says (out.Refused refusal.Unknown) step) (λ slot. Resends id (slot_ike slot) step) → step.served ≡ None
    go None says = says.quiet.served
    go (Some slot) r = resends-alone (slot_ike slot) id step r

pub peer_resends-proper : (spir : ℕ) (slots : List Slot) (id : ℕ) (step : Step) → SlotsKeepShort slots → PeerResends spir slots id step → IsProper [] step
peer_resends-proper spir slots id step short r = go (first_slot (has_spir spir) slots) (first-short (has_spir spir) slots short) r
  where
    go : (x : Option Slot) → IfSome x (λ slot. KeepsShort slot.asked slot.answered) → MatchOption x (Says (out.Refused refusal.Unknown) step) (λ slot. Resends id (slot_ike slot) step) → IsProper [] step
    go None keeps says = says-proper [] step refusal.Unknown refl (omega arith) says
    go (Some slot) keeps r = resends-proper (slot_ike slot) id step keeps.of_asked r

pub resends_of-said : (held : Option Held) (id : ℕ) (calls : List Call) (step : Step) → ResendsOf held id calls step → IsOfEnd step.verdict
resends_of-said None id calls step r = of-refusal step.verdict refusal.NotOwner refl r.1.said
resends_of-said (Some held) id calls step r = resends-said (held_ike held) id step r.1

pub resends_of-alone : (held : Option Held) (id : ℕ) (calls : List Call) (step : Step) → ResendsOf held id calls step → step.served ≡ None
resends_of-alone None id calls step r = r.1.quiet.served
resends_of-alone (Some held) id calls step r = resends-alone (held_ike held) id step r.1

pub resends_of-proper : (held : Option Held) (id : ℕ) (calls : List Call) (step : Step) → HeldKeepsShort held → ResendsOf held id calls step → IsProper calls step
resends_of-proper None id calls step short r = says-proper calls step refusal.NotOwner refl (none-few calls r.0) r.1
resends_of-proper (Some held) id calls step short r = let p = resends-proper (held_ike held) id step short.of_asked r.1 in record { few = none-few calls r.0; said = p.said; brief = p.brief; alone = p.alone }

-- an association that the peer closes
pub peer_forgets-proper : (spir : ℕ) (slots : List Slot) (step : Step) → PeerForgets spir slots step → IsProper [] step
peer_forgets-proper spir slots step f = go (first_slot (has_spir spir) slots) f
  where
    go : (x : Option Slot) → MatchOption x (Says (out.Refused refusal.Unknown) step) (λ slot. Says out.Forgotten step) → IsProper [] step
    go None says = says-proper [] step refusal.Unknown refl (omega arith) says
    go (Some slot) says = quiet-proper [] step (omega arith) (of-verdict step.verdict out.Forgotten (record { no_join = refl; heard = refl }) says.said) says.quiet
