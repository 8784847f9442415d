-- What a message that came is to the associations of the peer, and what is done with it then.
use Rattle.std.proofs.Common.{◌≡◌, ℕ, true, false, Option, Some, None, MatchOption, List, [], refl, ap, sym, ◌∙◌, subst}
use Rattle.std.proofs.lemmas.Option.{same_Some}
use Rattle.std.specs.Option.{option_map}
use Rattle.events.specs.declared.turn.Step.{Step}
use Rattle.ha_base.specs.declared.counter_names.End.TheVariants as end
use Rattle.ike_sas.specs.Arrivals.{IsArrival, NewIsNew}
use Rattle.ike_sas.specs.Held.{IkeHeld, is_initiator}
use Rattle.ike_sas.specs.declared.arrival.Arrival.{Arrival}
use Rattle.ike_sas.specs.declared.arrival.Arrival.TheVariants as arrival
use Rattle.ike_window.specs.Requests.{IsNewRequest}
use Rattle.ike_window.specs.Windows.{IsAnswered}
use Rattle.keeper_book.specs.declared.counters.Counter.TheVariants as counter
use Rattle.request_exchange.proofs.Arrivals.{fitting}
use Rattle.request_exchange.specs.Given.{IsFitting}
use Rattle.sk_payload.specs.declared.open.Opened.{Opened}
use Rattle.turn_rules.specs.Messages.{TakesArrival, TakesInner}
use Rattle.turn_rules.specs.PeerMessages.{KeepsTicket, SlotSynchronises, has_spis, peer_listener, slot_ike}
use Rattle.turn_rules.specs.Slots.{Slot, first_slot, peer_counter}
use Rattle.cluster_peer.specs.Messages.{IsThere, slot_for}

-- ---- what came

module _ (slots : List Slot) where
  abbrev held_under : ℕ → ℕ → Option IkeHeld
  held_under spii spir = option_map slot_ike (first_slot (has_spis spii spir) slots)

  -- the association whose part on IKE messages was found
  slot-of : (o : Option Slot) (held : IkeHeld) → option_map slot_ike o ≡ Some held → (slot : Slot) × (o ≡ Some slot) × (slot_ike slot ≡ held)
  slot-of None held found = absurd (cc)
  slot-of (Some slot) held found = (slot, refl, same_Some (slot_ike slot) held found)

  there : (answer : Arrival) → IsFitting held_under answer → NewIsNew held_under answer → IsThere slots answer
  there (arrival.New request) fits new =
      let its = slot-of (slot_for slots request) new.0 new.1 in
      record { slot = its.0; found = its.1; new = subst (λ (held : IkeHeld). IsNewRequest held.answered.low (IsAnswered held.answered) request.header.id) (sym its.2) new.2 }
  there (arrival.Response response) fits new =
      let its = slot-of (slot_for slots response) fits.held fits.found in
      record { slot = its.0; found = its.1; good = fits.good }
  there (arrival.Synchronisation request) fits new =
      let its = slot-of (slot_for slots request) fits.held fits.found in
      record { slot = its.0; found = its.1; says = fits.says }
  there (arrival.SyncResponse response) fits new =
      let its = slot-of (slot_for slots response) fits.held fits.found in
      let at_peer : true ≡ false = ap (λ (held : IkeHeld). is_initiator held.keys.end) its.2 ∙ fits.there in
      absurd (cc)
  there (arrival.Repeat id datagram) fits new = fits
  there other fits new = tt

  pub comes-there : (octets : List ℕ) (answer : Arrival) → IsArrival held_under end.Peer octets answer → NewIsNew held_under answer → IsThere slots answer
  comes-there octets answer is new = there answer (fitting held_under end.Peer octets answer is) new

-- ---- responses

pub response-takes : (slots : List Slot) (slot : Slot) (response : Opened) (step : Step) → slot_for slots response ≡ Some slot
    → TakesInner KeepsTicket (peer_counter slot.sa counter.Ask) response.header.id response.inner step → TakesArrival (peer_listener slots) (arrival.Response response) [] step
response-takes slots slot response step found takes =
    (refl, subst (λ o. MatchOption o ⊥ (λ (s : Slot). TakesInner KeepsTicket (peer_counter s.sa counter.Ask) response.header.id response.inner step)) (sym found) takes)

-- a synchronisation
pub sync-takes : (slots : List Slot) (slot : Slot) (request : Opened) (step : Step) → slot_for slots request ≡ Some slot
    → SlotSynchronises slot request [] step → TakesArrival (peer_listener slots) (arrival.Synchronisation request) [] step
sync-takes slots slot request step found does = subst (λ o. MatchOption o ⊥ (λ (s : Slot). SlotSynchronises s request [] step)) (sym found) does
