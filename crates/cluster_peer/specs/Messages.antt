-- What a message that came is to the associations of the peer.
use Rattle.std.specs.Prelude.{◌≡◌, true, Option, Some, List, IsOk, Ok}
use Rattle.events.specs.declared.turn.Medium.TheVariants.{Ike}
use Rattle.ike_sas.specs.Arrivals.{has_message_ids_inside}
use Rattle.ike_sas.specs.declared.arrival.Arrival.{Arrival}
use Rattle.ike_sas.specs.declared.arrival.Arrival.TheVariants as arrival
use Rattle.ike_window.specs.Requests.{IsNewRequest}
use Rattle.ike_window.specs.Windows.{IsAnswered}
use Rattle.ike_values.specs.Values.{PayloadValue}
use Rattle.sk_payload.specs.declared.open.Opened.{Opened}
use Rattle.sync_exchange.specs.Notifications.{IsRequest}
use Rattle.sync_exchange.specs.declared.request.SyncRequest.{SyncRequest}
use Rattle.turn_rules.specs.PeerMessages.{has_spis}
use Rattle.turn_rules.specs.Slots.{Slot, first_slot}

-- the association of a message that was opened
abbrev pub slot_for : List Slot → Opened → Option Slot
slot_for slots opened = first_slot (has_spis opened.header.spii opened.header.spir) slots

-- the window of its association has a request as new
pub record IsNewOfSlot (slots : List Slot) (request : Opened) : Type 0 where
  pub slot : Slot
  pub found : slot_for slots request ≡ Some slot
  pub new : IsNewRequest slot.answered.low (IsAnswered slot.answered) request.header.id

-- a response with good inner payloads is one of an association
pub record IsAwaitedThere (slots : List Slot) (response : Opened) : Type 0 where
  pub slot : Slot
  pub found : slot_for slots response ≡ Some slot
  pub good : IsOk response.inner

-- a request to synchronise is one of an association
pub record IsSyncThere (slots : List Slot) (request : Opened) : Type 0 where
  pub slot : Slot
  pub found : slot_for slots request ≡ Some slot
  pub says : has_message_ids_inside request.inner ≡ true

-- the inner payloads of a message ask for this synchronisation
pub record IsAskedFor (request : Opened) (asked : SyncRequest) : Type 0 where
  pub payloads : List PayloadValue
  pub inner : request.inner ≡ Ok payloads
  pub reads : IsRequest payloads asked

-- whoever takes a message that came knows so much of it
abbrev pub IsThere : List Slot → Arrival → Type 0
IsThere slots (arrival.New request) = IsNewOfSlot slots request
IsThere slots (arrival.Response response) = IsAwaitedThere slots response
IsThere slots (arrival.Synchronisation request) = IsSyncThere slots request
IsThere slots (arrival.SyncResponse response) = ⊥
IsThere slots (arrival.Repeat id datagram) = datagram.medium ≡ Ike
IsThere slots other = Unit {0}
