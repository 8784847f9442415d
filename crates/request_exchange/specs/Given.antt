-- What every message that came gives those who take it.
use Rattle.std.specs.Prelude.{◌≡◌, ℕ, Bool, true, false, Option, Some, IsOk, IsSome}
use Rattle.events.specs.declared.turn.Medium.TheVariants.{Ike}
use Rattle.ike_sas.specs.Arrivals.{has_message_ids_inside}
use Rattle.ike_sas.specs.Held.{IkeHeld, is_initiator}
use Rattle.ike_sas.specs.declared.arrival.Arrival.{Arrival}
use Rattle.ike_sas.specs.declared.arrival.Arrival.TheVariants as arrival
use Rattle.ike_window.specs.Kept.{kept_octets}
use Rattle.sk_payload.specs.declared.open.Opened.{Opened}

-- a response with good inner payloads, to a request that is outstanding in the association that has
-- its SPIs
pub record IsAwaited (held_under : ℕ → ℕ → Option IkeHeld) (response : Opened) : Type 0 where
  pub held : IkeHeld
  pub found : held_under response.header.spii response.header.spir ≡ Some held
  pub good : IsOk response.inner
  pub outstanding : IsSome (kept_octets response.header.id held.asked)

-- a message of a synchronisation with good inner payloads, at an end that is the initiator or not, in
-- the association that has its SPIs
pub record IsOfSync (held_under : ℕ → ℕ → Option IkeHeld) (at_initiator : Bool)
    (opened : Opened) : Type 0 where
  pub held : IkeHeld
  pub found : held_under opened.header.spii opened.header.spir ≡ Some held
  pub there : is_initiator held.keys.end ≡ at_initiator
  pub good : IsOk opened.inner
  pub says : has_message_ids_inside opened.inner ≡ true

-- a response is awaited, one that is repeated goes as an IKE message, a request to synchronise comes
-- to the initiator, and the response to one to the responder
abbrev pub IsFitting : (ℕ → ℕ → Option IkeHeld) → Arrival → Type 0
IsFitting held_under (arrival.Response response) = IsAwaited held_under response
IsFitting held_under (arrival.Repeat id datagram) = datagram.medium ≡ Ike
IsFitting held_under (arrival.Synchronisation request) = IsOfSync held_under true request
IsFitting held_under (arrival.SyncResponse response) = IsOfSync held_under false response
IsFitting held_under other = Unit {0}
