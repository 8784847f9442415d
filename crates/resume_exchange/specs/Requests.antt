-- What a request to resume says (RFC 5723, section 4.3.2). Of several payloads of a type the first
-- counts.
use Rattle.std.specs.Prelude.{◌≡◌, ℕ, List, length, slice_get, Option, None, Some}
use Rattle.std.specs.List.{filter_map}
use Rattle.ike_values.specs.Values.{PayloadValue, nonce}
use Rattle.ike_values.specs.Notifications.{first_notify}
use Rattle.ike_values.specs.declared.header.Header.{Header}
use Rattle.ike_values.specs.declared.notify_types.TheConstants.{TICKET_OPAQUE}
use Rattle.resume_exchange.specs.declared.request.TheConstants.{NONCE_OCTETS}

-- the octets of a payload that is a nonce
abbrev pub nonce_data : PayloadValue → Option (List ℕ)
nonce_data (nonce octets) = Some octets
nonce_data _ = None

abbrev pub first_nonce : List PayloadValue → Option (List ℕ)
first_nonce payloads = slice_get (filter_map nonce_data payloads) 0

-- a first message, before there is a responder's SPI, with a nonce and a ticket
pub record IsPresented
    (header : Header) (payloads : List PayloadValue) (ni ticket : List ℕ) : Type 0 where
  pub id : header.id ≡ 0
  pub spir : header.spir ≡ 0
  pub nonce_is : first_nonce payloads ≡ Some ni
  pub size : length ni ≡ NONCE_OCTETS
  pub ticket_is : first_notify TICKET_OPAQUE payloads ≡ Some ticket
