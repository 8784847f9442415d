-- A message that an end sends.
use Rattle.std.specs.Prelude.{◌≡◌, ℕ, List, Option, None, Some}
use Rattle.aes_gcm.specs.NamedKey.{NamedKey}
use Rattle.events.specs.declared.turn.Datagram.{Datagram}
use Rattle.events.specs.declared.turn.Medium.TheVariants.{Ike}
use Rattle.ike_sas.specs.declared.draft.SentMessage.{SentMessage}
use Rattle.ike_values.specs.declared.header.Header.{Header}
use Rattle.ike_values.specs.Values.{PayloadValue}
use Rattle.sk_payload.specs.Message.{IsDatagram, plain_of}

-- a message with this header and these inner payloads was sealed, with this number as its IV, and
-- given
pub record SendsIke (key : NamedKey) (iv : ℕ) (header : Header) (payloads : List PayloadValue)
    (sent : SentMessage) : Type 0 where
  pub named : sent.seal.name ≡ key.name
  pub iv_is : sent.seal.iv ≡ iv
  pub plain : sent.seal.plain.octets ≡ plain_of payloads
  pub sealed : IsDatagram key.octets iv header payloads sent.seal.sealed.octets
  pub medium : sent.datagram.medium ≡ Ike
  pub same : sent.datagram.octets.octets ≡ sent.seal.sealed.octets

-- octets that were kept are given once more, and none where none were kept
abbrev pub GivesKept : Option (List ℕ) → Option Datagram → Type 0
GivesKept kept None = kept ≡ None
GivesKept kept (Some datagram) =
    (datagram.medium ≡ Ike) × (kept ≡ Some datagram.octets.octets)
