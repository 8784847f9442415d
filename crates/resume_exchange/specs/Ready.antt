-- The room that the sealing of a message and the copies of it take.
use Rattle.std.specs.Prelude.{ℕ, ◌+◌, List, length}
use Rattle.ha_base.specs.Octets.{WithRoom}
use Rattle.ike_sas.specs.Drafts.{IsEmptyFor}
use Rattle.ike_values.specs.Values.{PayloadValue}
use Rattle.sk_payload.specs.Message.{plain_of}
use Rattle.sk_payload.specs.declared.front.TheConstants.{MESSAGE_OVERHEAD}

-- the plaintext and the message fit the lists that they are copied to
pub record HasRoomFor (payloads : List PayloadValue) (plain sealed given : WithRoom) : Type 0 where
  pub plain_fits : IsEmptyFor (length (plain_of payloads)) plain
  pub sealed_fits : IsEmptyFor (length (plain_of payloads) + MESSAGE_OVERHEAD) sealed
  pub given_fits : IsEmptyFor (length (plain_of payloads) + MESSAGE_OVERHEAD) given
