-- A message in the making, and the room that its sealing and its copies take.
use Rattle.std.specs.Prelude.{◌≡◌, ℕ, ◌+◌, ◌≤◌, [], length}
use Rattle.ha_base.specs.Octets.{WithRoom}
use Rattle.sk_payload.specs.Framed.{Framed}
use Rattle.sk_payload.specs.Message.{plain_of}
use Rattle.sk_payload.specs.declared.front.TheConstants.{MESSAGE_OVERHEAD}

-- nothing was written, and so many octets fit
pub record IsEmptyFor (octets : ℕ) (list : WithRoom) : Type 0 where
  pub none : list.octets ≡ []
  pub fits : octets ≤ list.spare

-- the plaintext and the message fit the lists that they are copied to, with so many octets of inner
-- payloads more
pub record IsDraft (frame : Framed) (left : ℕ) (plain sealed given kept : WithRoom) :
    Type 0 where
  pub within : left ≤ frame.room
  pub plain_room : IsEmptyFor (length (plain_of frame.payloads) + left) plain
  pub sealed_room :
      IsEmptyFor (length (plain_of frame.payloads) + MESSAGE_OVERHEAD + left) sealed
  pub given_room : IsEmptyFor (length (plain_of frame.payloads) + MESSAGE_OVERHEAD + left) given
  pub kept_room : IsEmptyFor (length (plain_of frame.payloads) + MESSAGE_OVERHEAD + left) kept
