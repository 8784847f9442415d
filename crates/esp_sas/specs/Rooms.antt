-- Room for what a send writes.
use Rattle.std.specs.Prelude.{ℕ, ◌≡◌, ◌+◌, ◌≤◌, []}
use Rattle.esp_packets.specs.declared.plain.TheConstants.{PACKET_OVERHEAD}
use Rattle.ha_base.specs.Octets.{WithRoom}

-- nothing was written, and the packet of a payload of so many octets fits
pub record IsEmptyRoom (payload : ℕ) (octets : WithRoom) : Type 0 where
  pub none : octets.octets ≡ []
  pub fits : payload + PACKET_OVERHEAD ≤ octets.spare

pub record IsRoom (payload : ℕ) (plain sealed given : WithRoom) : Type 0 where
  pub plain_room : IsEmptyRoom payload plain
  pub sealed_room : IsEmptyRoom payload sealed
  pub given_room : IsEmptyRoom payload given
