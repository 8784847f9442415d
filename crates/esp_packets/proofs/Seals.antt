-- A packet that is written piece by piece.
use Rattle.std.proofs.Common.{◌≡◌, ℕ, ◌≤◌, List, [], ◌++◌, length, take, refl, ◌∙◌}
use Rattle.std.proofs.lemmas.List.{take_at, length-take-le}
use Rattle.aes_gcm.specs.Gcm.{sealed}
use Rattle.esp_packets.specs.Packet.{IsPacket, esp_associated_data, header}

-- a buffer whose front was sealed
pub sealed_front : (text rest before : List ℕ) (end : ℕ) → length text ≡ length (take end before) → end ≤ length before → take end (text ++ rest) ≡ text
sealed_front text rest before end same within = take_at text rest end (same ∙ length-take-le end before within)

pub packet_written : (key : List ℕ) (spi number : ℕ) (plain before «data» front text value first second third : List ℕ) →
    first ≡ [] ++ front → second ≡ first ++ text → third ≡ second ++ value → front ≡ header spi number number → «data» ≡ esp_associated_data spi number →
    before ≡ plain → text ≡ (sealed key number «data» before).ciphertext → value ≡ (sealed key number «data» before).tag →
    IsPacket key spi number number plain third
packet_written key spi number plain before «data» front text value first second third one two three is_front is_data is_plain is_text is_value = record {
  sealed = rw (three, two, one, is_front, is_text, is_value, is_data, is_plain) refl;
}
