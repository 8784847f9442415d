-- The parts of a packet.
use Rattle.std.proofs.Common.{◌≡◌, ℕ, ◌+◌, ◌-◌, ◌/◌, ◌%◌, ◌^◌, ◌≤◌, List, [], ◌∷◌, ◌++◌, length, take, drop, refl, sym, ap, ◌∙◌, append_assoc, arith}
use Rattle.std.specs.Int.{w32, w64, to_be_bytes}
use Rattle.std.proofs.lemmas.List.{take_at, drop_at, take-append-drop, drop-drop, length-append}
use Rattle.std.proofs.Math.Seq.{take-add}
use Rattle.aes_gcm.specs.Gcm.{Sealed, sealed}
use Rattle.aes_gcm.specs.Sealing.{IsSealing}
use Rattle.esp_packets.specs.Packet.{IsPacket, esp_associated_data, header}

-- the last four of the eight octets of a number
pub low_octets : (n : ℕ) → drop 4 (to_be_bytes w64 n) ≡ to_be_bytes w32 (n % 2 ^ 32)
low_octets n =
    let third : n / 16777216 % 256 ≡ n % 4294967296 / 16777216 % 256 = omega arith in
    let second : n / 65536 % 256 ≡ n % 4294967296 / 65536 % 256 = omega arith in
    let first : n / 256 % 256 ≡ n % 4294967296 / 256 % 256 = omega arith in
    let last : n % 256 ≡ n % 4294967296 % 256 = omega arith in
    λ i. third i ∷ second i ∷ first i ∷ last i ∷ []

-- a list is its first sixteen octets, its last sixteen and what lies between
three_parts : (octets : List ℕ) → 32 ≤ length octets → (take 16 octets ++ take (length octets - 16 - 16) (drop 16 octets)) ++ drop (length octets - 16) octets ≡ octets
three_parts octets h =
    let place : 16 + (length octets - 16 - 16) ≡ length octets - 16 = omega arith in
    let end : drop (length octets - 16) octets ≡ drop (length octets - 16 - 16) (drop 16 octets) =
    ap (λ k. drop k octets) (sym place) ∙ sym (drop-drop (length octets - 16 - 16) 16 octets) in
    append_assoc (take 16 octets) (take (length octets - 16 - 16) (drop 16 octets)) (drop (length octets - 16) octets)
    ∙ ap (λ ys. take 16 octets ++ (take (length octets - 16 - 16) (drop 16 octets) ++ ys)) end
    ∙ ap (λ ys. take 16 octets ++ ys) (take-append-drop (length octets - 16 - 16) (drop 16 octets))
    ∙ take-append-drop 16 octets

-- the fields of a packet are its first sixteen octets
pub header_is : (octets : List ℕ) (spi number iv : ℕ) → to_be_bytes w32 spi ≡ take 4 octets → to_be_bytes w32 (number % 2 ^ 32) ≡ take 4 (drop 4 octets) →
    to_be_bytes w64 iv ≡ take 8 (drop 8 octets) → header spi number iv ≡ take 16 octets
header_is octets spi number iv first second third =
    let fields : header spi number iv ≡ (take 4 octets ++ take 4 (drop 4 octets)) ++ take 8 (drop 8 octets) =
    λ i. (first i ++ (low_octets number ∙ second) i) ++ third i in
    fields ∙ fields_joined octets
  where
    fields_joined : (octets : List ℕ) → (take 4 octets ++ take 4 (drop 4 octets)) ++ take 8 (drop 8 octets) ≡ take 16 octets
    fields_joined octets =
        ap (λ ys. ys ++ take 8 (drop 8 octets)) (sym (take-add 4 4 octets)) ∙ sym (take-add 8 8 octets)

module _ (key : List ℕ) (sealing : IsSealing key) (spi number iv : ℕ) where
  pub packet_length : (plain octets : List ℕ) → IsPacket key spi number iv plain octets → length octets ≡ 16 + length plain + 16
  packet_length plain octets packet =
      let text : Sealed = sealed key iv (esp_associated_data spi number) plain in
      let whole : length octets ≡ length ((header spi number iv ++ text.ciphertext) ++ text.tag) = ap length packet.sealed in
      omega (
        arith,
        whole,
        length-append (header spi number iv ++ text.ciphertext) text.tag,
        length-append (header spi number iv) text.ciphertext,
        sealing.ciphertext_length iv (esp_associated_data spi number) plain,
        sealing.tag_length iv (esp_associated_data spi number) plain,
      )

  -- what is sealed in a packet is what lies between its header and its end
  pub parts : (plain octets : List ℕ) → IsPacket key spi number iv plain octets →
      sealed key iv (esp_associated_data spi number) plain ≡ record { ciphertext = take (length octets - 16 - 16) (drop 16 octets); tag = drop (length octets - 16) octets }
  parts plain octets packet =
      let text : Sealed = sealed key iv (esp_associated_data spi number) plain in
      let long = packet_length plain octets packet in
      let wide : length text.ciphertext ≡ length octets - 16 - 16 = omega (arith, long, sealing.ciphertext_length iv (esp_associated_data spi number) plain) in
      let front : length (header spi number iv ++ text.ciphertext) ≡ length octets - 16 =
      omega (arith, long, length-append (header spi number iv) text.ciphertext, sealing.ciphertext_length iv (esp_associated_data spi number) plain) in
      let rest : drop 16 octets ≡ text.ciphertext ++ text.tag =
      ap (drop 16) (packet.sealed ∙ append_assoc (header spi number iv) text.ciphertext text.tag)
      ∙ drop_at (header spi number iv) (text.ciphertext ++ text.tag) 16 refl in
      let middle : take (length octets - 16 - 16) (drop 16 octets) ≡ text.ciphertext =
      ap (take (length octets - 16 - 16)) rest ∙ take_at text.ciphertext text.tag (length octets - 16 - 16) wide in
      let end : drop (length octets - 16) octets ≡ text.tag =
      ap (drop (length octets - 16)) packet.sealed ∙ drop_at (header spi number iv ++ text.ciphertext) text.tag (length octets - 16) front in
      λ i. record { ciphertext = sym middle i; tag = sym end i }

-- octets with this header and a sealed text are the packet
pub packet_of : (key : List ℕ) (spi number iv : ℕ) (plain octets : List ℕ) → 32 ≤ length octets → header spi number iv ≡ take 16 octets →
    sealed key iv (esp_associated_data spi number) plain ≡ record { ciphertext = take (length octets - 16 - 16) (drop 16 octets); tag = drop (length octets - 16) octets } →
    IsPacket key spi number iv plain octets
packet_of key spi number iv plain octets long front text = record {
  sealed = sym (three_parts octets long) ∙ (λ i. (sym front i ++ (sym text i).ciphertext) ++ (sym text i).tag);
}
