-- What was sealed is accepted.
use Rattle.std.proofs.Common.{◌≡◌, ℕ, ◌+◌, ◌-◌, ◌%◌, ◌^◌, ◌<◌, ◌≤◌, List, [], ◌∷◌, ◌++◌, length, get_or, take, drop, refl, sym, ap, subst, ◌∙◌, append_assoc, arith}
use Rattle.std.specs.Prelude.{Result, Ok, Err}
use Rattle.std.specs.Int.{w32, w64, to_be_bytes, from_be_bytes}
use Rattle.std.specs.List.{range_with_len}
use Rattle.std.proofs.lemmas.Nat.{from_be_bytes-to_be_bytes_4, from_be_bytes-to_be_bytes_8}
use Rattle.std.proofs.lemmas.List.{length-append, take_at, drop_at, get_or-append_right, length-take-le}
use Rattle.ha_base.specs.declared.esp_outcomes.EspOpened.{EspOpened}
use Rattle.ha_base.specs.declared.esp_outcomes.EspDrop.{EspDrop}
use Rattle.ha_base.specs.declared.esp_outcomes.EspDrop.TheVariants.{Short, WrongSpi, Stale, Seen, NotOpened, Padding}
use Rattle.aes_gcm.specs.Sealing.{IsSealing}
use Rattle.replay_set.specs.Window.{Window, IsMeant, judged}
use Rattle.replay_set.specs.Laws.{MeaningIsUnique}
use Rattle.replay_set.specs.declared.judgement.Judgement.{Judgement}
use Rattle.replay_set.specs.declared.judgement.Judgement.TheVariants.{Stale as JudgedStale, Seen as JudgedSeen, Fresh}
use Rattle.esp_packets.specs.Packet.{IsPacket, IsEspDatagram, IsEspAnswer, OpensPacket, Means, pad_length, esp_plaintext, esp_pad_length_in, next_header_in, spi_of, low_half_of, iv_of, opened}
use Rattle.esp_packets.specs.Laws.{WindowCovers, Accepts}
use Rattle.esp_packets.proofs.Packets.{low_octets, packet_length}
use Rattle.esp_packets.proofs.Plaintexts.{length-range_with_len}

fresh_not_stale : (judgement : Judgement) → judgement ≡ Fresh → judgement ≡ JudgedStale → ⊥
fresh_not_stale judgement fresh stale = cc

fresh_not_seen : (judgement : Judgement) → judgement ≡ Fresh → judgement ≡ JudgedSeen → ⊥
fresh_not_seen judgement fresh seen = cc

module _ (payload : List ℕ) (next_header : ℕ) where
  front_length : length (payload ++ range_with_len 1 (pad_length (length payload))) ≡ length payload + pad_length (length payload)
  front_length = length-append payload (range_with_len 1 (pad_length (length payload))) ∙ ap (λ n. length payload + n) (length-range_with_len 1 (pad_length (length payload)))

  pub length-esp_plaintext : length (esp_plaintext payload next_header) ≡ length payload + pad_length (length payload) + 2
  length-esp_plaintext =
      length-append (payload ++ range_with_len 1 (pad_length (length payload))) (pad_length (length payload) ∷ next_header ∷ [])
      ∙ ap (λ n. n + 2) front_length

  -- the last two octets
  last_octet : (k at : ℕ) → at ≡ length payload + pad_length (length payload) + k →
      get_or (esp_plaintext payload next_header) at 0 ≡ get_or (pad_length (length payload) ∷ next_header ∷ []) k 0
  last_octet k at is =
      let rest : at - (length payload + pad_length (length payload)) ≡ k = omega arith in
      get_or-append_right (payload ++ range_with_len 1 (pad_length (length payload))) (pad_length (length payload) ∷ next_header ∷ [])
      (length payload + pad_length (length payload)) at 0 front_length (omega arith)
      ∙ ap (λ i. get_or (pad_length (length payload) ∷ next_header ∷ []) i 0) rest

  pub esp_pad_length_in-esp_plaintext : esp_pad_length_in (esp_plaintext payload next_header) ≡ pad_length (length payload)
  esp_pad_length_in-esp_plaintext = last_octet 0 (length (esp_plaintext payload next_header) - 2) (omega (arith, length-esp_plaintext))

  pub next_header_in-esp_plaintext : next_header_in (esp_plaintext payload next_header) ≡ next_header
  next_header_in-esp_plaintext = last_octet 1 (length (esp_plaintext payload next_header) - 1) (omega (arith, length-esp_plaintext))

  -- the payload is at the front of the plaintext
  pub payload_of : (front rest : List ℕ) → length front ≡ 16 → take (length payload) (drop 16 ((front ++ esp_plaintext payload next_header) ++ rest)) ≡ payload
  payload_of front rest long =
      let tail : List ℕ = pad_length (length payload) ∷ next_header ∷ [] in
      ap (λ ys. take (length payload) (drop 16 ys)) (append_assoc front (esp_plaintext payload next_header) rest)
      ∙ ap (take (length payload)) (drop_at front (esp_plaintext payload next_header ++ rest) 16 long)
      ∙ ap (take (length payload)) (append_assoc (payload ++ range_with_len 1 (pad_length (length payload))) tail rest
      ∙ append_assoc payload (range_with_len 1 (pad_length (length payload))) (tail ++ rest))
      ∙ take_at payload (range_with_len 1 (pad_length (length payload)) ++ (tail ++ rest)) (length payload) refl

-- the fields of a packet are those that it was sealed with
module _ (key : List ℕ) (spi number iv : ℕ) (plain octets : List ℕ) (packet : IsPacket key spi number iv plain octets) where
  pub spi_is : spi < 2 ^ 32 → spi_of octets ≡ spi
  spi_is small =
      let field : take 4 octets ≡ to_be_bytes w32 spi = ap (take 4) packet.sealed in
      ap (from_be_bytes w32) field ∙ from_be_bytes-to_be_bytes_4 spi small

  pub low_half_is : low_half_of octets ≡ number % 2 ^ 32
  low_half_is =
      let field : take 4 (drop 4 octets) ≡ drop 4 (to_be_bytes w64 number) = ap (λ ys. take 4 (drop 4 ys)) packet.sealed in
      ap (from_be_bytes w32) (field ∙ low_octets number) ∙ from_be_bytes-to_be_bytes_4 (number % 2 ^ 32) (omega arith)

  pub iv_is : iv < 2 ^ 64 → iv_of octets ≡ iv
  iv_is small =
      let field : take 8 (drop 8 octets) ≡ to_be_bytes w64 iv = ap (λ ys. take 8 (drop 8 ys)) packet.sealed in
      ap (from_be_bytes w64) field ∙ from_be_bytes-to_be_bytes_8 iv small

module _ (unique : MeaningIsUnique) (key : List ℕ) (sealing : IsSealing key) (spi number : ℕ) (payload : List ℕ) (next_header : ℕ) (octets : List ℕ) (window : Window)
    (after : List ℕ) (small : spi < 2 ^ 32) (packet : IsEspDatagram key spi number payload next_header octets) (covers : WindowCovers window number) (fresh : judged window number ≡ Fresh) where
  plain : List ℕ
  plain = esp_plaintext payload next_header

  long : length octets ≡ 16 + length (esp_plaintext payload next_header) + 16
  long = packet_length key sealing spi number number (esp_plaintext payload next_header) octets packet

  long_enough : 34 ≤ length octets
  long_enough = omega (arith, long, length-esp_plaintext payload next_header)

  low : low_half_of octets ≡ number % 2 ^ 32
  low = low_half_is key spi number number (esp_plaintext payload next_header) octets packet

  means : Means window octets number
  means = record { meant = subst (λ l. IsMeant window l number) (sym low) covers.meant; below_end = covers.below_end }

  -- no other number is meant
  only : (other : ℕ) → Means window octets other → other ≡ number
  only other meant = unique window (low_half_of octets) other number meant.meant means.meant

  -- the packet, with its IV as it stands
  as_it_stands : IsPacket key spi number (iv_of octets) (esp_plaintext payload next_header) octets
  as_it_stands = subst (λ v. IsPacket key spi number v (esp_plaintext payload next_header) octets) (sym (iv_is key spi number number (esp_plaintext payload next_header) octets packet (omega (arith, covers.below_end)))) packet

  plain_is : (other : ℕ) (found : List ℕ) → other ≡ number → OpensPacket key spi other octets found → esp_plaintext payload next_header ≡ found
  plain_is other found same opens = opens.only (esp_plaintext payload next_header) (subst (λ n. IsPacket key spi n (iv_of octets) (esp_plaintext payload next_header) octets) (sym same) as_it_stands)

  pub accepts : (answer : Result EspOpened EspDrop) → IsEspAnswer key spi window octets answer after → Accepts number payload next_header answer after
  accepts (Err Short) is = absurd (omega (arith, is.0, long_enough))
  accepts (Err WrongSpi) is = absurd (is.1 (spi_is key spi number number (esp_plaintext payload next_header) octets packet small))
  accepts (Err Stale) is = absurd (fresh_not_stale (judged window number) fresh (is.1 number means))
  accepts (Err Seen) (us, (other, meant, seen), same) =
      absurd (fresh_not_seen (judged window number) fresh (ap (judged window) (sym (only other meant)) ∙ seen))
  accepts (Err NotOpened) ((other, new, none), same) =
      absurd (none (esp_plaintext payload next_header) (subst (λ n. IsPacket key spi n (iv_of octets) (esp_plaintext payload next_header) octets) (sym (only other new.means)) as_it_stands))
  accepts (Err Padding) (other, found, new, opens, short, is) =
      let same : esp_plaintext payload next_header ≡ found = plain_is other found (only other new.means) opens in
      let P : List ℕ → Type 0 = λ ys. length ys < esp_pad_length_in ys + 2 in
      let unfit : P (esp_plaintext payload next_header) = subst P (sym same) short in
      absurd (omega (arith, unfit, length-esp_plaintext payload next_header, esp_pad_length_in-esp_plaintext payload next_header))
  accepts (Ok found) (text, new, opens, lies, is) =
      let same : esp_plaintext payload next_header ≡ text = plain_is found.number text (only found.number new.means) opens in
      let Q : List ℕ → Type 0 = λ ys. found.length ≡ length ys - 2 - esp_pad_length_in ys in
      let placed : Q (esp_plaintext payload next_header) = subst Q (sym same) lies.length_is in
      let as_long : found.length ≡ length payload = omega (arith, placed, length-esp_plaintext payload next_header, esp_pad_length_in-esp_plaintext payload next_header) in
      let front : length (take 16 octets) ≡ 16 = length-take-le 16 octets (omega (arith, long_enough)) in
      record {
        packet = found;
        accepted = refl;
        number_is = only found.number new.means;
        next_header_is = lies.next_header ∙ ap next_header_in (sym same) ∙ next_header_in-esp_plaintext payload next_header;
        payload_is =
            (λ i. take (as_long i) (drop (lies.start i) (is i)))
            ∙ ap (λ ys. take (length payload) (drop 16 (opened octets ys))) (sym same)
            ∙ payload_of payload next_header (take 16 octets) (drop (length octets - 16) octets) front;
      }
