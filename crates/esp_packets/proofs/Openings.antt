-- What the opening of a ciphertext tells of its packet.
use Rattle.std.proofs.Common.{◌≡◌, ℕ, ◌+◌, ◌-◌, ◌≤◌, List, ◌++◌, Bool, true, false, IsTrue, length, take, drop, sym, ap, subst, ◌∙◌, append_assoc, arith}
use Rattle.std.specs.Bool.{OnTrue, OnFalse}
use Rattle.std.proofs.lemmas.List.{drop-drop, take-append-drop}
use Rattle.aes_gcm.specs.Gcm.{Sealed, sealed}
use Rattle.aes_gcm.specs.Sealing.{IsSealing}
use Rattle.esp_packets.specs.Packet.{IsPacket, OpensPacket, esp_associated_data, header, iv_of, opened}
use Rattle.esp_packets.proofs.Packets.{parts, packet_of}

-- the text that a packet has between its header and its end
abbrev pub text_in : List ℕ → Sealed
text_in octets = record { ciphertext = take (length octets - 16 - 16) (drop 16 octets); tag = drop (length octets - 16) octets }

-- what is left behind the ciphertext
tail_is : (octets : List ℕ) → 34 ≤ length octets → drop (length octets - 16 - 16) (drop 16 octets) ≡ drop (length octets - 16) octets
tail_is octets long =
    let place : 16 + (length octets - 16 - 16) ≡ length octets - 16 = omega arith in
    drop-drop (length octets - 16 - 16) 16 octets ∙ ap (λ k. drop k octets) place

-- `data` is the associated data, and `value` the integrity check value, of the packet that the octets may be
module _ (key : List ℕ) (sealing : IsSealing key) (spi number iv : ℕ) (octets buffer «data» value : List ℕ) (long : 34 ≤ length octets)
    (front : header spi number iv ≡ take 16 octets) (at : iv ≡ iv_of octets) (as_data : «data» ≡ esp_associated_data spi number) (as_value : value ≡ drop (length octets - 16) octets) where
  -- that a plaintext is sealed to the text of the packet
  abbrev SealsTo : List ℕ → Type 0
  SealsTo plain = sealed key iv «data» plain ≡ record { ciphertext = take (length octets - 16 - 16) (drop 16 octets); tag = value }

  there : (plain : List ℕ) → SealsTo plain → sealed key iv (esp_associated_data spi number) plain ≡ text_in octets
  there plain e =
      ap (λ d. sealed key iv d plain) (sym as_data) ∙ e ∙ (λ i. record { ciphertext = take (length octets - 16 - 16) (drop 16 octets); tag = as_value i })

  -- the text of any packet that the octets are
  text_of : (plain : List ℕ) → IsPacket key spi number (iv_of octets) plain octets → SealsTo plain
  text_of plain packet =
      ap (λ d. sealed key iv d plain) as_data
      ∙ parts key sealing spi number iv plain octets (subst (λ v. IsPacket key spi number v plain octets) (sym at) packet)
      ∙ (λ i. record { ciphertext = take (length octets - 16 - 16) (drop 16 octets); tag = sym as_value i })

  pub opens : (result : Bool) → OnTrue result (SealsTo buffer) → ((plain : List ℕ) → SealsTo plain → IsTrue result × (buffer ≡ plain)) →
      length buffer ≡ length octets - 16 - 16 →
      OnTrue result ((plain : List ℕ) × OpensPacket key spi number octets plain × (length plain + 32 ≡ length octets)
      × (take 16 octets ++ (buffer ++ drop (length octets - 16 - 16) (drop 16 octets)) ≡ opened octets plain))
  opens true is unseals size = (
    buffer,
    record {
      is = subst (λ v. IsPacket key spi number v buffer octets) at (packet_of key spi number iv buffer octets (omega arith) front (there buffer is));
      only = λ other packet. sym (unseals other (text_of other packet)).1;
    },
    omega arith,
    ap (λ ys. take 16 octets ++ (buffer ++ ys)) (tail_is octets long) ∙ sym (append_assoc (take 16 octets) buffer (drop (length octets - 16) octets)),
  )
  opens false is unseals size = tt

  pub refuses : (result : Bool) → OnFalse result (buffer ≡ take (length octets - 16 - 16) (drop 16 octets)) →
      ((plain : List ℕ) → SealsTo plain → IsTrue result × (buffer ≡ plain)) →
      OnFalse result ((take 16 octets ++ (buffer ++ drop (length octets - 16 - 16) (drop 16 octets)) ≡ octets)
      × ((plain : List ℕ) → ¬ IsPacket key spi number (iv_of octets) plain octets))
  refuses true stays unseals = tt
  refuses false stays unseals = (
    ap (λ ys. take 16 octets ++ (ys ++ drop (length octets - 16 - 16) (drop 16 octets))) stays
        ∙ ap (λ ys. take 16 octets ++ ys) (take-append-drop (length octets - 16 - 16) (drop 16 octets))
        ∙ take-append-drop 16 octets,
    λ plain packet. let opened_so : false ≡ true = (unseals plain (text_of plain packet)).0 in cc,
  )
