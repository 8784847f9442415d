-- How long payloads and datagrams are, and what a line says of an event.
use Rattle.std.proofs.Common.{◌≡◌, ℕ, zero, suc, ◌-◌, ◌≤◌, Bool, true, false, Option, Some, None, List, [], ◌∷◌, ◌++◌, length, take, refl, ap, sym, ◌∙◌, subst, arith, if◌then◌else◌, Result, Ok, Err, ◌⊎◌}
use Rattle.std.proofs.Math.ListN.{set}
use Rattle.std.proofs.lemmas.List.{length-append, length-set, length-take}
use Rattle.std.proofs.lemmas.Option.{same_Some}
use Rattle.std.specs.List.{AllByRecursion, range_with_len}
use Rattle.std.specs.Option.{option_map}
use Rattle.std.specs.Prelude.{option_to_list, nat_le, nat_lt, slice_get, slice_index_or, slice_set, bit_xor}
use Rattle.aes_gcm.proofs.Seals.{sealing}
use Rattle.esp_packets.proofs.Packets.{packet_length}
use Rattle.esp_packets.proofs.Plaintexts.{length-range_with_len, pad_length_is}
use Rattle.esp_packets.specs.Packet.{pad_length, esp_plaintext}
use Rattle.events.specs.Events.{plain}
use Rattle.events.specs.Ranges.{Fits}
use Rattle.events.specs.declared.event.Event.{Event}
use Rattle.events.specs.declared.event.Event.TheVariants as event
use Rattle.events.specs.declared.event.Party.{Party}
use Rattle.events.specs.declared.event.Which.{Which}
use Rattle.events.specs.declared.event.Which.TheVariants as which
use Rattle.events.specs.declared.turn.Medium.{Medium}
use Rattle.events.specs.declared.turn.Step.{Step}
use Rattle.events.specs.declared.verdict.Refusal.{Refusal}
use Rattle.events.specs.declared.verdict.Refusal.TheVariants as refusal
use Rattle.ha_base.specs.Octets.{WithRoom}
use Rattle.turn_rules.specs.Datagrams.{PlainDatagram, altered, arrives, changed, cut, datagram_at, plain_datagram}
use Rattle.turn_rules.specs.Packets.{Outbound, SendsEsp}
use Rattle.run_ends.specs.Parties.{IsShort}

pub fits_send : (from : Party) (spir : ℕ) (payload : WithRoom) → Fits (plain (event.Send from spir payload)) → length payload.octets ≤ 1400
fits_send from spir payload fits = fits.ranges.1.1.0.most_size

pub fits_ask : (from : Party) (spir : ℕ) (request : WithRoom) → Fits (plain (event.Ask from spir request)) → length request.octets ≤ 256
fits_ask from spir request fits = fits.ranges.1.1.0.most_size

pub fits_inject : (to : Party) (medium : Medium) (octets : WithRoom) → Fits (plain (event.Inject to medium octets)) → length octets.octets ≤ 2048
fits_inject to medium octets fits = fits.ranges.1.1.0.most_size

-- what stands in a list of short datagrams is short
short_at : (datagrams : List PlainDatagram) (place : ℕ) (datagram : PlainDatagram) → AllByRecursion IsShort datagrams → slice_get datagrams place ≡ Some datagram → IsShort datagram
short_at [] place datagram all e = absurd (cc)
short_at (x ∷ xs) zero datagram all e = subst IsShort (same_Some x datagram e) all.0
short_at (x ∷ xs) (suc place) datagram all e = short_at xs place datagram all.1 e

short_meant : (datagrams : List PlainDatagram) (meant : Which) (datagram : PlainDatagram) → AllByRecursion IsShort datagrams → datagram_at meant datagrams ≡ Some datagram → IsShort datagram
short_meant datagrams (which.Number number) datagram all e = by_test (nat_lt 0 number) e
  where
    by_test : (b : Bool) → (if b then slice_get datagrams (number - 1) else None) ≡ Some datagram → IsShort datagram
    by_test true e = short_at datagrams (number - 1) datagram all e
    by_test false e = absurd (cc)
short_meant datagrams which.Last datagram all e = short_at datagrams (length datagrams - 1) datagram all e

-- a change that makes octets no longer
abbrev Shortens : (List ℕ → Option (List ℕ)) → Type 0
Shortens change = (octets made : List ℕ) → change octets ≡ Some made → length made ≤ length octets

same_some : (x y : List ℕ) → Some x ≡ Some y → x ≡ y
same_some x y e = same_Some x y e

shortens_altered : (place octet : ℕ) → Shortens (altered place octet)
shortens_altered place octet octets made e = by_test (nat_lt place (length octets)) e
  where
    by_test : (b : Bool) → (if b then Some (slice_set octets place (bit_xor (slice_index_or octets place 0) octet)) else None) ≡ Some made → length made ≤ length octets
    by_test true e = omega (arith, ap length (same_some (set octets place (bit_xor (slice_index_or octets place 0) octet)) made e), length-set octets place (bit_xor (slice_index_or octets place 0) octet))
    by_test false e = absurd (cc)

shortens_cut : (keep : ℕ) → Shortens (cut keep)
shortens_cut keep octets made e = by_test (nat_le keep (length octets)) e
  where
    by_test : (b : Bool) → (if b then Some (take keep octets) else None) ≡ Some made → length made ≤ length octets
    by_test true e = omega (arith, ap length (same_some (take keep octets) made e), length-take keep octets)
    by_test false e = absurd (cc)

shortens_none : Shortens Some
shortens_none octets made e = omega (arith, ap length (same_some octets made e))

abbrev Found : Type 0
Found = Result PlainDatagram Refusal

same_Ok : (x y : PlainDatagram) → let X : Found = Ok x in X ≡ Ok y → x ≡ y
same_Ok x y e = cc

module _ (change : List ℕ → Option (List ℕ)) (shortens : Shortens change) where
  short_changed : (datagrams : List PlainDatagram) (meant : Which) (datagram : PlainDatagram) → AllByRecursion IsShort datagrams → changed (datagram_at meant datagrams) change ≡ Ok datagram → IsShort datagram
  short_changed datagrams meant datagram all e = by_given (datagram_at meant datagrams) refl e
    where
      by_octets : (given : PlainDatagram) → IsShort given → (made : Option (List ℕ)) → change given.octets ≡ made → changed (Some given) change ≡ Ok datagram → IsShort datagram
      by_octets given short None m e = let never : changed (Some given) change ≡ Err refusal.NoOctet = rw m in absurd (cc)
      by_octets given short (Some made) m e =
          let is : changed (Some given) change ≡ Ok (record { medium = given.medium; octets = made }) = rw m in
          let same : record { medium = given.medium; octets = made } ≡ datagram = same_Ok _ datagram (sym is ∙ e) in
          subst IsShort same (omega (arith, short, shortens given.octets made m))

      by_given : (given : Option PlainDatagram) → datagram_at meant datagrams ≡ given → changed given change ≡ Ok datagram → IsShort datagram
      by_given None g e = absurd (cc)
      by_given (Some given) g e = by_octets given (short_meant datagrams meant given all g) (change given.octets) refl e

-- what an event delivers is short
pub arrives-short : (datagrams : List PlainDatagram) (e : Event) (datagram : PlainDatagram) → AllByRecursion IsShort datagrams → Fits (plain e) → arrives datagrams e ≡ Ok datagram → IsShort datagram
arrives-short datagrams (event.Deliver meant to) datagram all fits e = short_changed Some shortens_none datagrams meant datagram all e
arrives-short datagrams (event.Alter meant to place octet) datagram all fits e = short_changed (altered place octet) (shortens_altered place octet) datagrams meant datagram all e
arrives-short datagrams (event.Cut meant to keep) datagram all fits e = short_changed (cut keep) (shortens_cut keep) datagrams meant datagram all e
arrives-short datagrams (event.Inject to medium octets) datagram all fits e = subst IsShort (same_Ok (record { medium = medium; octets = octets.octets }) datagram e) (fits_inject to medium octets fits)
arrives-short datagrams event datagram all fits e = absurd (cc)

-- and so is what an end sends
pub sends-short : (outbound : Outbound) (number : ℕ) (payload : List ℕ) (step : Step) → (length outbound.key.octets ≡ 20) ⊎ (length outbound.key.octets ≡ 36) → length payload ≤ 1400 → SendsEsp outbound number payload step
    → AllByRecursion IsShort (option_to_list (option_map plain_datagram step.gives))
sends-short outbound number payload step sized few sends =
    subst (λ gives. AllByRecursion IsShort (option_to_list (option_map plain_datagram gives))) (sym sends.gives) (short, tt)
  where
    short : IsShort (plain_datagram sends.datagram)
    short =
        let pad = pad_length (length payload) in
        let tail : List ℕ = pad ∷ 4 ∷ [] in
        omega (
          arith,
          few,
          ap length sends.same,
          packet_length outbound.key.octets (sealing outbound.key.octets sized) outbound.spi number number (esp_plaintext payload 4) sends.seal.sealed.octets sends.sealed,
          length-append (payload ++ range_with_len 1 pad) tail,
          length-append payload (range_with_len 1 pad),
          length-range_with_len 1 pad,
          pad_length_is (length payload),
        )
