-- How a `Frame` holds what contracts see of it.
use Rattle.std.specs.Prelude.{◌≡◌, ℕ, ◌+◌, ◌-◌, ◌<◌, ◌≤◌, true, List, [], ◌∷◌, ◌++◌, length, take, drop, replicate, slice_index, slice_set, Result, Ok, Err}
use Rattle.ha_base.specs.declared.limits.TheConstants.{DATAGRAM_OCTETS}
use Rattle.ike_values.specs.Values.{PayloadValue}
use Rattle.ike_values.specs.Spelling.{leading_type, chain_spelling}
use Rattle.ike_values.specs.Validity.{AreValid}
use Rattle.ike_values.specs.declared.fault.Bad.{Bad}
use Rattle.ike_grammar.specs.Chain.{chain_at}
use Rattle.sk_payload.specs.Framed.{Framed}
use Rattle.sk_payload.specs.declared.front.TheConstants.{CHECK_VALUE}
use Rattle.sk_payload.specs.declared.frame.Frame.TheInside.{Inside}

abbrev pub read_or_none : Result (List PayloadValue) Bad → List PayloadValue
read_or_none (Ok payloads) = payloads
read_or_none (Err bad) = []

-- the payloads that the octets of a message in the making spell: behind 40 octets, and before a pad
-- length
unfoldable pub payloads_in : List ℕ → List PayloadValue
payloads_in octets =
    read_or_none
    (chain_at (length octets - 41) true (slice_index octets 28)
    (take (length octets - 41) (drop 40 octets)))

-- A message in the making, whose last payload has this next payload: before the plaintext there is
-- nothing yet but the type of the first payload.
abbrev pub octets_before : ℕ → List PayloadValue → List ℕ
octets_before next payloads =
    replicate 28 0
    ++ (leading_type next payloads ∷ replicate 11 0 ++ (chain_spelling next [] payloads ++ 0 ∷ []))

abbrev pub frame_of : Inside → Framed
frame_of f = record {
  payloads = payloads_in f.message.octets;
  room = DATAGRAM_OCTETS - CHECK_VALUE - length f.message.octets;
}

pub record IsFrame (f : Inside) : Type 0 where
  pub valid : AreValid true (payloads_in f.message.octets)
  pub octets : f.message.octets ≡ octets_before 0 (payloads_in f.message.octets)
  -- the type of a payload that is put next goes there
  pub links :
      (next : ℕ) →
      slice_set f.message.octets f.link next ≡ octets_before next (payloads_in f.message.octets)
  pub link_within : f.link < length f.message.octets
  pub small : length f.message.octets + CHECK_VALUE ≤ DATAGRAM_OCTETS
  pub room : DATAGRAM_OCTETS ≤ length f.message.octets + f.message.spare
