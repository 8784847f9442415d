-- What the place of a refusal means: whole payloads stand before the one at fault, and what stands
-- behind the place changes nothing.
use Rattle.std.specs.Prelude.{◌≡◌, ℕ, ◌+◌, ◌<◌, ◌≤◌, ◌⊎◌, Bool, true, false, IsTrue, List, [], ◌∷◌, ◌++◌, length, slice_index, take}
use Rattle.ike_values.specs.Values.{PayloadValue, sk}
use Rattle.ike_values.specs.Validity.{is_unknown}
use Rattle.ike_values.specs.Chains.{SpellsTo}
use Rattle.ike_values.specs.declared.fault.Reason.{Reason}
use Rattle.ike_values.specs.declared.fault.Reason.TheVariants.{Short, Version, UnknownCritical, SkNotLast}
use Rattle.ike_values.specs.declared.header.Header.{Header}
use Rattle.ike_values.specs.declared.header.TheConstants.{HEADER_OCTETS}
use Rattle.ike_values.specs.declared.payload_types.TheConstants.{SK}
use Rattle.ike_values.specs.Headers.{HeaderParts, SpellsHeader, IsHeader}
use Rattle.ike_grammar.specs.Faults.{two_at}

-- behind SK stands nothing
abbrev pub EndsWith : PayloadValue → List ℕ → Type 0
EndsWith (sk x) rest = rest ≡ []
EndsWith item rest = Unit {0}

-- no payload of this type begins the octets, where SK has to be all of them, in an outer chain
abbrev pub NoneBegins : ℕ → Bool → List ℕ → Type 0
NoneBegins number inner bytes = (item : PayloadValue) (behind : ℕ) (front rest : List ℕ)
    → bytes ≡ front ++ rest → SpellsTo behind (item ∷ []) number inner front → EndsWith item rest → ⊥

-- What is wrong at a place within the octets of a payload of this type, or of those behind the last
-- one. Where octets are wanting, the place may be their end; else there is an octet at the place.
-- A chain has no version.
abbrev pub IsWrong : Reason → ℕ → List ℕ → ℕ → Type 0
IsWrong Short number left place = place ≤ length left
IsWrong Version number left place = ⊥
IsWrong (UnknownCritical kind) number left place = (kind ≡ number) × IsTrue (is_unknown number)
    × (128 ≤ slice_index left 1) × (place ≡ 0) × (place < length left)
IsWrong SkNotLast number left place = (number ≡ SK) × (place ≡ two_at left 2)
    × (place < length left)
IsWrong reason number left place = place < length left

-- Whole payloads, none of them SK, and behind them the octets at fault: no payload of the type that
-- they lead to begins there, and where the chain is to end, octets are left. The place lies among
-- these octets, within those of the payload where its length fits.
pub record IsFirstFault (first : ℕ) (inner : Bool) (bytes : List ℕ) (place : ℕ)
    (reason : Reason) : Type 0 where
  pub items : List PayloadValue
  pub number : ℕ
  pub front : List ℕ
  pub left : List ℕ
  pub offset : ℕ
  pub parts : bytes ≡ front ++ left
  pub before : SpellsTo number items first true front
  pub none : NoneBegins number inner left
  pub some_left : number ≡ 0 → 0 < length left
  pub place_is : place ≡ length front + offset
  pub within_payload : 4 ≤ two_at left 2 → two_at left 2 ≤ length left → offset ≤ two_at left 2
  pub wrong : IsWrong reason number left offset

-- A message whose header is at fault, or one whose header is spelled, with the chain behind it at
-- fault.
abbrev pub IsFaultOfMessage : List ℕ → ℕ → Reason → Type 0
IsFaultOfMessage bytes place reason =
    ((place < HEADER_OCTETS) × ((header : Header) → IsHeader header bytes → ⊥))
    ⊎ ((header : Header) × (p : HeaderParts) × SpellsHeader header bytes p × (behind : ℕ)
    × IsFirstFault p.first false p.rest behind reason × (place ≡ HEADER_OCTETS + behind))

-- the octets that a transform, a proposal and a selector begin with
abbrev pub fixed_len : ℕ
fixed_len = 8

-- equally many octets, and the first n are the same
pub record BeginAlike (n : ℕ) (bytes others : List ℕ) : Type 0 where
  pub long : length others ≡ length bytes
  pub same : take n others ≡ take n bytes
