-- How values are spelled in octets (RFC 7296, section 3): one function for each item, whose octets
-- that a reader ignores are given. These are reserved bits, and the critical bit of payloads whose
-- type is known. They are 0 where none are given. Which values have a spelling is said in Validity.
use Rattle.std.specs.Prelude.{ℕ, ◌+◌, ◌*◌, ◌/◌, ◌%◌, Bool, true, false, ◌==◌, if◌then◌else◌, List, [], ◌∷◌, ◌++◌, length}
use Rattle.std.specs.Int.{w64, to_be_bytes}
use Rattle.ike_values.specs.Values.{AttributeValue, fixed, free, TransformValue, ProposalValue, SelectorValue, NotifyValue, DeleteValue, SkValue, PayloadValue, sa, ke, idi, idr, cert, certreq, auth, nonce, notify, delete, vendor, tsi, tsr, sk, cp, eap, other}

-- a number in two octets, big-endian
abbrev pub two : ℕ → List ℕ
two n = n / 256 ∷ n % 256 ∷ []

-- whether an item is the last: nothing is behind it
abbrev pub is_last : {X : Type 0} → List X → Bool
is_last [] = true
is_last (x ∷ xs) = false

-- the octet that an item of a list begins with: 0 at the last
abbrev pub last_mark : ℕ → Bool → ℕ
last_mark more last = if last then 0 else more

-- the first of what is given, where anything is
abbrev pub first_or : {X : Type 0} → X → List X → X
first_or none [] = none
first_or none (x ∷ xs) = x

abbrev pub behind_first : {X : Type 0} → List X → List X
behind_first [] = []
behind_first (x ∷ xs) = xs

-- ---- attributes (section 3.3.5): type and value, or type, length and value; the first bit tells
-- which

abbrev pub attribute_spelling : AttributeValue → List ℕ
attribute_spelling (fixed kind value) = two (32768 + kind) ++ two value
attribute_spelling (free kind value) = two kind ++ two (length value) ++ value

abbrev pub attributes_spelling : List AttributeValue → List ℕ
attributes_spelling [] = []
attributes_spelling (x ∷ xs) = attribute_spelling x ++ attributes_spelling xs

-- ---- transforms (section 3.3.2): 0 or 3, reserved, length, type, reserved, ID, attributes

abbrev pub transform_spelling : TransformValue → Bool → ℕ → ℕ → List ℕ
transform_spelling x last reserved reserved_behind = last_mark 3 last ∷ reserved
    ∷ two (8 + length (attributes_spelling x.attributes))
    ++ (x.kind ∷ reserved_behind ∷ two x.id) ++ attributes_spelling x.attributes

-- what a reader ignores in a transform
pub record IgnoredInTransform : Type 0 where
  pub reserved : ℕ
  pub reserved_behind : ℕ

abbrev pub nothing_in_transform : IgnoredInTransform
nothing_in_transform = record { reserved = 0; reserved_behind = 0 }

abbrev pub transforms_spelling : List IgnoredInTransform → List TransformValue → List ℕ
transforms_spelling ignored [] = []
transforms_spelling ignored (x ∷ xs) =
    let own = first_or nothing_in_transform ignored in
    transform_spelling x (is_last xs) own.reserved own.reserved_behind
    ++ transforms_spelling (behind_first ignored) xs

-- ---- proposals (section 3.3.1): 0 or 2, reserved, length, number, protocol, SPI size, number of
-- transforms, SPI, transforms

-- the octets of a proposal, those of its transforms given
abbrev pub proposal_spelling : ProposalValue → Bool → ℕ → List ℕ → List ℕ
proposal_spelling x last reserved inside = last_mark 2 last ∷ reserved
    ∷ two (8 + length (x.spi ++ inside))
    ++ (x.number ∷ x.protocol ∷ length x.spi ∷ length x.transforms ∷ []) ++ (x.spi ++ inside)

-- what a reader ignores in a proposal
pub record IgnoredInProposal : Type 0 where
  pub reserved : ℕ
  pub transforms : List IgnoredInTransform

abbrev pub nothing_in_proposal : IgnoredInProposal
nothing_in_proposal = record { reserved = 0; transforms = [] }

abbrev pub proposals_spelling : List IgnoredInProposal → List ProposalValue → List ℕ
proposals_spelling ignored [] = []
proposals_spelling ignored (x ∷ xs) =
    let own = first_or nothing_in_proposal ignored in
    proposal_spelling x (is_last xs) own.reserved (transforms_spelling own.transforms x.transforms)
    ++ proposals_spelling (behind_first ignored) xs

-- ---- selectors (section 3.13.1): type, protocol, length, two ports, two addresses

-- how many octets an address of a selector of this type has: type 7 is IPv4, type 8 IPv6
abbrev pub address_len : ℕ → ℕ
address_len kind = if kind == 7 then 4 else 16

abbrev pub selector_spelling : SelectorValue → List ℕ
selector_spelling x = x.kind ∷ x.protocol ∷ two (8 + 2 * address_len x.kind) ++ two x.start_port
    ++ two x.end_port ++ x.start ++ x.end

abbrev pub selectors_spelling : List SelectorValue → List ℕ
selectors_spelling [] = []
selectors_spelling (x ∷ xs) = selector_spelling x ++ selectors_spelling xs

-- ---- bodies

-- an identity (section 3.5), authentication data (section 3.8) or selectors (section 3.13): a number,
-- three reserved octets and content
abbrev pub numbered_spelling : ℕ → ℕ × ℕ × ℕ → List ℕ → List ℕ
numbered_spelling number reserved content = number ∷ reserved.0 ∷ reserved.1 ∷ reserved.2 ∷ content

-- section 3.10: protocol, SPI size, type, SPI, data
abbrev pub notify_spelling : NotifyValue → List ℕ
notify_spelling x = x.protocol ∷ length x.spi ∷ two x.kind ++ x.spi ++ x.content

-- section 3.11: protocol, SPI size, number of SPIs, SPIs
abbrev pub delete_spelling : DeleteValue → List ℕ
delete_spelling x = x.protocol ∷ x.size ∷ two x.number ++ x.spis

-- section 3.14 and RFC 5282: IV, ciphertext, integrity check value
abbrev pub sk_spelling : SkValue → List ℕ
sk_spelling x = to_be_bytes w64 x.iv ++ x.ciphertext ++ x.icv

-- what a reader ignores in a payload: flags are the critical bit and seven reserved bits
pub record Ignored : Type 0 where
  pub flags : ℕ
  pub reserved : ℕ × ℕ × ℕ
  pub proposals : List IgnoredInProposal

abbrev pub nothing_ignored : Ignored
nothing_ignored = record { flags = 0; reserved = (0, 0, 0); proposals = [] }

abbrev pub body_spelling : Ignored → PayloadValue → List ℕ
body_spelling ignored (sa x) = proposals_spelling ignored.proposals x
body_spelling ignored (ke x) = x
body_spelling ignored (idi x) = numbered_spelling x.kind ignored.reserved x.content
body_spelling ignored (idr x) = numbered_spelling x.kind ignored.reserved x.content
body_spelling ignored (cert x) = x
body_spelling ignored (certreq x) = x
body_spelling ignored (auth x) = numbered_spelling x.method ignored.reserved x.content
body_spelling ignored (nonce x) = x
body_spelling ignored (notify x) = notify_spelling x
body_spelling ignored (delete x) = delete_spelling x
body_spelling ignored (vendor x) = x
body_spelling ignored (tsi x) = numbered_spelling (length x) ignored.reserved (selectors_spelling x)
body_spelling ignored (tsr x) = numbered_spelling (length x) ignored.reserved (selectors_spelling x)
body_spelling ignored (sk x) = sk_spelling x
body_spelling ignored (cp x) = x
body_spelling ignored (eap x) = x
body_spelling ignored (other x) = x.body

-- ---- payloads (section 3.2): next payload, critical bit and reserved bits, length, body

abbrev pub type_of : PayloadValue → ℕ
type_of (sa x) = 33
type_of (ke x) = 34
type_of (idi x) = 35
type_of (idr x) = 36
type_of (cert x) = 37
type_of (certreq x) = 38
type_of (auth x) = 39
type_of (nonce x) = 40
type_of (notify x) = 41
type_of (delete x) = 42
type_of (vendor x) = 43
type_of (tsi x) = 44
type_of (tsr x) = 45
type_of (sk x) = 46
type_of (cp x) = 47
type_of (eap x) = 48
type_of (other x) = x.kind

-- the type of the first payload, or that of what stands behind where there is none
abbrev pub leading_type : ℕ → List PayloadValue → ℕ
leading_type behind [] = behind
leading_type behind (item ∷ items) = type_of item

-- what stands in a payload's next payload field: SK tells the type of the first inner payload
abbrev pub next_field : ℕ → PayloadValue → List PayloadValue → ℕ
next_field behind (sk x) items = x.first
next_field behind item items = leading_type behind items

-- the octets of a payload, those of its body given
abbrev pub payload_spelling : ℕ → ℕ → List ℕ → List ℕ
payload_spelling next flags body = next ∷ flags ∷ two (4 + length body) ++ body

-- payloads, behind which one of the type behind stands, 0 for none
abbrev pub chain_spelling : ℕ → List Ignored → List PayloadValue → List ℕ
chain_spelling behind ignored [] = []
chain_spelling behind ignored (item ∷ items) =
    let own = first_or nothing_ignored ignored in
    payload_spelling (next_field behind item items) own.flags (body_spelling own item)
    ++ chain_spelling behind (behind_first ignored) items
