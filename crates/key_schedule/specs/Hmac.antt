-- HMAC with SHA-256 (RFC 2104, section 2) as a function on lists of octets.
use Rattle.std.specs.Prelude.{ℕ, ◌-◌, List, ◌++◌, length, map, replicate, bit_xor, nat_le, if◌then◌else◌}
use Rattle.sha2.specs.Sha256.{sha256}

-- a key of at most a block of 64 octets; a longer one is hashed first
abbrev pub short_key : List ℕ → List ℕ
short_key key = if nat_le (length key) 64 then key else sha256 key

-- the octets with zeros appended up to a block
unfoldable pub padded_block : List ℕ → List ℕ
padded_block octets = octets ++ replicate (64 - length octets) 0

-- K, filled up to a block
abbrev pub block_key : List ℕ → List ℕ
block_key key = padded_block (short_key key)

-- each octet exclusive-or the mask
unfoldable pub masked_octets : ℕ → List ℕ → List ℕ
masked_octets mask octets = map (λ octet. bit_xor octet mask) octets

-- H(K XOR opad, H(K XOR ipad, text)), where opad is 0x5c and ipad 0x36 at each octet
unfoldable pub hmac : List ℕ → List ℕ → List ℕ
hmac key text =
    sha256 (masked_octets 0x5c (block_key key) ++ sha256
    (masked_octets 0x36 (block_key key) ++ text))
