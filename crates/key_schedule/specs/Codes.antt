-- The codes that are sent beside a message.
use Rattle.std.specs.Prelude.{ℕ, List, ◌++◌, fold, bit_or, bit_xor}
use Rattle.std.specs.List.{zip}
use Rattle.std.specs.Int.{w64, to_be_bytes}
use Rattle.key_schedule.specs.Hmac.{hmac}

-- the content of an AUTH payload of a resumption (RFC 5723, section 4.3.3, with the keys of section
-- 5.1): prf (SK_p, message | nonce | prf (SK_p, ID body)), where message and nonce are RealMessage1
-- and NonceRData of RFC 7296, section 2.15, or the other two
abbrev pub auth_code : List ℕ → List ℕ → List ℕ → List ℕ → List ℕ
auth_code sk_p message nonce id_body = hmac sk_p (message ++ nonce ++ hmac sk_p id_body)

-- prf (secret, Ni | SPIi), after the example of RFC 7296, section 2.6
abbrev pub cookie : List ℕ → List ℕ → ℕ → List ℕ
cookie secret ni spii = hmac secret (ni ++ to_be_bytes w64 spii)

-- the bits in which an octet of one list differs from that of the other at its place
abbrev pub difference_of : List ℕ → List ℕ → ℕ
difference_of a b = fold (λ bits (pair : ℕ × ℕ). bit_or bits (bit_xor pair.0 pair.1)) 0 (zip a b)
