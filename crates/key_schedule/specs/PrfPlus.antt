-- prf+ of IKEv2 (RFC 7296, section 2.13) over HMAC with SHA-256.
use Rattle.std.specs.Prelude.{ℕ, zero, suc, List, [], ◌∷◌, ◌++◌, take}
use Rattle.key_schedule.specs.Hmac.{hmac}

-- T1 = prf (K, S | 0x01), T2 = prf (K, T1 | S | 0x02), and so on; before T1 there is nothing
unfoldable pub block : List ℕ → List ℕ → ℕ → List ℕ
block key seed zero = []
block key seed (suc n) = hmac key (block key seed n ++ seed ++ suc n ∷ [])

-- T1 | T2 | .. | Tn
unfoldable pub blocks : List ℕ → List ℕ → ℕ → List ℕ
blocks key seed zero = []
blocks key seed (suc n) = blocks key seed n ++ block key seed (suc n)

-- the first n octets of prf+ (K, S): the last block is the 255th, since its number is one octet
unfoldable pub prf_plus : List ℕ → List ℕ → ℕ → List ℕ
prf_plus key seed n = take n (blocks key seed 255)
