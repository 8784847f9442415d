-- AES in Galois/Counter Mode (NIST SP 800-38D) with a nonce of 96 bits and a tag of 128, under keys
-- that end with the four octets of salt of IPsec (RFC 4106, 4 and 8.1; RFC 5282, 4 and 7.1).
use Rattle.std.specs.Prelude.{ℕ, zero, suc, ◌+◌, ◌-◌, ◌*◌, ◌/◌, ◌%◌, ◌^◌, List, [], ◌++◌, length, take, drop, replicate, bit_xor}
use Rattle.std.specs.Int.{w32, w64, w128, to_be_bytes, from_be_bytes}
use Rattle.aes_gcm.specs.Aes.{aes, xored}

-- A block of sixteen octets as an element of GF(2 ^ 128). The highest bit is the coefficient of x ^
-- 0.
unfoldable pub element : List ℕ → ℕ
element block = from_be_bytes w128 block

-- v times x modulo x ^ 128 + x ^ 7 + x ^ 2 + x + 1 (SP 800-38D, 6.3)
unfoldable pub next_power : ℕ → ℕ
next_power v = bit_xor (v / 2) (v % 2 * (0xe1 * 2 ^ 120))

-- the lowest n bits of a, the highest of them first, times v
unfoldable pub product_low : ℕ → ℕ → ℕ → ℕ
product_low zero a v = 0
product_low (suc n) a v = bit_xor (a / 2 ^ n % 2 * v) (product_low n a (next_power v))

-- the product of two elements (SP 800-38D, 6.3)
unfoldable pub product : ℕ → ℕ → ℕ
product a b = product_low 128 a b

-- the n-th block of sixteen octets
unfoldable pub block_at : List ℕ → ℕ → List ℕ
block_at xs n = take 16 (drop (16 * n) xs)

-- how many blocks hold n octets
unfoldable pub block_count : ℕ → ℕ
block_count n = (n + 15) / 16

-- octets followed by as many zeros as complete their last block
unfoldable pub padded_to_blocks : List ℕ → List ℕ
padded_to_blocks xs = xs ++ replicate (16 * block_count (length xs) - length xs) 0

-- the first n blocks hashed onto y under the hash subkey h
unfoldable pub hashed_from : ℕ → ℕ → List ℕ → ℕ → ℕ
hashed_from h y xs zero = y
hashed_from h y xs (suc n) = product (bit_xor (hashed_from h y xs n) (element (block_at xs n))) h

-- GHASH of whole blocks under the hash subkey h (SP 800-38D, 6.4)
unfoldable pub ghash : ℕ → List ℕ → ℕ
ghash h xs = hashed_from h 0 xs (length xs / 16)

-- the counter block of a nonce of 96 bits; counter 1 is that of the tag (SP 800-38D, 7.1)
unfoldable pub counter_block : List ℕ → ℕ → List ℕ
counter_block nonce counter = nonce ++ to_be_bytes w32 counter

-- the first n blocks of the key stream; f is the block cipher under a key
unfoldable pub key_stream : (List ℕ → List ℕ) → List ℕ → ℕ → List ℕ
key_stream f nonce zero = []
key_stream f nonce (suc n) = key_stream f nonce n ++ f (counter_block nonce (n + 2))

-- counter mode, which is its own inverse (SP 800-38D, 6.5)
unfoldable pub encrypted : (List ℕ → List ℕ) → List ℕ → List ℕ → List ℕ
encrypted f nonce xs = xored xs (key_stream f nonce (block_count (length xs)))

-- the hash subkey
unfoldable pub hash_subkey : (List ℕ → List ℕ) → ℕ
hash_subkey f = element (f (replicate 16 0))

-- what the tag hashes: the associated data, the ciphertext and their lengths in bits
unfoldable pub hashed_text : List ℕ → List ℕ → List ℕ
hashed_text aad ciphertext =
    padded_to_blocks aad ++ padded_to_blocks ciphertext
    ++ (to_be_bytes w64 (8 * length aad) ++ to_be_bytes w64 (8 * length ciphertext))

-- the tag of a ciphertext (SP 800-38D, 7.1)
unfoldable pub tag_under : (List ℕ → List ℕ) → List ℕ → List ℕ → List ℕ → List ℕ
tag_under f nonce aad ciphertext =
    xored (f (counter_block nonce 1)) (to_be_bytes w128
    (ghash (hash_subkey f) (hashed_text aad ciphertext)))

-- the block cipher of the octets of a key and its salt
unfoldable pub cipher_of : List ℕ → List ℕ → List ℕ
cipher_of key block = aes (take (length key - 4) key) block

-- the nonce: the salt and the initialization vector (RFC 4106, 4)
unfoldable pub nonce_of : List ℕ → ℕ → List ℕ
nonce_of key iv = drop (length key - 4) key ++ to_be_bytes w64 iv

-- what sealing gives
pub record Sealed : Type 0 where
  pub ciphertext : List ℕ
  pub tag : List ℕ

-- the tag of a ciphertext under the octets of a key and its salt
unfoldable pub tag_of : List ℕ → ℕ → List ℕ → List ℕ → List ℕ
tag_of key iv aad ciphertext = tag_under (cipher_of key) (nonce_of key iv) aad ciphertext

-- a plaintext sealed with associated data under the octets of a key and its salt
unfoldable pub sealed : List ℕ → ℕ → List ℕ → List ℕ → Sealed
sealed key iv aad plain =
    let ciphertext = encrypted (cipher_of key) (nonce_of key iv) plain in
    record { ciphertext = ciphertext; tag = tag_of key iv aad ciphertext }
