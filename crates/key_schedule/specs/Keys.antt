-- The keys of a resumed IKE SA and of its Child SA.
use Rattle.std.specs.Prelude.{ℕ, ◌+◌, ◌*◌, List, ◌++◌, take, slice_range, codes}
use Rattle.std.specs.Int.{w64, to_be_bytes}
use Rattle.ha_base.specs.declared.key_material.SaKeys.{SaKeys}
use Rattle.ha_base.specs.declared.key_material.ChildKeys.{ChildKeys}
use Rattle.key_schedule.specs.Hmac.{hmac}
use Rattle.key_schedule.specs.PrfPlus.{prf_plus}

-- SKEYSEED = prf (SK_d old, "Resumption" | Ni | Nr) (RFC 5723, section 5.1)
unfoldable pub skeyseed : List ℕ → List ℕ → List ℕ → List ℕ
skeyseed old_sk_d ni nr = hmac old_sk_d (codes "Resumption" ++ ni ++ nr)

-- Ni | Nr | SPIi | SPIr (RFC 7296, section 2.14)
unfoldable pub nonces_and_spis : List ℕ → List ℕ → ℕ → ℕ → List ℕ
nonces_and_spis ni nr spii spir = ni ++ nr ++ to_be_bytes w64 spii ++ to_be_bytes w64 spir

-- the first octets of prf+ (SKEYSEED, Ni | Nr | SPIi | SPIr), as many as the five keys have, where
-- a sealing key has so many
unfoldable pub sa_stream : ℕ → List ℕ → List ℕ → List ℕ → ℕ → ℕ → List ℕ
sa_stream key_octets old_sk_d ni nr spii spir =
    prf_plus (skeyseed old_sk_d ni nr) (nonces_and_spis ni nr spii spir) (96 + 2 * key_octets)

-- a stream taken apart as SK_d | SK_ei | SK_er | SK_pi | SK_pr: a sealing key that authenticates by
-- itself leaves SK_ai and SK_ar out (RFC 5282, section 7.1)
abbrev pub sa_keys : ℕ → List ℕ → SaKeys
sa_keys key_octets stream = record {
  sk_d = take 32 stream;
  sk_ei = slice_range stream 32 (32 + key_octets);
  sk_er = slice_range stream (32 + key_octets) (32 + 2 * key_octets);
  sk_pi = slice_range stream (32 + 2 * key_octets) (64 + 2 * key_octets);
  sk_pr = slice_range stream (64 + 2 * key_octets) (96 + 2 * key_octets);
}

-- the first octets of KEYMAT = prf+ (SK_d, Ni | Nr) (RFC 7296, section 2.17), as many as two keys
-- have
unfoldable pub keymat : ℕ → List ℕ → List ℕ → List ℕ → List ℕ
keymat key_octets sk_d ni nr = prf_plus sk_d (ni ++ nr) (2 * key_octets)

-- key material taken apart: the keys of the direction from initiator to responder come first, and
-- the peer is the initiator
abbrev pub keys_of_child : ℕ → List ℕ → ChildKeys
keys_of_child key_octets stream = record {
  to_cluster = take key_octets stream;
  to_peer = slice_range stream key_octets (2 * key_octets);
}
