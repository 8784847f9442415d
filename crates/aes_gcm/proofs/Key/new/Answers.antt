use Rattle.std.proofs.Common.{◌≡◌, ◌∙◌, ◌++◌, ◌-◌, ◌⊎◌, inl, inr, ⊎_elim, ap, length, arith, rules}
use Rattle.std.specs.Prelude.{replicate}
use Rattle.std.proofs.lemmas.List.{append-nil, take-append-drop}
use Rattle.aes_gcm.specs.Gcm.{element, hash_subkey}
use Rattle.aes_gcm.proofs.HeldKeys.{key_is, cipher_is}
use Rattle.aes_gcm.proofs.Key.new.Goals as goal
use Rattle.aes_gcm.proofs.Key.new.Goals.{After-copied-salt, else-bytes-ne20-via-then-bytes-ne20+else-bytes-ne36, else-bytes-ne20-via-else-bytes-ne20}

size : (c : After-copied-salt) → (length c.split_at.result.0.now ≡ 16) ⊎ (length c.split_at.result.0.now ≡ 32)
size c =
    elim c.else-bytes-ne20.branch [ else-bytes-ne20-via-then-bytes-ne20+else-bytes-ne36 w ↦ inr (omega arith) | else-bytes-ne20-via-else-bytes-ne20 w ↦ inl (omega arith) ]

pub invariant_of-result : goal.invariant_of-result
unfolding hash_subkey
invariant_of-result c =
    let key = c.split_at.result.0.now in
    let w = c.expand-round_keys.result in
    let enc = c.encrypt_block.result in
    let same = key_is key w (size c) c.expand-round_keys.ensures in
    let long : length enc ≡ 16 = search rules in
    let whole : enc ++ replicate (16 - length enc) 0 ≡ enc = rw long (append-nil enc) in (
      ⊎_elim (λ h. inl (omega arith)) (λ h. inr (omega arith)) (size c),
      rw same (cipher_is key w (size c) c.expand-round_keys.ensures),
      c.hash_tables-hash_tables.ensures.tables,
      c.hash_tables-hash_tables.ensures.subkey ∙ c.load-subkey.ensures ∙ ap element (whole ∙ c.encrypt_block.ensures),
    )

pub returns-clause-octets : goal.returns-clause-octets
returns-clause-octets c =
    let key = c.split_at.result.0.now in
    let w = c.expand-round_keys.result in
    let same = key_is key w (size c) c.expand-round_keys.ensures in
    let bytes = c.args.bytes.now in
    (λ i. (same ∙ c.split_at.ensures.front) i ++ (c.copied-salt.ensures ∙ c.split_at.ensures.back) i) ∙ take-append-drop (length bytes - 4) bytes
