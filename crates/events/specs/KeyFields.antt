-- The fields of keys and of starts, of several words each.
use Rattle.std.specs.Prelude.{ℕ, List, Result, Ok}
use Rattle.ha_base.specs.declared.key_material.KeySize.{KeySize}
use Rattle.ha_base.specs.declared.key_material.SaKeys.{SaKeys}
use Rattle.ha_base.specs.declared.key_material.ChildKeys.{ChildKeys}
use Rattle.ha_base.specs.declared.limits.TheConstants.{IV_END, MESSAGE_ID_END, SEQUENCE_END}
use Rattle.keeper_book.specs.declared.counters.Five.{Five}
use Rattle.ha_base.specs.KeySizes.{sealing_octets}
use Rattle.line_fields.specs.declared.fault.LineReason.{LineReason}
use Rattle.line_fields.specs.declared.fault.LineFault.{LineFault}
use Rattle.line_fields.specs.Words.{Cursor}
use Rattle.line_fields.specs.Numbers.{number_in_word}
use Rattle.line_fields.specs.Octets.{sized}
use Rattle.line_fields.specs.Fields.{◌>>=◌, field}

-- a sealing key: an AES key and four octets of salt (RFC 5282, section 7.1)
abbrev pub sealing_key_of : KeySize → List ℕ → Result (List ℕ) LineReason
sealing_key_of size = sized (sealing_octets size) (sealing_octets size)

unfoldable pub sa_keys_at : KeySize → Cursor → Result (SaKeys × Cursor) LineFault
sa_keys_at size s = do
  sk_d ← field (sized 32 32) s
  sk_ei ← field (sealing_key_of size) sk_d.1
  sk_er ← field (sealing_key_of size) sk_ei.1
  sk_pi ← field (sized 32 32) sk_er.1
  sk_pr ← field (sized 32 32) sk_pi.1
  Ok (
    record {
      sk_d = sk_d.0;
      sk_ei = sk_ei.0;
      sk_er = sk_er.0;
      sk_pi = sk_pi.0;
      sk_pr = sk_pr.0;
    },
    sk_pr.1,
  )

unfoldable pub child_keys_at : KeySize → Cursor → Result (ChildKeys × Cursor) LineFault
child_keys_at size s = do
  to_cluster ← field (sealing_key_of size) s
  to_peer ← field (sealing_key_of size) to_cluster.1
  Ok (record { to_cluster = to_cluster.0; to_peer = to_peer.0 }, to_peer.1)

unfoldable pub starts_at : Cursor → Result (Five × Cursor) LineFault
starts_at s = do
  esp_out ← field (number_in_word 0 SEQUENCE_END) s
  esp_in ← field (number_in_word 0 SEQUENCE_END) esp_out.1
  iv ← field (number_in_word 0 IV_END) esp_in.1
  ask ← field (number_in_word 0 MESSAGE_ID_END) iv.1
  answer ← field (number_in_word 0 MESSAGE_ID_END) ask.1
  Ok (
    record {
      esp_out = esp_out.0;
      esp_in = esp_in.0;
      iv = iv.0;
      ask = ask.0;
      answer = answer.0;
    },
    answer.1,
  )
