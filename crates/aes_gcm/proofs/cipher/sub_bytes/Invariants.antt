use Rattle.std.proofs.Common.{◌≡◌, ◌++◌, map, take, drop}
use Rattle.aes_gcm.specs.Aes.{sub_byte}
use Rattle.aes_gcm.proofs.cipher.sub_bytes.Given as goal

abbrev pub invariant-loop-octet : goal.invariant-loop-octet
invariant-loop-octet l =
    l.octets ≡ map sub_byte (take l.octet-index l.initial.octets) ++ drop l.octet-index l.initial.octets
