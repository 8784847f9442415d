use Rattle.std.proofs.Common.{◌≡◌, ◌+◌, ◌≤◌, false, min, length, map}
use Rattle.ike_values.specs.PayloadView.{payload_value}
use Rattle.ike_values.specs.Writing.{chain_written}
use Rattle.ike_values.specs.Validity.{AreValid}
use Rattle.ike_encoding.proofs.length.chain_len.Given as goal

abbrev pub invariant-loop-rest : goal.invariant-loop-rest
invariant-loop-rest l = record {
  within : l.len ≤ 4294967296;
  total : min 4294967296 (l.len + length (chain_written (map payload_value l.rest))) ≡ min 4294967296 (length (chain_written (map payload_value l.fn.payloads)));
  fit : AreValid false (map payload_value l.rest);
}

abbrev pub decreases-loop-rest : goal.decreases-loop-rest
decreases-loop-rest l = length l.rest
