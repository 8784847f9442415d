use Rattle.std.proofs.Common.{◌≡◌, false, ◌++◌, length, map}
use Rattle.ike_values.specs.PayloadView.{payload_value}
use Rattle.ike_values.specs.Writing.{chain_written}
use Rattle.ike_values.specs.Validity.{AreValid}
use Rattle.ike_encoding.proofs.chain.put_payloads.Given as goal

abbrev pub invariant-loop-rest : goal.invariant-loop-rest
invariant-loop-rest l = record {
  written : l.out.octets ++ chain_written (map payload_value l.rest) ≡ l.fn.out.octets ++ chain_written (map payload_value l.fn.payloads);
  fit : AreValid false (map payload_value l.rest);
}

abbrev pub decreases-loop-rest : goal.decreases-loop-rest
decreases-loop-rest l = length l.rest
