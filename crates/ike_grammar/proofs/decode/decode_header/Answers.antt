use Rattle.std.proofs.Common.{◌∙◌, arith}
use Rattle.ike_grammar.proofs.Decoded.{header_is_found}
use Rattle.ike_grammar.proofs.MessageLaws.{header_again}
use Rattle.ike_grammar.proofs.decode.decode_header.Goals as goal

pub returns-clause-found : goal.returns-clause-found
returns-clause-found c = header_is_found c.args.bytes.now c.header_of.result (λ i. omega (arith, c.type_inv.bytes i)) c.header_of.ensures.read

pub returns-clause-only : goal.returns-clause-only
returns-clause-only c = λ h s. c.header_of.ensures.read ∙ header_again c.args.bytes.now h s.0 s.1
