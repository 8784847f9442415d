use Rattle.std.proofs.Common.{arith}
use Rattle.ike_grammar.proofs.Decoded.{message_is_found, message_is_only, message_is_refused}
use Rattle.ike_grammar.proofs.decode.decode_message.Goals as goal

pub returns-clause-found : goal.returns-clause-found
returns-clause-found c = message_is_found c.args.bytes.now c.message_of.result (λ i. omega (arith, c.type_inv.bytes i)) c.message_of.ensures

pub returns-clause-only : goal.returns-clause-only
returns-clause-only c = message_is_only c.args.bytes.now c.message_of.result c.message_of.ensures

pub returns-clause-refused : goal.returns-clause-refused
returns-clause-refused c = message_is_refused c.args.bytes.now c.message_of.result c.message_of.ensures
