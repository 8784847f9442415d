use Rattle.std.proofs.Common.{arith}
use Rattle.ike_grammar.proofs.Decoded.{chain_is_found, chain_is_only, chain_is_refused}
use Rattle.ike_grammar.proofs.decode.decode_chain.Goals as goal

pub returns-clause-found : goal.returns-clause-found
returns-clause-found c = chain_is_found c.args.first c.args.inner c.args.bytes.now c.chain_of.result (λ i. omega (arith, c.type_inv.bytes i)) c.chain_of.ensures

pub returns-clause-only : goal.returns-clause-only
returns-clause-only c = chain_is_only c.args.first c.args.inner c.args.bytes.now c.chain_of.result c.chain_of.ensures

pub returns-clause-refused : goal.returns-clause-refused
returns-clause-refused c = chain_is_refused c.args.first c.args.inner c.args.bytes.now c.chain_of.result c.chain_of.ensures
