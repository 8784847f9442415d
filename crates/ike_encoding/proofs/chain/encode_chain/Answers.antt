use Rattle.std.proofs.Common.{◌≡◌, false, true, sym, subst}
use Rattle.std.specs.Prelude.{IfOk}
use Rattle.ike_values.specs.Writing.{first_type_of}
use Rattle.ike_values.specs.Validity.{AreValid}
use Rattle.ike_values.proofs.SpellingLaws.{spelled_is_valid}
use Rattle.ike_encoding.proofs.WrittenLaws.{chain_spells}
use Rattle.ike_encoding.proofs.chain.encode_chain.Goals as goal

pub put_chain-requires : goal.put_chain-requires
put_chain-requires c = subst (AreValid false) (sym c.as_slice.ensures) (spelled_is_valid c.args.payloads.now c.requires)

pub returns-clause-spells : goal.returns-clause-spells
returns-clause-spells c =
    chain_spells false c.args.payloads.now c.put_chain.result (spelled_is_valid c.args.payloads.now c.requires)
    (subst (λ payloads. IfOk c.put_chain.result (λ first. first ≡ first_type_of payloads)) c.as_slice.ensures c.put_chain.ensures.first)

pub returns-clause-spells_inside : goal.returns-clause-spells_inside
returns-clause-spells_inside c = λ valid.
    chain_spells true c.args.payloads.now c.put_chain.result valid
    (subst (λ payloads. IfOk c.put_chain.result (λ first. first ≡ first_type_of payloads)) c.as_slice.ensures c.put_chain.ensures.first)
