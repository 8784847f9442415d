use Rattle.std.proofs.Common.{rules, ap, length, ◌∙◌}
use Rattle.ike_values.specs.ProposalView.{proposal_value}
use Rattle.ike_values.specs.SelectorView.{selector_value}
use Rattle.resume_settling.proofs.Chosen.{found_as, initiator_fits, is_there, responder_fits, something_chosen, spi_has_four}
use Rattle.resume_settling.specs.Choosing.{Chooses}
use Rattle.resume_settling.proofs.settling.Settling.new.Goals as goal

pub unwrap-requires : goal.unwrap-requires
unwrap-requires c =
    let one = something_chosen c.args.half_open.now c.args.payloads.now c.requires.correct c.requires.valid in
    is_there c.chosen.result _ _ c.chosen.ensures (λ none. none one.0 one.1 one.2 one.3)

pub auth_frame-requires-clause-initiator : goal.auth_frame-requires-clause-initiator
auth_frame-requires-clause-initiator c =
    let taken : Chooses c.args.half_open.now.content.size c.args.payloads.now (proposal_value c.unwrap.result.0.now) (selector_value c.unwrap.result.1.now) (selector_value c.unwrap.result.2.now) =
    found_as c.chosen.result c.unwrap.result _ _ c.chosen.ensures (search rules) in
    initiator_fits c.args.payloads.now (selector_value c.unwrap.result.1.now) c.requires.valid taken.initiator_is

pub auth_frame-requires-clause-responder : goal.auth_frame-requires-clause-responder
auth_frame-requires-clause-responder c =
    let taken : Chooses c.args.half_open.now.content.size c.args.payloads.now (proposal_value c.unwrap.result.0.now) (selector_value c.unwrap.result.1.now) (selector_value c.unwrap.result.2.now) =
    found_as c.chosen.result c.unwrap.result _ _ c.chosen.ensures (search rules) in
    responder_fits c.args.payloads.now (selector_value c.unwrap.result.2.now) c.requires.valid taken.responder_is

pub read_u32-spi_out-requires : goal.read_u32-spi_out-requires
read_u32-spi_out-requires c =
    let taken : Chooses c.args.half_open.now.content.size c.args.payloads.now (proposal_value c.unwrap.result.0.now) (selector_value c.unwrap.result.1.now) (selector_value c.unwrap.result.2.now) =
    found_as c.chosen.result c.unwrap.result _ _ c.chosen.ensures (search rules) in
    ap length c.as_slice.ensures.value ∙ spi_has_four c.args.half_open.now.content.size c.args.payloads.now (proposal_value c.unwrap.result.0.now) taken.proposal_is
