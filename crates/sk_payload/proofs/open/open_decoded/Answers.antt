use Rattle.sk_payload.proofs.Openings.{answers_others}
use Rattle.sk_payload.proofs.open.open_decoded.Goals as goal

pub returns-in-None : goal.returns-in-None
returns-in-None c = answers_others c.one_message.ensures.one_value c.args.key.now.octets c.args.bytes.now c.args.message.now c.requires c.in-None.ensures.none
