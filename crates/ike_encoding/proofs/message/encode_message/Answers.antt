use Rattle.ike_values.proofs.SpellingLaws.{spelled_is_valid}
use Rattle.ike_encoding.proofs.WrittenLaws.{message_spells}
use Rattle.ike_encoding.proofs.message.encode_message.Goals as goal

pub returns-clause-spells : goal.returns-clause-spells
returns-clause-spells c =
    let m = c.args.message.now in
    message_spells m c.put_message.result (spelled_is_valid m.payloads c.requires.valid) c.requires.fits c.put_message.ensures.written c.put_message.ensures.header
