use Rattle.std.proofs.Common.{◌≡◌, Ok, rules, subst}
use Rattle.std.specs.Prelude.{IfOk}
use Rattle.ike_values.specs.Headers.{IsMessage}
use Rattle.message_text.proofs.TextLaws.{message_valid, text_is_shown}
use Rattle.message_text.proofs.message.text_of.Goals as goal

pub message_text-requires : goal.message_text-requires
message_text-requires c =
    let read : c.decode_message.result ≡ Ok c.in-Ok.message = search rules in
    let is : IsMessage c.in-Ok.message c.args.octets.now = subst (λ r. IfOk r (λ m. IsMessage m c.args.octets.now)) read c.decode_message.ensures.found in
    message_valid c.in-Ok.message c.args.octets.now is

pub returns-in-Ok : goal.returns-in-Ok
returns-in-Ok c =
    let read : c.decode_message.result ≡ Ok c.in-Ok.message = search rules in
    let is : IsMessage c.in-Ok.message c.args.octets.now = subst (λ r. IfOk r (λ m. IsMessage m c.args.octets.now)) read c.decode_message.ensures.found in
    text_is_shown c.in-Ok.message c.args.octets.now c.message_text.result is c.message_text.ensures
