use Rattle.std.proofs.lemmas.Result.{err_from_is_err_and}
use Rattle.ike_values.specs.PayloadView.{sk_value}
use Rattle.sk_payload.proofs.Openings.{answers_opened, answers_fault}
use Rattle.sk_payload.proofs.open.open_body.Goals as goal

pub returns-in_err-plain : goal.returns-in_err-plain
returns-in_err-plain c =
    let p = err_from_is_err_and c.from_residual.result c.from_residual.ensures.1 in
    rw (p.1, p.2) (answers_fault c.one_message.ensures.one_value c.args.key.now.octets c.args.bytes.now c.args.header (sk_value c.args.body.now) c.requires
    c.in_err-plain.field-0.0 c.in_err-plain.ensures.refused)

pub returns : goal.returns
returns c =
    answers_opened c.one_message.ensures.one_value c.args.key.now.octets c.args.bytes.now c.args.header (sk_value c.args.body.now) c.requires
    c.in_ok-plain.plain.items c.in_ok-inner.inner c.in_ok-plain.ensures.opened
    (rw c.deref.ensures.value at c.in_ok-inner.ensures.inner)
