use Rattle.std.proofs.Common.{◌≡◌, Ok, Err, refl, subst}
use Rattle.resume_settling.proofs.Asked.{at_place, heard, mapped, moved, none_asked}
use Rattle.resume_settling.proofs.Inner.{opened_valid}
use Rattle.resume_settling.specs.Finding.{IsLastMeant}
use Rattle.resume_settling.proofs.receiving.on_auth.Goals as goal

pub on_payloads-requires-clause-valid : goal.on_payloads-requires-clause-valid
on_payloads-requires-clause-valid g c =
    opened_valid c.index-as_slice-place.result c.args.message.now.header c.args.bytes.now c.in-Ok.payloads
    (moved c.index-as_slice-place.result c.index-as_slice-place.result c.args.message.now.header c.args.bytes.now _ (Ok c.in-Ok.payloads) refl c.in-Ok.is c.in_ok-payloads.ensures)

pub returns-in-Ok-clause-answers : goal.returns-in-Ok-clause-answers
returns-in-Ok-clause-answers g c =
    let last : IsLastMeant c.args.now.0 c.args.message.now.header c.args.half_opens.now c.in-Some.place =
    subst (λ l. IsLastMeant c.args.now.0 c.args.message.now.header l c.in-Some.place) c.as_slice.ensures c.in-Some.ensures in
    let same : c.index-as_slice-place.result ≡ last.half_open =
    at_place c.args.half_opens.now c.as_slice-2.result.now c.in-Some.place last.half_open c.index-as_slice-place.result c.as_slice-2.ensures c.index-as_slice-place.is last.here in
    mapped c.on_payloads.result _ _ (λ answer asks.
    heard g.K.Keeper c.args.keeper.now c.on_payloads.new.keeper c.args.own.now c.args.now.0 c.args.half_opens.now c.in-Some.place answer c.on_payloads.new.half_opens
    c.args.message.now.header c.args.bytes.now last (Ok c.in-Ok.payloads)
    (moved c.index-as_slice-place.result last.half_open c.args.message.now.header c.args.bytes.now _ (Ok c.in-Ok.payloads) same c.in-Ok.is c.in_ok-payloads.ensures)
    (asks last.half_open last.here)) c.on_payloads.ensures.answers

pub returns-in-Err-clause-answers : goal.returns-in-Err-clause-answers
returns-in-Err-clause-answers g c =
    let last : IsLastMeant c.args.now.0 c.args.message.now.header c.args.half_opens.now c.in-Some.place =
    subst (λ l. IsLastMeant c.args.now.0 c.args.message.now.header l c.in-Some.place) c.as_slice.ensures c.in-Some.ensures in
    let same : c.index-as_slice-place.result ≡ last.half_open =
    at_place c.args.half_opens.now c.as_slice-2.result.now c.in-Some.place last.half_open c.index-as_slice-place.result c.as_slice-2.ensures c.index-as_slice-place.is last.here in
    heard g.K.Keeper c.args.keeper.now c.args.keeper.now c.args.own.now c.args.now.0 c.args.half_opens.now c.in-Some.place _ c.args.half_opens.now
    c.args.message.now.header c.args.bytes.now last (Err c.in-Err.why)
    (moved c.index-as_slice-place.result last.half_open c.args.message.now.header c.args.bytes.now _ (Err c.in-Err.why) same c.in-Err.is c.in_ok-payloads.ensures)
    (none_asked g.K.Keeper c.args.keeper.now c.args.keeper.now refl (record { unasked = refl; told = refl; left = refl }))
