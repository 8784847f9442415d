use Rattle.std.proofs.Common.{◌≡◌, refl, subst}
use Rattle.resume_exchange.specs.Auth.{IsAuthJudged}
use Rattle.resume_exchange.specs.declared.auth.AuthJudged.TheVariants as judged
use Rattle.resume_settling.proofs.Asked.{at_place, correct, mapped, refuses}
use Rattle.resume_settling.specs.Settling.{IsAccepted, IsSettlingOf}
use Rattle.resume_settling.proofs.receiving.on_payloads.Goals as goal

pub returns-in-Identity-clause-answers : goal.returns-in-Identity-clause-answers
returns-in-Identity-clause-answers g c = mapped c.fail-in-Identity.result _ _ (λ answer made half_open here.
    refuses g.K.Keeper c.args.keeper.now c.args.keeper.now c.args.own.now c.args.now.0 c.args.half_opens.now c.args.place answer c.fail-in-Identity.new.half_opens
    half_open c.args.payloads.now judged.Identity refl (subst (λ h. IsAuthJudged h c.args.now.0 c.args.payloads.now judged.Identity)
    (at_place c.args.half_opens.now c.as_slice.result.now c.args.place half_open c.index-as_slice-place.result c.as_slice.ensures c.index-as_slice-place.is here)
    c.in-Identity.ensures) (refl, made half_open here)) c.fail-in-Identity.ensures.fails

pub returns-in-Code-clause-answers : goal.returns-in-Code-clause-answers
returns-in-Code-clause-answers g c = mapped c.fail-in-Code.result _ _ (λ answer made half_open here.
    refuses g.K.Keeper c.args.keeper.now c.args.keeper.now c.args.own.now c.args.now.0 c.args.half_opens.now c.args.place answer c.fail-in-Code.new.half_opens
    half_open c.args.payloads.now judged.Code refl (subst (λ h. IsAuthJudged h c.args.now.0 c.args.payloads.now judged.Code)
    (at_place c.args.half_opens.now c.as_slice.result.now c.args.place half_open c.index-as_slice-place.result c.as_slice.ensures c.index-as_slice-place.is here)
    c.in-Code.ensures) (refl, made half_open here)) c.fail-in-Code.ensures.fails

pub returns-in-NoProposal-clause-answers : goal.returns-in-NoProposal-clause-answers
returns-in-NoProposal-clause-answers g c = mapped c.decline.result _ _ (λ answer made half_open here.
    refuses g.K.Keeper c.args.keeper.now c.args.keeper.now c.args.own.now c.args.now.0 c.args.half_opens.now c.args.place answer c.decline.new.half_opens
    half_open c.args.payloads.now judged.NoProposal refl (subst (λ h. IsAuthJudged h c.args.now.0 c.args.payloads.now judged.NoProposal)
    (at_place c.args.half_opens.now c.as_slice.result.now c.args.place half_open c.index-as_slice-place.result c.as_slice.ensures c.index-as_slice-place.is here)
    c.in-NoProposal.ensures) (refl, made half_open here)) c.decline.ensures.declines

pub returns-in-Expired-clause-answers : goal.returns-in-Expired-clause-answers
returns-in-Expired-clause-answers g c = mapped c.fail-in-Expired.result _ _ (λ answer made half_open here.
    refuses g.K.Keeper c.args.keeper.now c.args.keeper.now c.args.own.now c.args.now.0 c.args.half_opens.now c.args.place answer c.fail-in-Expired.new.half_opens
    half_open c.args.payloads.now judged.Expired refl (subst (λ h. IsAuthJudged h c.args.now.0 c.args.payloads.now judged.Expired)
    (at_place c.args.half_opens.now c.as_slice.result.now c.args.place half_open c.index-as_slice-place.result c.as_slice.ensures c.index-as_slice-place.is here)
    c.in-Expired.ensures) (refl, made half_open here)) c.fail-in-Expired.ensures.fails

pub returns-in_ok-settling-in-Correct-clause-answers : goal.returns-in_ok-settling-in-Correct-clause-answers
returns-in_ok-settling-in-Correct-clause-answers g c = mapped c.settle.result _ _ (λ answer settles half_open here.
    let same : c.index-as_slice-place.result ≡ half_open =
    at_place c.args.half_opens.now c.as_slice.result.now c.args.place half_open c.index-as_slice-place.result c.as_slice.ensures c.index-as_slice-place.is here in
    let settling = c.in_ok-settling-in-Correct.settling in
    correct g.K.Keeper c.args.keeper.now c.settle.new.keeper c.args.own.now c.args.now.0 c.args.half_opens.now c.args.place answer c.settle.new.half_opens
    half_open c.args.payloads.now c.in-Correct.field-0 settling
    (subst (λ h. IsAuthJudged h c.args.now.0 c.args.payloads.now (judged.Correct c.in-Correct.field-0)) same c.in-Correct.ensures)
    (subst (λ h. IsAccepted c.args.own.now.identity h c.args.payloads.now settling.sa settling.accepted) same c.in_ok-settling-in-Correct.ensures.accepted)
    (settles half_open here (subst (λ h. IsSettlingOf h settling) same c.in_ok-settling-in-Correct.ensures.made))) c.settle.ensures.settles
