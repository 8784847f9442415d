use Rattle.std.proofs.Common.{◌∙◌, ◌∷◌, take, ap}
use Rattle.std.proofs.lemmas.List.{take_all, take_min}
use Rattle.whole_runs.proofs.services.EchoServiceService.execute.Goals as goal

pub returns-clause-gives : goal.returns-clause-gives
returns-clause-gives c =
    c.loop-octet.invariant ∙ ap (λ octets. 238 ∷ octets)
    (take_all _ _ c.loop-octet-test.false
    ∙ ap (λ count. take count c.args.request.now) c.min.ensures
    ∙ take_min 255 c.args.request.now)
