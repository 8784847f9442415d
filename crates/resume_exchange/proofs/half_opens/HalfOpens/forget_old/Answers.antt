use Rattle.std.proofs.Common.{rules, filter, ap, ◌∙◌}
use Rattle.std.proofs.lemmas.Fn.{filter_same}
use Rattle.resume_exchange.specs.HalfOpens.{is_live}
use Rattle.resume_exchange.proofs.half_opens.HalfOpens.forget_old.Goals as goal

pub returns : goal.returns
returns c =
    filter_same _ (is_live c.args.now.0) _ (λ x b f' k. search rules) _ _ c.retain.ensures.filtered
    ∙ ap (filter (is_live c.args.now.0)) c.self.view_is
