-- The run refuses the event, or it is performed.
use Rattle.std.proofs.Common.{sym, ◌∙◌}
use Rattle.keeper_book.proofs.Asking.{asks_for_none}
use Rattle.run_ends.proofs.Acting.{acted-plays, refused-plays}
use Rattle.run_ends.proofs.Events.{asked-as, if_ok-as}
use Rattle.run_ends.proofs.parties.Parties.play.Goals as goal

pub returns-in-Some-clause-plays : goal.returns-in-Some-clause-plays
returns-in-Some-clause-plays g c = asks_for_none g.K.Keeper c.args.keeper.now
    (refused-plays c.args.trace.now.past c.args.self.now c.args.now c.args.event.now c.in-Some.why c.refused.result c.requires.in_place (sym c.refusal.ensures ∙ c.in-Some.is) c.refused.ensures)

pub returns-in-None-clause-plays : goal.returns-in-None-clause-plays
returns-in-None-clause-plays g c = if_ok-as c.act.result
    (λ step. asked-as (λ calls it. acted-plays c.args.trace.now.past c.args.self.now c.args.now c.args.event.now calls step _ (sym c.refusal.ensures ∙ c.in-None.is) it))
    c.act.ensures.acts
