-- The run acts itself, or an end performs the event.
use Rattle.std.proofs.Common.{List, [], refl, subst}
use Rattle.events.specs.declared.turn.Turn.{Turn}
use Rattle.ha_base.specs.declared.outside.Moment.{Moment}
use Rattle.keeper_book.proofs.Asking.{asks_for_none}
use Rattle.turn_rules.specs.Configurations.{Configuration}
use Rattle.run_ends.proofs.Events.{if_ok-as}
use Rattle.run_ends.proofs.parties.Parties.act.Goals as goal
use Rattle.run_ends.specs.Parties.{Acts, Configures}

pub returns-in-Cluster-clause-acts : goal.returns-in-Cluster-clause-acts
returns-in-Cluster-clause-acts g c = asks_for_none g.K.Keeper c.args.keeper.now (rw c.in-Cluster.is
    (subst (λ (s : Configuration). Configures s (λ at. (past : List Turn) (now : Moment) → Acts past c.args.self.now now at [] c.configure.result c.configure.new.self)) c.of-settings.ensures c.configure.ensures.configures _ refl c.args.trace.now.past c.args.now))

pub returns-in-Join-clause-acts : goal.returns-in-Join-clause-acts
returns-in-Join-clause-acts g c = if_ok-as c.join.result (λ step it. asks_for_none g.K.Keeper c.args.keeper.now (rw c.in-Join.is (it c.args.trace.now.past c.args.now))) c.join.ensures.joins

pub returns-in-Crash-clause-acts : goal.returns-in-Crash-clause-acts
returns-in-Crash-clause-acts g c = asks_for_none g.K.Keeper c.args.keeper.now (rw c.in-Crash.is (c.crash.ensures.crashes c.args.trace.now.past c.args.now))
