-- A request to synchronise is refused before a call.
use Rattle.std.proofs.Common.{rules, refl, ap, sym, subst, ◌≤◌, ◌∙◌}
use Rattle.ha_base.specs.declared.limits.TheConstants.{MESSAGE_ID_END}
use Rattle.keeper_book.proofs.Asking.{asks_for_none}
use Rattle.turn_rules.specs.Held.{Held}
use Rattle.cluster_member.proofs.SyncHoldings.{ended-refuses, synced-refuses}
use Rattle.cluster_member.proofs.holding.Holding.begin_sync.Goals as goal

pub returns-then-synced-clause-syncs : goal.returns-then-synced-clause-syncs
returns-then-synced-clause-syncs g c = asks_for_none g.K.Keeper c.args.keeper.now
    (synced-refuses c.args.fresh.now c.args.self.now c.args.self.now c.quiet.result refl
    (ap (λ (v : Held). v.synced) (sym c.self.view_is) ∙ sym c.synced.ensures ∙ c.if-synced.true) (search rules))

pub returns-then-id-ge-MESSAGE_ID_END-clause-syncs : goal.returns-then-id-ge-MESSAGE_ID_END-clause-syncs
returns-then-id-ge-MESSAGE_ID_END-clause-syncs g c = asks_for_none g.K.Keeper c.args.keeper.now
    (ended-refuses c.args.fresh.now c.args.self.now c.args.self.now c.quiet-then-id-ge-MESSAGE_ID_END.result refl
    (ap (λ (v : Held). v.synced) (sym c.self.view_is) ∙ sym c.synced.ensures ∙ c.if-synced.false) c.sync_id-id.ensures.within
    (subst (λ n. MESSAGE_ID_END ≤ n) c.sync_id-id.ensures.value c.if-id-ge-MESSAGE_ID_END.true) (search rules))
