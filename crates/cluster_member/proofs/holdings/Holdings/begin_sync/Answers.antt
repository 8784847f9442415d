-- A request to synchronise is sent at the place of the holding.
use Rattle.std.proofs.Common.{◌≡◌, None, [], refl, ap, sym, ◌∙◌, subst}
use Rattle.events.specs.declared.turn.Step.{Step}
use Rattle.events.specs.declared.verdict.Refusal.TheVariants as refusal
use Rattle.keeper_book.proofs.Asking.{asks_none}
use Rattle.keeper_book.specs.Asks.{AsksFor}
use Rattle.turn_rules.proofs.Cases.{ok-map}
use Rattle.turn_rules.specs.Held.{held_at}
use Rattle.turn_rules.specs.MemberMessages.{HeldSyncs, SyncsOf}
use Rattle.turn_rules.specs.Tasks as task
use Rattle.cluster_member.proofs.AtPlace.{found-here, holds-here, stays-apart}
use Rattle.cluster_member.proofs.Placed.{refused-holds}
use Rattle.cluster_member.specs.Advances.{Advances}
use Rattle.cluster_member.specs.Places.{AllHeld, IsHoldingPlace}
use Rattle.cluster_member.proofs.holdings.Holdings.begin_sync.Goals as goal

pub invariant_of-self : goal.invariant_of-self
invariant_of-self g c =
    let items = c.self.inside.items.items in
    let held = c.index_mut-holding.result.now in
    let new = c.begin_sync.new.self in
    let place : IsHoldingPlace c.args.spir c.in-Some.place items = rw c.deref.ensures.value at c.in-Some.ensures in
    stays-apart c.args.spir c.in-Some.place items held new place c.index_mut-holding.ensures.value c.begin_sync.ensures.sa c.self.invariant

pub returns-in-Some-clause-syncs : goal.returns-in-Some-clause-syncs
returns-in-Some-clause-syncs g c =
    let items = c.self.inside.items.items in
    let held = c.index_mut-holding.result.now in
    let new = c.begin_sync.new.self in
    let place : IsHoldingPlace c.args.spir c.in-Some.place items = rw c.deref.ensures.value at c.in-Some.ensures in
    let old : items ≡ c.args.self.now.held = ap (λ (v : AllHeld). v.held) c.self.view_is in
    ok-map {P = λ (step : Step). AsksFor g.K.Keeper c.args.keeper.now c.begin_sync.new.keeper (λ calls.
    HeldSyncs c.args.fresh.now held calls step × Advances held (task.Sync held.sa.spir) calls step new)} c.begin_sync.result
    (λ step it. record {
      calls = it.calls;
      follows = (
        subst (λ x. SyncsOf c.args.fresh.now x it.calls step) (sym (found-here c.args.spir c.in-Some.place items held new place
            c.index_mut-holding.ensures.value c.begin_sync.ensures.sa c.args.self.now.held old)) it.follows.0,
        holds-here c.args.spir c.in-Some.place items held new place c.index_mut-holding.ensures.value c.begin_sync.ensures.sa c.args.self.now.held old
            (λ k. task.Sync k) it.calls step it.follows.1,
      );
      asked = it.asked;
      held = it.held;
    }) c.begin_sync.ensures.syncs

pub returns-in-None-clause-syncs : goal.returns-in-None-clause-syncs
returns-in-None-clause-syncs g c =
    let none : held_at c.args.self.now.held c.args.spir ≡ None = ap (λ (v : AllHeld). held_at v.held c.args.spir) (sym c.self.view_is) ∙
    (rw c.deref.ensures.value at c.in-None.ensures) in
    record {
      calls = [];
      follows = (
        subst (λ x. SyncsOf c.args.fresh.now x [] c.not_owner.result) (sym none) (refl, c.not_owner.ensures),
        refused-holds (task.Sync c.args.spir) c.not_owner.result refusal.NotOwner c.args.self.now.held c.not_owner.ensures,
      );
      asked = asks_none c.args.keeper.now;
      held = refl;
    }
