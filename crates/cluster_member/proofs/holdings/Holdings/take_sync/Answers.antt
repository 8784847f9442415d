-- A response to a request to synchronise is taken at the place of the holding.
use Rattle.std.proofs.Common.{◌≡◌, Some, MatchOption, [], ap, sym, subst}
use Rattle.turn_rules.specs.Held.{held_at}
use Rattle.turn_rules.specs.MemberMessages.{HeldTakesSync, of_spii}
use Rattle.turn_rules.specs.Tasks as task
use Rattle.cluster_member.proofs.AtPlace.{found-here, holds-here, stays-apart}
use Rattle.cluster_member.proofs.Arriving.{found-there}
use Rattle.cluster_member.proofs.holdings.Holdings.take_sync.Goals as goal
use Rattle.cluster_member.specs.Places.{AllHeld, IsHoldingPlace}

pub invariant_of-self : goal.invariant_of-self
invariant_of-self c =
    let items = c.self.inside.items.items in
    let held = c.index_mut-holding.result.now in
    let new = c.take_sync.new.self in
    let spir = c.args.response.now.header.spir in
    let place : IsHoldingPlace spir c.in-Some.place items = rw c.deref.ensures.value at c.in-Some.ensures in
    stays-apart spir c.in-Some.place items held new place c.index_mut-holding.ensures.value c.take_sync.ensures.sa c.self.invariant

pub returns-clause-takes : goal.returns-clause-takes
returns-clause-takes c =
    let items = c.self.inside.items.items in
    let held = c.index_mut-holding.result.now in
    let new = c.take_sync.new.self in
    let response = c.args.response.now in
    let spir = response.header.spir in
    let there = c.requires.of_sync in
    let place : IsHoldingPlace spir c.in-Some.place items = rw c.deref.ensures.value at c.in-Some.ensures in
    let old : items ≡ c.args.self.now.held = ap (λ (v : AllHeld). v.held) c.self.view_is in
    let found : held_at c.args.self.now.held spir ≡ Some held = found-here spir c.in-Some.place items held new place c.index_mut-holding.ensures.value
    c.take_sync.ensures.sa c.args.self.now.held old in
    let named : of_spii response.header.spii (held_at c.args.self.now.held spir) ≡ Some held =
    (found-there (held_at c.args.self.now.held) response.header.spii spir held there.held found there.found).0 in
    subst (λ x. MatchOption x ⊥ (λ h. HeldTakesSync c.args.fresh.now h response [] c.take_sync.result)) (sym named) c.take_sync.ensures.takes

pub returns-clause-holds : goal.returns-clause-holds
returns-clause-holds c =
    let items = c.self.inside.items.items in
    let held = c.index_mut-holding.result.now in
    let new = c.take_sync.new.self in
    let spir = c.args.response.now.header.spir in
    let place : IsHoldingPlace spir c.in-Some.place items = rw c.deref.ensures.value at c.in-Some.ensures in
    let old : items ≡ c.args.self.now.held = ap (λ (v : AllHeld). v.held) c.self.view_is in
    holds-here spir c.in-Some.place items held new place c.index_mut-holding.ensures.value c.take_sync.ensures.sa c.args.self.now.held old
    (λ k. task.Receive) [] c.take_sync.result c.take_sync.ensures.after
