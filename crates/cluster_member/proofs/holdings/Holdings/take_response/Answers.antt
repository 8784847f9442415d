-- A response is taken at the place of the holding.
use Rattle.std.proofs.Common.{◌≡◌, Some, MatchOption, [], ap, sym, subst}
use Rattle.events.specs.declared.turn.Step.{Step}
use Rattle.keeper_book.specs.declared.counters.Counter.TheVariants as counter
use Rattle.turn_rules.proofs.Cases.{ok-map}
use Rattle.turn_rules.specs.Draws.{counter_name}
use Rattle.turn_rules.specs.Held.{held_at}
use Rattle.turn_rules.specs.MemberMessages.{KeepsNothing, of_spii}
use Rattle.turn_rules.specs.Messages.{TakesInner}
use Rattle.turn_rules.specs.Tasks as task
use Rattle.cluster_member.proofs.AtPlace.{found-here, holds-here, stays-apart}
use Rattle.cluster_member.proofs.Answers.{taken-quiet}
use Rattle.cluster_member.proofs.Arriving.{found-there}
use Rattle.cluster_member.proofs.holdings.Holdings.take_response.Goals as goal
use Rattle.cluster_member.specs.Advances.{Advances}
use Rattle.cluster_member.specs.Places.{AllHeld, IsHoldingPlace}

pub invariant_of-self : goal.invariant_of-self
invariant_of-self c =
    let items = c.self.inside.items.items in
    let held = c.index_mut-holding.result.now in
    let new = c.take_response.new.self in
    let spir = c.args.response.now.header.spir in
    let place : IsHoldingPlace spir c.in-Some.place items = rw c.deref.ensures.value at c.in-Some.ensures in
    stays-apart spir c.in-Some.place items held new place c.index_mut-holding.ensures.value c.take_response.ensures.sa c.self.invariant

pub returns-clause-takes : goal.returns-clause-takes
returns-clause-takes c =
    let items = c.self.inside.items.items in
    let held = c.index_mut-holding.result.now in
    let new = c.take_response.new.self in
    let response = c.args.response.now in
    let spir = response.header.spir in
    let there = c.requires.awaited in
    let place : IsHoldingPlace spir c.in-Some.place items = rw c.deref.ensures.value at c.in-Some.ensures in
    let old : items ≡ c.args.self.now.held = ap (λ (v : AllHeld). v.held) c.self.view_is in
    let found : held_at c.args.self.now.held spir ≡ Some held = found-here spir c.in-Some.place items held new place c.index_mut-holding.ensures.value c.take_response.ensures.sa c.args.self.now.held old in
    let named : of_spii response.header.spii (held_at c.args.self.now.held spir) ≡ Some held = (found-there (held_at c.args.self.now.held) response.header.spii spir held there.held found there.found).0 in
    ok-map {P = λ (step : Step). TakesInner KeepsNothing (counter_name held.sa counter.Ask) response.header.id response.inner step × Advances held task.Receive [] step new} c.take_response.result (λ step ends. (
      subst (λ x. MatchOption x ⊥ (λ h. TakesInner KeepsNothing (counter_name h.sa counter.Ask) response.header.id response.inner step)) (sym named) ends.0,
      holds-here spir c.in-Some.place items held new place c.index_mut-holding.ensures.value c.take_response.ensures.sa c.args.self.now.held old (λ k. task.Receive) [] step ends.1,
    )) c.take_response.ensures.takes

pub returns-clause-quiet : goal.returns-clause-quiet
returns-clause-quiet c =
    let held = c.index_mut-holding.result.now in
    let response = c.args.response.now in
    ok-map {P = λ (step : Step). TakesInner KeepsNothing (counter_name held.sa counter.Ask) response.header.id response.inner step × Advances held task.Receive [] step c.take_response.new.self}
    c.take_response.result (λ step ends. taken-quiet (counter_name held.sa counter.Ask) response.header.id response.inner step ends.0) c.take_response.ensures.takes
