-- A request is answered at the place of the holding.
use Rattle.std.proofs.Common.{◌≡◌, Some, MatchOption, ap, sym, ◌∙◌, subst}
use Rattle.ike_sas.specs.Held.{IkeHeld}
use Rattle.ike_window.specs.Requests.{IsNewRequest}
use Rattle.ike_window.specs.Windows.{IsAnswered}
use Rattle.turn_rules.specs.Held.{held_at}
use Rattle.turn_rules.specs.MemberMessages.{HeldAnswers, of_spii}
use Rattle.turn_rules.specs.Tasks as task
use Rattle.ticket_issuing.specs.Issuing.{member_issuing}
use Rattle.cluster_member.proofs.AtPlace.{found-here, holds-here, stays-apart}
use Rattle.cluster_member.proofs.Arriving.{found-there}
use Rattle.cluster_member.proofs.PlaceLemmas.{found_at}
use Rattle.cluster_member.proofs.holdings.Holdings.answer.Goals as goal
use Rattle.cluster_member.specs.Places.{AllHeld, IsHoldingPlace}

pub answer-requires-clause-new : goal.answer-requires-clause-new
answer-requires-clause-new g c =
    let items = c.self.inside.items.items in
    let held = c.index_mut-holding.result.now in
    let header = c.args.request.now.header in
    let there = c.requires.new in
    let place : IsHoldingPlace header.spir c.in-Some.place items = rw c.deref.ensures.value at c.in-Some.ensures in
    let found : held_at c.args.self.now.held header.spir ≡ Some held = ap (λ (v : AllHeld). held_at v.held header.spir) (sym c.self.view_is) ∙ found_at header.spir c.in-Some.place items held place c.index_mut-holding.ensures.value in
    subst (λ (x : IkeHeld). IsNewRequest x.answered.low (IsAnswered x.answered) header.id)
    (sym (found-there (held_at c.args.self.now.held) header.spii header.spir held there.0 found there.1).1) there.2

pub invariant_of-self : goal.invariant_of-self
invariant_of-self g c =
    let items = c.self.inside.items.items in
    let held = c.index_mut-holding.result.now in
    let new = c.answer.new.self in
    let spir = c.args.request.now.header.spir in
    let place : IsHoldingPlace spir c.in-Some.place items = rw c.deref.ensures.value at c.in-Some.ensures in
    stays-apart spir c.in-Some.place items held new place c.index_mut-holding.ensures.value c.answer.ensures.sa c.self.invariant

pub returns-clause-answers : goal.returns-clause-answers
returns-clause-answers g c =
    let items = c.self.inside.items.items in
    let held = c.index_mut-holding.result.now in
    let new = c.answer.new.self in
    let it = c.answer.ensures.answers in
    let request = c.args.request.now in
    let spir = request.header.spir in
    let there = c.requires.new in
    let place : IsHoldingPlace spir c.in-Some.place items = rw c.deref.ensures.value at c.in-Some.ensures in
    let old : items ≡ c.args.self.now.held = ap (λ (v : AllHeld). v.held) c.self.view_is in
    let found : held_at c.args.self.now.held spir ≡ Some held = found-here spir c.in-Some.place items held new place c.index_mut-holding.ensures.value c.answer.ensures.sa c.args.self.now.held old in
    let named : of_spii request.header.spii (held_at c.args.self.now.held spir) ≡ Some held = (found-there (held_at c.args.self.now.held) request.header.spii spir held there.0 found there.1).0 in
    record {
      calls = it.calls;
      follows = record {
        answers = subst (λ x. MatchOption x ⊥ (λ h. HeldAnswers (member_issuing c.args.issuer.now) c.args.now h request it.calls c.answer.result)) (sym named) it.follows.answers;
        holds = holds-here spir c.in-Some.place items held new place c.index_mut-holding.ensures.value c.answer.ensures.sa c.args.self.now.held old (λ k. task.Receive) it.calls c.answer.result it.follows.advances;
        issues = it.follows.issues;
      };
      asked = it.asked;
      held = it.held;
    }
