-- A payload is sent at the place of the holding.
use Rattle.std.proofs.Common.{◌≡◌, None, [], refl, ap, sym, ◌∙◌, subst}
use Rattle.events.specs.declared.verdict.Refusal.TheVariants as refusal
use Rattle.keeper_book.proofs.Asking.{asks_none}
use Rattle.turn_rules.specs.Fits.{SendsOf}
use Rattle.turn_rules.specs.Held.{held_at}
use Rattle.turn_rules.specs.Tasks as task
use Rattle.cluster_member.proofs.AtPlace.{found-here, holds-here, stays-apart}
use Rattle.cluster_member.proofs.Placed.{refused-holds}
use Rattle.cluster_member.specs.Places.{AllHeld, IsHoldingPlace}
use Rattle.cluster_member.proofs.holdings.Holdings.send.Goals as goal

pub returns-in-Some : goal.returns-in-Some
returns-in-Some g c =
    let items = c.self.inside.items.items in
    let held = c.index_mut-holding.result.now in
    let new = c.send.new.self in
    let it = c.send.ensures.sends in
    let place : IsHoldingPlace c.args.spir c.in-Some.place items = rw c.deref.ensures.value at c.in-Some.ensures in
    let old : items ≡ c.args.self.now.held = ap (λ (v : AllHeld). v.held) c.self.view_is in
    record {
      sends = record {
        calls = it.calls;
        follows = (
          subst (λ x. SendsOf x c.args.payload.now it.calls c.send.result) (sym (found-here c.args.spir c.in-Some.place items held new place c.index_mut-holding.ensures.value c.send.ensures.sa c.args.self.now.held old)) it.follows.0,
          holds-here c.args.spir c.in-Some.place items held new place c.index_mut-holding.ensures.value c.send.ensures.sa c.args.self.now.held old (λ k. task.Send k c.args.payload.now) it.calls c.send.result it.follows.1,
        );
        asked = it.asked;
        held = it.held;
      };
    }

pub invariant_of-self : goal.invariant_of-self
invariant_of-self g c =
    let items = c.self.inside.items.items in
    let held = c.index_mut-holding.result.now in
    let new = c.send.new.self in
    let place : IsHoldingPlace c.args.spir c.in-Some.place items = rw c.deref.ensures.value at c.in-Some.ensures in
    stays-apart c.args.spir c.in-Some.place items held new place c.index_mut-holding.ensures.value c.send.ensures.sa c.self.invariant

pub returns-in-None : goal.returns-in-None
returns-in-None g c =
    let items = c.self.inside.items.items in
    let none : held_at c.args.self.now.held c.args.spir ≡ None = ap (λ (v : AllHeld). held_at v.held c.args.spir) (sym c.self.view_is) ∙ (rw c.deref.ensures.value at c.in-None.ensures) in
    let same : items ≡ c.args.self.now.held = ap (λ (v : AllHeld). v.held) c.self.view_is in
    record {
      sends = record {
        calls = [];
        follows = (
          subst (λ x. SendsOf x c.args.payload.now [] c.not_owner.result) (sym none) (record { no_calls = refl; says = c.not_owner.ensures }),
          refused-holds (task.Send c.args.spir c.args.payload.now) c.not_owner.result refusal.NotOwner c.args.self.now.held c.not_owner.ensures,
        );
        asked = asks_none c.args.keeper.now;
        held = refl;
      };
    }
