-- A holding in the place of another one, or behind the others.
use Rattle.std.proofs.Common.{◌≡◌, None, ap, refl, sym, subst, ◌∙◌}
use Rattle.turn_rules.specs.Held.{held_at}
use Rattle.cluster_member.specs.Places.{AllHeld, AreApart, IsHoldingPlace}
use Rattle.cluster_member.proofs.PlaceLemmas.{apart_more, apart_set, one_more, others_at, others_more, put_at}
use Rattle.cluster_member.proofs.holdings.Holdings.put.Goals as goal

pub returns-in-Some-clause-put : goal.returns-in-Some-clause-put
returns-in-Some-clause-put c =
    let items = c.self.inside.items.items in
    let place : IsHoldingPlace c.args.holding.sa.spir c.in-Some.place items = rw (c.deref.ensures.value, c.spir.ensures) at c.in-Some.ensures in
    put_at c.args.holding.sa.spir c.in-Some.place items c.args.holding refl place

pub returns-in-Some-clause-others : goal.returns-in-Some-clause-others
returns-in-Some-clause-others c = λ other differs.
    let items = c.self.inside.items.items in
    let place : IsHoldingPlace c.args.holding.sa.spir c.in-Some.place items = rw (c.deref.ensures.value, c.spir.ensures) at c.in-Some.ensures in
    others_at c.args.holding.sa.spir c.in-Some.place other items c.args.holding refl differs place
    ∙ ap (λ (v : AllHeld). held_at v.held other) c.self.view_is

pub returns-in-None-clause-put : goal.returns-in-None-clause-put
returns-in-None-clause-put c =
    let items = c.self.inside.items.items in
    let none : held_at items c.args.holding.sa.spir ≡ None = rw (c.deref.ensures.value, c.spir.ensures) at c.in-None.ensures in
    rw c.push_reserved.ensures.items (one_more c.args.holding.sa.spir items c.args.holding none refl)

pub returns-in-None-clause-others : goal.returns-in-None-clause-others
returns-in-None-clause-others c = λ other differs.
    let items = c.self.inside.items.items in
    rw c.push_reserved.ensures.items
    (others_more items c.args.holding other differs ∙ ap (λ (v : AllHeld). held_at v.held other) c.self.view_is)

pub invariant_of-self : goal.invariant_of-self
invariant_of-self c =
    let items = c.self.inside.items.items in
    let place : IsHoldingPlace c.args.holding.sa.spir c.in-Some.place items = rw (c.deref.ensures.value, c.spir.ensures) at c.in-Some.ensures in
    apart_set c.args.holding.sa.spir c.args.holding refl c.in-Some.place items place.within place.none_before place.here c.self.invariant

pub invariant_of-self-in-None : goal.invariant_of-self-in-None
invariant_of-self-in-None c =
    let items = c.self.inside.items.items in
    let none : held_at items c.args.holding.sa.spir ≡ None = rw (c.deref.ensures.value, c.spir.ensures) at c.in-None.ensures in
    subst AreApart (sym c.push_reserved.ensures.items) (apart_more items c.args.holding c.self.invariant none)
