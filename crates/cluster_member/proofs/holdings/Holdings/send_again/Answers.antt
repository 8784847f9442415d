-- A request is sent again at the place of the holding.
use Rattle.std.proofs.Common.{◌≡◌, ℕ, Some, [], IfOk, Result, Ok, Err, refl, ap, sym, ◌∙◌, subst}
use Rattle.events.specs.declared.turn.Step.{Step}
use Rattle.turn_rules.specs.Held.{Held, held_at}
use Rattle.turn_rules.specs.MemberMessages.{ResendsOf, held_ike}
use Rattle.turn_rules.specs.Messages.{Resends}
use Rattle.cluster_member.proofs.PlaceLemmas.{found_at}
use Rattle.cluster_member.proofs.holdings.Holdings.send_again.Goals as goal
use Rattle.cluster_member.specs.Places.{AllHeld, IsHoldingPlace}

resends-held : {E : Type 0} (held : Held) (id : ℕ) (result : Result Step E) → IfOk result (Resends id (held_ike held)) → IfOk result (ResendsOf (Some held) id [])
resends-held held id (Ok step) resends = (refl, resends)
resends-held held id (Err error) resends = resends

pub returns-in-Some : goal.returns-in-Some
returns-in-Some c =
    let items = c.self.inside.items.items in
    let held = c.index.result.now in
    let place : IsHoldingPlace c.args.spir c.in-Some.place items = rw c.deref.ensures.value at c.in-Some.ensures in
    let found : held_at c.args.self.now.held c.args.spir ≡ Some held = ap (λ (v : AllHeld). held_at v.held c.args.spir) (sym c.self.view_is) ∙ found_at c.args.spir c.in-Some.place items held place c.index.ensures in
    subst (λ x. IfOk c.send_again.result (ResendsOf x c.args.id [])) (sym found) (resends-held held c.args.id c.send_again.result c.send_again.ensures)
