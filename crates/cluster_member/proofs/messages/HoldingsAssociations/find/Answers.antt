-- What is held of the association, where its initiator's SPI is this one.
use Rattle.std.proofs.Common.{◌≡◌, Some, Bor, ap, sym, ◌∙◌}
use Rattle.ike_sas.specs.Held.{IkeHeld}
use Rattle.turn_rules.specs.Held.{held_at}
use Rattle.cluster_member.proofs.Arriving.{find-there}
use Rattle.cluster_member.proofs.PlaceLemmas.{found_at}
use Rattle.cluster_member.proofs.messages.HoldingsAssociations.find.Goals as goal
use Rattle.cluster_member.specs.Places.{AllHeld, IsHoldingPlace}

pub returns-in-Some : goal.returns-in-Some
returns-in-Some c =
    let items = c.self.inside.items.items in
    let held = c.index.result.now in
    let place : IsHoldingPlace c.args.spir c.in-Some.place items = rw c.deref.ensures.value at c.in-Some.ensures in
    let found : held_at c.args.self.now.held c.args.spir ≡ Some held = ap (λ (v : AllHeld). held_at v.held c.args.spir) (sym c.self.view_is) ∙ found_at c.args.spir c.in-Some.place items held place c.index.ensures in
    find-there (λ (b : Bor IkeHeld). b.now) (held_at c.args.self.now.held) c.args.spii c.args.spir held found c.ike_of.result c.ike_of.ensures
