-- The peer acts, or a member that is up.
use Rattle.std.proofs.Common.{◌≡◌, ◌∙◌, Some, None, ap, sym, subst, rules}
use Rattle.std.proofs.Math.ListN.{set}
use Rattle.turn_rules.specs.Fits.{named_in}
use Rattle.run_ends.proofs.Acting.{its-number, member-plays, peer-plays}
use Rattle.run_ends.proofs.Events.{asked-as, if_ok-as}
use Rattle.run_ends.proofs.parties.Parties.perform.Goals as goal
use Rattle.run_ends.specs.Parties.{Acts, EndsHeld}

pub returns-in_default-clause-acts : goal.returns-in_default-clause-acts
returns-in_default-clause-acts g c =
    let s = c.args.self.now in
    let past = c.args.trace.now.past in
    let at = c.args.event.now in
    let none : named_in at ≡ None = search rules in
    let leaves = ap (λ (v : EndsHeld). record v { peer = c.peer_performs.new.peer.held }) c.self.view_is in
    if_ok-as c.peer_performs.result
    (λ step. asked-as (λ calls acts. subst (λ (v : EndsHeld). Acts past s c.args.now at calls step v) (sym leaves)
    (peer-plays past s c.requires.in_place at c.requires.asks calls step c.args.now none c.self.inside.peer c.peer_performs.new.peer
    (ap (λ (v : EndsHeld). v.peer) c.self.view_is) (c.self.invariant.1 ∙ ap (λ (v : EndsHeld). v.config.window) c.self.view_is) acts)))
    c.peer_performs.ensures.acts

pub member_performs-requires-clause-named : goal.member_performs-requires-clause-named
member_performs-requires-clause-named g c =
    let members_are = ap (λ (v : EndsHeld). v.members) c.self.view_is in
    let named : named_in c.args.event.now ≡ Some c.in-Some.number = sym c.named_in.ensures ∙ c.in-Some.is in
    named ∙ ap Some (sym (its-number c.args.self.now c.requires.in_place c.in-Some.number c.place_of-place.result c.index_mut.result.now c.place_of-place.ensures
    (rw members_are at c.index_mut.ensures.value) c.in-Some-index_mut.member c.in-Some-index_mut.is))

pub returns-in-Some-index_mut-clause-acts : goal.returns-in-Some-index_mut-clause-acts
returns-in-Some-index_mut-clause-acts g c =
    let s = c.args.self.now in
    let past = c.args.trace.now.past in
    let at = c.args.event.now in
    let place = c.place_of-place.result in
    let now = c.member_performs.new.member in
    let members_are = ap (λ (v : EndsHeld). v.members) c.self.view_is in
    let leaves = ap (λ (v : EndsHeld). record v { members = set v.members place (Some now) }) c.self.view_is in
    if_ok-as c.member_performs.result
    (λ step. asked-as (λ calls acts. subst (λ (v : EndsHeld). Acts past s c.args.now at calls step v) (sym leaves)
    (member-plays past s c.requires.in_place at c.requires.asks calls step c.args.now c.in-Some.number place (sym c.named_in.ensures ∙ c.in-Some.is) c.index_mut.result.now c.place_of-place.ensures
    (rw members_are at c.index_mut.ensures.value) c.in-Some-index_mut.member now c.in-Some-index_mut.is acts)))
    c.member_performs.ensures.acts
