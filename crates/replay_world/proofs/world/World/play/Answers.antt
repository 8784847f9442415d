-- An event with the service of the member that it names, or with the peer's.
use Rattle.std.proofs.Common.{◌≡◌, Some, suc, ap, ◌∙◌, refl, subst}
use Rattle.std.specs.Prelude.{slice_index_or}
use Rattle.std.specs.Vec.{with_item}
use Rattle.replay_world.specs.Worlds.{IsServicePlace}
use Rattle.replay_world.proofs.ServedLaws.{box-at, has-room, lent-member, lent-there, on-err, on-ok, same-vec}
use Rattle.replay_world.proofs.world.World.play.Goals as goal
use Rattle.turn_rules.specs.Ends.{Member, Peer}

pub turn-requires-clause-room : goal.turn-requires-clause-room
turn-requires-clause-room g c = has-room _ _ _ _ c.requires.kept c.requires.few Peer c.args.self.now.peer_service refl

pub turn-requires-in-Some-index_mut-clause-room : goal.turn-requires-in-Some-index_mut-clause-room
turn-requires-in-Some-index_mut-clause-room g c =
    has-room _ _ _ _ c.requires.kept c.requires.few (Member (suc c.in-Some.place)) c.in-Some-index_mut.service
    (box-at c.args.self.now.peer_service c.args.self.now.services.items c.in-Some.place c.index_mut.result.now c.in-Some.ensures.within c.index_mut.ensures.value ∙ c.in-Some-index_mut.is)

pub returns-clause-err : goal.returns-clause-err
returns-clause-err g c =
    let old = c.args.self.now in
    let place = c.in-Some.place in
    let service = c.in-Some-index_mut.service in
    let at : Some service ≡ slice_index_or old.services.items place (Some service) = rw c.in-Some-index_mut.is at c.index_mut.ensures.value in
    on-err c.turn-in-Some-index_mut.result c.turn-in-Some-index_mut.ensures.err c.turn-in-Some-index_mut.ensures.unserved
    (λ ends same.
    let back : _ = ap (λ s. with_item old.services place (Some s)) same ∙ same-vec old.services place (Some service) at in
    λ i. record { ends = ends i; peer_service = old.peer_service; services = back i })

pub returns-clause-lends : goal.returns-clause-lends
returns-clause-lends g c =
    let old = c.args.self.now in
    let place = c.in-Some.place in
    on-ok c.turn-in-Some-index_mut.result c.turn-in-Some-index_mut.ensures.serves
    (λ serves. lent-member old.peer_service old.services.items _ _ _ place c.in-Some-index_mut.service c.turn-in-Some-index_mut.new.service _ _
    (lent-there old.peer_service old.services.items _ place (subst (λ n. IsServicePlace old.services.items n place) c.named_in.ensures c.in-Some.ensures)) c.in-Some.ensures.within
    (box-at old.peer_service old.services.items place c.index_mut.result.now c.in-Some.ensures.within c.index_mut.ensures.value ∙ c.in-Some-index_mut.is) serves)
