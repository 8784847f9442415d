-- What was asked through the reference was asked of the keeper that is lent.
use Rattle.std.proofs.Common.{◌≡◌, refl, sym, ap, subst, ◌∙◌, rules}
use Rattle.run_ends.specs.Asked.{AsksAsSeen}
use Rattle.turn_rules.specs.Local.{calls_of}
use Rattle.replay_world.proofs.AskedLaws.{seen-lent}
use Rattle.replay_world.proofs.GoingLaws.{streams-then, trace-as}
use Rattle.replay_world.specs.Handed.{handed}
use Rattle.replay_world.proofs.play.play_file.Goals as goal

pub returns-clause-streams : goal.returns-clause-streams
returns-clause-streams g c errors now_errors =
    let keeper = g.K.Keeper in
    let old = c.new-gate.result.keeper in
    let new = c.play_run-played.new.keeper.keeper in
    let was : old.now ≡ c.args.keeper.now = search rules in
    let is : new.now ≡ c.keeper-1.given.0 = search rules in
    let run = handed keeper c.args.keeper.now c.keeper-1.given.0 (λ z. (g.dyn-1.0.entry z.vtable).1.gives z.value) c.args.peer_service c.args.services in
    streams-then _ _ _ _ _ _ c.play_run-played.result (c.play_run-played.ensures.streams errors now_errors)
    (λ trace t. trace-as _ run new c.keeper-1.given.0 trace refl (λ s. s)
    (λ a. subst (λ k. AsksAsSeen keeper k (calls_of trace) c.keeper-1.given.0) was (subst (λ k. AsksAsSeen keeper old.now (calls_of trace) k) is
    (seen-lent keeper old new (calls_of trace) a.made a.seen_as a.asked)))
    (ap keeper.book was) (ap keeper.book is) (ap keeper.faults was) (ap keeper.faults is) t)
    (λ trace t. record {
      asked_last = t.asked_last.now;
      same_book = sym (ap keeper.book is) ∙ t.same_book;
      is_trace = trace-as _ run t.asked_last t.asked_last.now trace refl (λ s. s)
          (λ a. subst (λ k. AsksAsSeen keeper k (calls_of trace) t.asked_last.now) was (seen-lent keeper old t.asked_last (calls_of trace) a.made a.seen_as a.asked))
          (ap keeper.book was) refl (ap keeper.faults was) refl t.is_trace;
    })
