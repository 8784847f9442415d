-- A run begins with no turn, and what holds of it follows from the laws of whole runs.
use Rattle.std.proofs.Common.{◌≡◌, [], Err, ap, refl, rules, ◌∙◌}
use Rattle.call_ends.specs.Outside.{streams_told}
use Rattle.call_ends.specs.declared.streaming.Stop.TheVariants as stop
use Rattle.run_ends.specs.Runs.{Run}
use Rattle.run_lines.proofs.BreakLaws.{nothing_stops}
use Rattle.replay_world.proofs.GoingLaws.{Laws, none-holds, streams-led, trace-cut}
use Rattle.replay_world.proofs.ServedLaws.{begun-keeps}
use Rattle.replay_world.specs.Handed.{handed}
use Rattle.replay_world.proofs.play.play_run.Goals as goal

pub returns-in_err-world-clause-streams : goal.returns-in_err-world-clause-streams
returns-in_err-world-clause-streams g c errors now_errors =
    let laws : Laws = record {
      safe = c.runs_are_safe.ensures;
      owned = c.all_is_owned.ensures;
      replaced = c.replaced_by_later_epochs.ensures.calls;
      catch_up = c.all_synchronisations_catch_up.ensures;
      own_turns = c.own_turns_tell_states.ensures;
      below_ends = c.no_number_past_its_end.ensures.uses;
      synchronised = c.synchronisations_leave_the_greater.ensures;
      covers = c.covers_are_caught_up.ensures;
    } in
    let failed : c.from_residual.result ≡ Err stop.Memory = search rules in
    let run = handed g.K.Keeper c.args.keeper.now.keeper c.args.keeper.now.keeper _ c.args.peer_service c.args.services in
    rw failed (nothing_stops _ _ (trace-cut run) (streams_told g.S.Source g.O.Sink c.args.source.now c.args.out.now errors)
    (streams_told g.S.Source g.O.Sink c.args.source.now c.args.out.now now_errors) refl refl
    (trace-cut run [] (none-holds g.K.Keeper _ c.args.peer_service c.args.services laws c.args.keeper.now.keeper c.args.keeper.now.keeper)))

pub play_lines-requires-clause-kept : goal.play_lines-requires-clause-kept
play_lines-requires-clause-kept g c = begun-keeps _ c.args.peer_service _ c.args.services.items _ c.in_ok-world.ensures.peer_service c.in_ok-world.ensures.services _ (ap (λ (run : Run). run.boxes) c.in_ok-world.ensures.ends ∙ c.args.services.ok.0) c.requires.peer c.requires.services

pub returns-clause-streams : goal.returns-clause-streams
returns-clause-streams g c errors now_errors =
    let laws : Laws = record {
      safe = c.runs_are_safe.ensures;
      owned = c.all_is_owned.ensures;
      replaced = c.replaced_by_later_epochs.ensures.calls;
      catch_up = c.all_synchronisations_catch_up.ensures;
      own_turns = c.own_turns_tell_states.ensures;
      below_ends = c.no_number_past_its_end.ensures.uses;
      synchronised = c.synchronisations_leave_the_greater.ensures;
      covers = c.covers_are_caught_up.ensures;
    } in
    streams-led g.K.Keeper _ c.args.peer_service c.args.services laws _ c.requires.peer c.requires.services _ _ _ (ap (λ (run : Run). run.boxes) c.in_ok-world.ensures.ends) c.in_ok-world.ensures.peer_service
    c.in_ok-world.ensures.services c.args.keeper.now.keeper c.play_lines.new.keeper.keeper _ _ c.play_lines.result (c.play_lines.ensures.streams errors now_errors)
