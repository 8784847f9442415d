-- What holds before and after a turn by the laws of whole runs.
use Rattle.std.proofs.Common.{ap, subst}
use Rattle.run_ends.specs.Runs.{Run}
use Rattle.turn_rules.proofs.StateLaws.{local-explained}
use Rattle.turn_rules.specs.Local.{Local}
use Rattle.replay_world.proofs.OwnedLaws.{caught_told, local_before, owned_told, replaced_told, safe_told}
use Rattle.replay_world.proofs.world.World.turn.Goals as goal
use Rattle.replay_world.specs.Worlds.{boxes_of, run_of}
use Rattle.replay_world.proofs.Joins.{run-joins}
use Rattle.replay_world.proofs.ServedLaws.{keeps-on, keeps-same, left-of, serve-newest}

pub returns-clause-owned_before : goal.returns-clause-owned_before
returns-clause-owned_before g c =
    let t = c.in_ok-play.ensures in
    let old = c.args.self.now.ends in
    owned_told c.all_is_owned.ensures old.boxes old.past _ (local_before old c.play.new.self.ends c.args.now c.args.event t.grows t.local)

pub returns-in_err-play-clause-owned_before : goal.returns-in_err-play-clause-owned_before
returns-in_err-play-clause-owned_before g c =
    let t = c.in_err-play.ensures in
    let old = c.args.self.now.ends in
    owned_told c.all_is_owned.ensures old.boxes old.past _ (subst (λ (run : Run). Local run.boxes run.past) (ap run_of t.err) t.local)

pub returns-clause-owned : goal.returns-clause-owned
returns-clause-owned g c stands =
    let t = c.in_ok-play.ensures in
    let new = c.play.new.self.ends in
    owned_told c.all_is_owned.ensures new.boxes new.past _ t.local (t.stands stands)

pub returns-clause-safe : goal.returns-clause-safe
returns-clause-safe g c stands =
    let t = c.in_ok-play.ensures in
    let new = c.play.new.self.ends in
    safe_told c.runs_are_safe.ensures new.boxes new.past _ t.local (t.stands stands)

pub returns-clause-caused : goal.returns-clause-caused
returns-clause-caused g c start caused = c.in_ok-play.ensures.caused start caused

pub returns-clause-own_turns : goal.returns-clause-own_turns
returns-clause-own_turns g c = c.own_turns_tell_states.ensures c.play.new.self.ends.boxes c.play.new.self.ends.past (local-explained c.play.new.self.ends.boxes c.play.new.self.ends.past c.in_ok-play.ensures.local)

pub returns-in_err-play-clause-own_turns : goal.returns-in_err-play-clause-own_turns
returns-in_err-play-clause-own_turns g c = c.own_turns_tell_states.ensures c.play.new.self.ends.boxes c.play.new.self.ends.past (local-explained c.play.new.self.ends.boxes c.play.new.self.ends.past c.in_err-play.ensures.local)

pub returns-clause-below_ends : goal.returns-clause-below_ends
returns-clause-below_ends g c = c.no_number_past_its_end.ensures.uses c.play.new.self.ends.boxes c.play.new.self.ends.past (local-explained c.play.new.self.ends.boxes c.play.new.self.ends.past c.in_ok-play.ensures.local)

pub returns-in_err-play-clause-below_ends : goal.returns-in_err-play-clause-below_ends
returns-in_err-play-clause-below_ends g c = c.no_number_past_its_end.ensures.uses c.play.new.self.ends.boxes c.play.new.self.ends.past (local-explained c.play.new.self.ends.boxes c.play.new.self.ends.past c.in_err-play.ensures.local)

pub returns-clause-synchronised : goal.returns-clause-synchronised
returns-clause-synchronised g c = c.synchronisations_leave_the_greater.ensures c.play.new.self.ends.boxes c.play.new.self.ends.past (local-explained c.play.new.self.ends.boxes c.play.new.self.ends.past c.in_ok-play.ensures.local)

pub returns-in_err-play-clause-synchronised : goal.returns-in_err-play-clause-synchronised
returns-in_err-play-clause-synchronised g c = c.synchronisations_leave_the_greater.ensures c.play.new.self.ends.boxes c.play.new.self.ends.past (local-explained c.play.new.self.ends.boxes c.play.new.self.ends.past c.in_err-play.ensures.local)

pub returns-clause-covers : goal.returns-clause-covers
returns-clause-covers g c = c.covers_are_caught_up.ensures c.play.new.self.ends.boxes c.play.new.self.ends.past (local-explained c.play.new.self.ends.boxes c.play.new.self.ends.past c.in_ok-play.ensures.local)

pub returns-in_err-play-clause-covers : goal.returns-in_err-play-clause-covers
returns-in_err-play-clause-covers g c = c.covers_are_caught_up.ensures c.play.new.self.ends.boxes c.play.new.self.ends.past (local-explained c.play.new.self.ends.boxes c.play.new.self.ends.past c.in_err-play.ensures.local)

pub returns-clause-catch_up : goal.returns-clause-catch_up
returns-clause-catch_up g c stands =
    let t = c.in_ok-play.ensures in
    let new = c.play.new.self.ends in
    caught_told c.all_synchronisations_catch_up.ensures new.boxes new.past _ t.local (t.stands stands)

pub returns-clause-replaced_later : goal.returns-clause-replaced_later
returns-clause-replaced_later g c stands =
    let t = c.in_ok-play.ensures in
    let new = c.play.new.self.ends in
    replaced_told c.replaced_by_later_epochs.ensures.calls new.boxes new.past _ t.local (t.stands stands)

pub returns-in_err-play-clause-kept : goal.returns-in_err-play-clause-kept
returns-in_err-play-clause-kept g c = keeps-same _ (λ world. world.ends.boxes) (λ world. world.ends.past) boxes_of c.args.self.now c.play.new.self c.in_err-play.ensures.err c.requires.kept

pub returns-clause-serve : goal.returns-clause-serve
returns-clause-serve g c =
    let old = c.args.self.now in
    let mid = c.play.new.self in
    let t = c.in_ok-play.ensures in
    serve-newest _ _ _ old.ends mid.ends c.args.now c.args.event t.grows t.local (boxes_of old) (boxes_of mid) _ c.requires.kept t.lends
    (left-of mid.peer_service mid.services.items c.drop_service.new.services.items mid.ends.past c.last_ended-ended.result c.last_ended-ended.ensures c.drop_service.ensures)
    (run-joins old.ends mid.ends c.args.now c.args.event t.grows t.local c.requires.fits c.requires.kept.joined)

pub returns-clause-kept : goal.returns-clause-kept
returns-clause-kept g c =
    let old = c.args.self.now in
    let mid = c.play.new.self in
    let t = c.in_ok-play.ensures in
    keeps-on _ _ _ old.ends mid.ends c.args.now c.args.event t.grows t.local (boxes_of old) (boxes_of mid) _ c.requires.kept t.lends
    (left-of mid.peer_service mid.services.items c.drop_service.new.services.items mid.ends.past c.last_ended-ended.result c.last_ended-ended.ensures c.drop_service.ensures)
    (run-joins old.ends mid.ends c.args.now c.args.event t.grows t.local c.requires.fits c.requires.kept.joined)
