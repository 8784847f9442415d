-- One turn more.
use Rattle.std.proofs.Common.{◌≡◌, List, ◌∷◌, refl, ap, sym, ◌∙◌, subst}
use Rattle.events.specs.declared.turn.Turn.{Turn}
use Rattle.keeper_book.specs.Book.{EntersAllTold}
use Rattle.keeper_book.specs.Told.{AreAnswers, HaveCause}
use Rattle.keeper_book.specs.declared.calls.Call.{Call}
use Rattle.turn_rules.specs.Local.{AreShown}
use Rattle.run_ends.specs.Asked.{AsksAsSeen, newest_calls}
use Rattle.run_ends.specs.Parties.{AreKept, Plays}
use Rattle.run_ends.specs.Runs.{CausedSince, Run, StandsTold}
use Rattle.run_ends.proofs.AskedLaws.{asked-behind}
use Rattle.run_ends.proofs.KeptLaws.{boxes-stay, few, kept}
use Rattle.run_ends.proofs.TurnLaws.{caused-more, spoken-shown, stands-more, told-all}
use Rattle.run_ends.proofs.ends.Ends.turn.Goals as goal

module _ (g : _) (c : goal.After-push g) where
  abbrev turn : Turn
  turn = record { moment = c.args.now; event = c.args.event; calls = c.take_calls-calls.result; step = c.in_ok-step.step }

  abbrev past : List Turn
  past = c.self.inside.trace.past

  more : c.push.new.self.past ≡ turn ∷ past
  more = c.push.ensures ∙ ap (λ (ts : List Turn). turn ∷ ts) c.in_ok-reserve.ensures.past

  abbrev asked_turn : Turn
  asked_turn = record { moment = c.args.now; event = c.args.event; calls = c.in_ok-step.ensures.plays.calls; step = c.in_ok-step.step }

  plays : Plays past c.self.inside.parties c.args.now c.args.event c.in_ok-step.ensures.plays.calls c.in_ok-step.step c.play.new.self
  plays = subst (λ (ts : List Turn). Plays ts c.self.inside.parties c.args.now c.args.event c.in_ok-step.ensures.plays.calls c.in_ok-step.step c.play.new.self) c.in_ok-reserve.ensures.past c.in_ok-step.ensures.plays.follows

  shown : AreShown c.in_ok-step.ensures.plays.calls
  shown = spoken-shown c.args.keeper.now c.in_ok-step.ensures.plays.calls c.play.new.keeper c.in_ok-step.ensures.plays.asked (λ a call b passed. passed.open_answer)

  answers : AreAnswers c.in_ok-step.ensures.plays.calls
  answers = c.in_ok-step.ensures.plays.asked.answers

  calls_are : c.take_calls-calls.result ≡ c.in_ok-step.ensures.plays.calls
  calls_are =
      let p = c.in_ok-step.ensures.plays in
      c.take_calls-calls.ensures.calls
      ∙ told-all p.calls c.args.keeper.now c.play.new.keeper c.requires.told
      (few past asked_turn c.self.inside.parties c.play.new.self c.self.invariant c.requires.fits shown answers plays)
      p.asked.adds

  are_kept : AreKept (turn ∷ past) c.play.new.self
  are_kept =
      subst (λ (cs : List Call). AreKept (record { moment = c.args.now; event = c.args.event; calls = cs; step = c.in_ok-step.step } ∷ past) c.play.new.self) (sym calls_are)
      (kept past asked_turn c.self.inside.parties c.play.new.self c.self.invariant c.requires.fits shown answers plays)

pub invariant_of-self-2 : goal.invariant_of-self-2
invariant_of-self-2 g c = subst (λ (turns : List Turn). AreKept turns c.play.new.self) (sym (more g c)) (are_kept g c)

pub returns-clause-grows : goal.returns-clause-grows
returns-clause-grows g c = record {
  turn = turn g c;
  more = more g c ∙ ap (λ (run : Run). turn g c ∷ run.past) c.self.view_is;
  of_event = refl;
  at_moment = refl;
  boxes = boxes-stay (past g c) (asked_turn g c) c.self.inside.parties c.play.new.self c.self.invariant c.requires.fits (shown g c) (answers g c) (plays g c) ∙ ap (λ (run : Run). run.boxes) c.self.view_is;
}

pub returns-clause-local : goal.returns-clause-local
returns-clause-local g c = (invariant_of-self-2 g c).local

pub returns-clause-stands : goal.returns-clause-stands
returns-clause-stands g c = λ stood.
    let before : StandsTold (past g c) (g.K.Keeper.book c.args.keeper.now.keeper) = subst (λ (run : Run). StandsTold run.past (g.K.Keeper.book c.args.keeper.now.keeper)) (sym c.self.view_is) stood in
    let enters : EntersAllTold (g.K.Keeper.book c.args.keeper.now.keeper) (turn g c).calls (g.K.Keeper.book c.play.new.keeper.keeper) =
    subst (λ (cs : List Call). EntersAllTold (g.K.Keeper.book c.args.keeper.now.keeper) cs (g.K.Keeper.book c.play.new.keeper.keeper)) (sym (calls_are g c)) c.in_ok-step.ensures.plays.asked.enters in
    let after : StandsTold (turn g c ∷ past g c) (g.K.Keeper.book c.play.new.keeper.keeper) = stands-more (turn g c) (past g c) _ _ enters before in
    let there : StandsTold (turn g c ∷ past g c) (g.K.Keeper.book c.take_calls-calls.new.self.keeper) = subst (λ k. StandsTold (turn g c ∷ past g c) (g.K.Keeper.book k)) (sym c.take_calls-calls.ensures.keeper) after in
    subst (λ (turns : List Turn). StandsTold turns (g.K.Keeper.book c.take_calls-calls.new.self.keeper)) (sym (more g c)) there

pub returns-clause-caused : goal.returns-clause-caused
returns-clause-caused g c = λ start caused.
    let before : CausedSince start (g.K.Keeper.faults c.args.keeper.now.keeper) (past g c) = subst (λ (run : Run). CausedSince start (g.K.Keeper.faults c.args.keeper.now.keeper) run.past) (sym c.self.view_is) caused in
    let cause : HaveCause (g.K.Keeper.faults c.args.keeper.now.keeper) (g.K.Keeper.faults c.play.new.keeper.keeper) (turn g c).calls =
    subst (λ (cs : List Call). HaveCause (g.K.Keeper.faults c.args.keeper.now.keeper) (g.K.Keeper.faults c.play.new.keeper.keeper) cs) (sym (calls_are g c)) c.in_ok-step.ensures.plays.asked.cause in
    let after : CausedSince start (g.K.Keeper.faults c.play.new.keeper.keeper) (turn g c ∷ past g c) = caused-more (turn g c) (past g c) start _ _ cause before in
    let there : CausedSince start (g.K.Keeper.faults c.take_calls-calls.new.self.keeper) (turn g c ∷ past g c) = rw c.take_calls-calls.ensures.keeper after in
    subst (λ (turns : List Turn). CausedSince start (g.K.Keeper.faults c.take_calls-calls.new.self.keeper) turns) (sym (more g c)) there

pub returns-clause-asks : goal.returns-clause-asks
returns-clause-asks g c =
    let p = c.in_ok-step.ensures.plays in
    let old = c.args.keeper.now.keeper in
    let now = c.take_calls-calls.new.self.keeper in
    let behind = asked-behind c.args.keeper.now p.calls c.play.new.keeper p.asked.each in
    let played : AsksAsSeen g.K.Keeper old p.calls c.play.new.keeper.keeper = record { made = behind.0; seen_as = behind.1; asked = behind.2 } in
    let taken : AsksAsSeen g.K.Keeper old p.calls now = subst (λ k. AsksAsSeen g.K.Keeper old p.calls k) (sym c.take_calls-calls.ensures.keeper) played in
    let told : AsksAsSeen g.K.Keeper old (turn g c).calls now = subst (λ calls. AsksAsSeen g.K.Keeper old calls now) (sym (calls_are g c)) taken in
    subst (λ turns. AsksAsSeen g.K.Keeper old (newest_calls turns) now) (sym (more g c)) told
