-- A cover that is answered `Replaced` is one of an epoch before the book's.
use Rattle.std.proofs.Common.{◌≡◌, ◌≢◌, ℕ, ◌<◌, ◌≤◌, ◌==◌, not, Bool, true, false, Option, Some, None, MatchOption, List, [], ◌∷◌, length, refl, ap, sym, ◌∙◌, subst, arith}
use Rattle.std.proofs.lemmas.Bool.{eqb-false}
use Rattle.std.proofs.lemmas.List.{length-map}
use Rattle.std.proofs.lemmas.Option.{same_Some}
use Rattle.events.specs.declared.turn.Turn.{Turn}
use Rattle.ha_base.specs.declared.counter_names.Kind.{Kind}
use Rattle.keeper_book.specs.Book.{Answers, Book, Entry, cover_refusal, entry_of, unless_refused, when}
use Rattle.keeper_book.specs.Counters.{counter_named, five_at}
use Rattle.keeper_book.specs.declared.calls.Call.{Call}
use Rattle.keeper_book.specs.declared.calls.KeeperAnswer.{KeeperAnswer}
use Rattle.keeper_book.specs.declared.calls.KeeperAnswer.TheVariants as answer
use Rattle.keeper_book.specs.declared.calls.KeeperAsk.{KeeperAsk}
use Rattle.keeper_book.specs.declared.calls.KeeperAsk.TheVariants as ask
use Rattle.keeper_book.specs.declared.counters.Counter.{Counter}
use Rattle.keeper_book.specs.declared.counters.Five.{Five}
use Rattle.keeper_book.specs.declared.faults.KeeperFault.{KeeperFault}
use Rattle.keeper_book.specs.declared.faults.KeeperFault.TheVariants as fault
use Rattle.turn_laws.proofs.All.{lawful-run}
use Rattle.turn_laws.proofs.Called.{HoldOfCalls, IfCall, calls-hold}
use Rattle.turn_laws.proofs.Safety.{owned-lawful}
use Rattle.turn_laws.specs.Acts.{Act, Calls, Ends, Leaps, MayAsk, MayCover, MayDo, Move, Opens, Seals, Starts, Uses, begun_at, column_at, holding_at}
use Rattle.turn_laws.specs.Holdings.{Actor, Holding}
use Rattle.turn_laws.specs.Owned.{Lawful, Owned, WritesBook}
use Rattle.turn_laws.specs.Places.{Ours, column_ours}
use Rattle.turn_laws.specs.Replaced.{AreReplacedLater, IsReplacedLater}
use Rattle.turn_laws.specs.Turns.{acts_of}
use Rattle.turn_rules.specs.Local.{Explained, Stands}

record ShowsLater (x : Option Entry) (epoch later : ℕ) : Type 0 where
  pub entry : Entry
  pub found : x ≡ Some entry
  pub later_is : later ≡ length entry.bases
  pub other : epoch ≢ length entry.bases

shows-later : (x : Option Entry) (named : Option Counter) (epoch later : ℕ) → cover_refusal x named epoch ≡ Some (fault.Replaced later) → ShowsLater x epoch later
shows-later None named epoch later is = absurd (cc)
shows-later (Some e) None epoch later is = absurd (cc)
shows-later (Some e) (Some c) epoch later is = by_closed e.closed is
  where
    by_epoch : (b : Bool) → (epoch == length e.bases) ≡ b → when (not b) (fault.Replaced (length e.bases)) None ≡ Some (fault.Replaced later) → ShowsLater (Some e) epoch later
    by_epoch true t is = absurd (cc)
    by_epoch false t is = record { entry = e; found = refl; later_is = cc; other = eqb-false epoch (length e.bases) t }

    by_closed : (b : Bool) → when b fault.Closed (when (not (epoch == length e.bases)) (fault.Replaced (length e.bases)) None) ≡ Some (fault.Replaced later) → ShowsLater (Some e) epoch later
    by_closed true is = absurd (cc)
    by_closed false is = by_epoch (epoch == length e.bases) refl is

shows-refused : (r : Option KeeperFault) (why : KeeperFault) → answer.Refused why ≡ unless_refused r answer.Refused answer.Done → r ≡ Some why
shows-refused None why is = absurd (cc)
shows-refused (Some other) why is = cc

module _ (acts : List Act) (w : Actor) (old new : Book) (owned : Owned acts old) where
  -- what is held is of an epoch before the one that the answer names
  pub cover-later : (spir : ℕ) (kind : Kind) (child epoch upto later : ℕ) (c : Counter) → MayCover (holding_at (Ours spir c) acts w) epoch upto → Answers old (ask.Cover spir kind child epoch upto) (answer.Refused (fault.Replaced later)) new → epoch < later
  cover-later spir kind child epoch upto later c may answers =
      let shows : ShowsLater (entry_of spir old.entries) epoch later =
      shows-later (entry_of spir old.entries) (counter_named kind child) epoch later (shows-refused (cover_refusal (entry_of spir old.entries) (counter_named kind child) epoch) (fault.Replaced later) answers.0) in
      let begun : may.holding.epoch ≤ length (column_at (Ours spir c) acts old).bases = ((owned.numbers (Ours spir c)).holdings w may.holding may.holds).begun in
      let count : length (column_at (Ours spir c) acts old).bases ≡ length shows.entry.bases = ap (λ x. length (column_ours c (begun_at (Ours spir c) acts) x).bases) shows.found ∙ length-map shows.entry.bases (λ (five : Five). five_at five c) in
      go begun count may.in_epoch shows.later_is shows.other
    where
      go : {held bases entries : ℕ} → held ≤ bases → bases ≡ entries → held ≡ epoch → later ≡ entries → epoch ≢ entries → epoch < later
      go begun count same is other = omega (arith, other)

  held-later : (spir : ℕ) (kind : Kind) (child epoch upto later : ℕ) (named : Option Counter) → MatchOption named ⊥ (λ c. MayCover (holding_at (Ours spir c) acts w) epoch upto) → Answers old (ask.Cover spir kind child epoch upto) (answer.Refused (fault.Replaced later)) new → epoch < later
  held-later spir kind child epoch upto later None may answers = absurd may
  held-later spir kind child epoch upto later (Some c) may answers = cover-later spir kind child epoch upto later c may answers

  -- so it is at each call
  answered-later : (asked : KeeperAsk) (answered : KeeperAnswer) → MayAsk acts w asked → Answers old asked answered new → IsReplacedLater asked answered
  answered-later (ask.Cover spir kind child epoch upto) (answer.Refused (fault.Replaced later)) may answers = held-later spir kind child epoch upto later (counter_named kind child) may answers
  answered-later asked answered may answers = tt

-- the holding in whose epoch a cover was asked
pub holding-later : (acts : List Act) (w : Actor) (old new : Book) (spir : ℕ) (kind : Kind) (child epoch upto later : ℕ) → Owned acts old → MayAsk acts w (ask.Cover spir kind child epoch upto)
    → Answers old (ask.Cover spir kind child epoch upto) (answer.Refused (fault.Replaced later)) new
    → (c : Counter) (h : Holding) → counter_named kind child ≡ Some c → holding_at (Ours spir c) acts w ≡ Some h → h.epoch < later
holding-later acts w old new spir kind child epoch upto later owned may answers c h named holds =
    let here : MayCover (holding_at (Ours spir c) acts w) epoch upto = subst (λ o. MatchOption o ⊥ (λ d. MayCover (holding_at (Ours spir d) acts w) epoch upto)) named may in
    let same : here.holding ≡ h = same_Some here.holding h (sym here.holds ∙ holds) in
    subst (λ n. n < later) (sym here.in_epoch ∙ ap (λ (x : Holding). x.epoch) same) (cover-later acts w old new owned spir kind child epoch upto later c here answers)

abbrev IsLater : Call → Type 0
IsLater call = IsReplacedLater call.asked call.answer

lawful-later : (acts : List Act) (book : Book) → Lawful acts book → HoldOfCalls IsLater acts
lawful-later [] book lawful = tt
lawful-later (act ∷ acts) book lawful = (by_move act.move lawful.2 lawful.3, lawful-later acts lawful.0 lawful.1)
  where
    by_move : (move : Move) → MayDo acts act.by move → WritesBook lawful.0 move book → IfCall IsLater move
    by_move (Calls call) may writes = answered-later acts act.by lawful.0 book (owned-lawful acts lawful.0 lawful.1) call.asked call.answer may writes
    by_move (Uses q n) may writes = tt
    by_move (Seals key) may writes = tt
    by_move (Leaps q n) may writes = tt
    by_move (Opens ticket made) may writes = tt
    by_move (Starts sa) may writes = tt
    by_move Ends may writes = tt

pub calls-later : (boxes : ℕ) (past : List Turn) (book : Book) → Explained boxes past → Stands past book → AreReplacedLater past
calls-later boxes past book local stands = calls-hold IsLater past (lawful-later (acts_of past) book (lawful-run boxes past book local stands))
