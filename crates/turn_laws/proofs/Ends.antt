-- No number reaches the end of its counter, whatever the keeper's book is.
use Rattle.std.proofs.Common.{◌≡◌, ℕ, length, ◌<◌, ◌≤◌, ◌==◌, ◌&&◌, Bool, true, false, Option, Some, None, MatchOption, List, [], ◌∷◌, ◌++◌, map, refl, ap, sym, ◌∙◌, subst, arith, if◌then◌else◌}
use Rattle.std.proofs.lemmas.Bool.{and_parts, eqb-true}
use Rattle.std.proofs.lemmas.Option.{same_Some}
use Rattle.std.specs.List.{AllByRecursion, filter_map}
use Rattle.std.specs.Option.{option_map}
use Rattle.events.specs.declared.seals.Seal.{Seal}
use Rattle.events.specs.declared.turn.Turn.{Turn}
use Rattle.ha_base.specs.declared.counter_names.CounterName.{CounterName}
use Rattle.keeper_book.specs.Book.{Book, settled_highs}
use Rattle.keeper_book.specs.CounterEnds.{end_of}
use Rattle.keeper_book.specs.Counters.{AreWithinEnds, counter_named, five_at}
use Rattle.keeper_book.specs.Told.{AreAnswers, IsAnswerOf, seen}
use Rattle.keeper_book.specs.declared.calls.Call.{Call}
use Rattle.keeper_book.specs.declared.calls.KeeperAnswer.{KeeperAnswer}
use Rattle.keeper_book.specs.declared.calls.KeeperAnswer.TheVariants as answer
use Rattle.keeper_book.specs.declared.calls.KeeperAsk.{KeeperAsk}
use Rattle.keeper_book.specs.declared.calls.KeeperAsk.TheVariants as ask
use Rattle.keeper_book.specs.declared.counters.Counter.{Counter}
use Rattle.keeper_book.specs.declared.counters.Counter.TheVariants as counter
use Rattle.keeper_book.specs.declared.faults.KeeperFault.TheVariants as fault
use Rattle.keeper_book.specs.declared.pools.Pool.{Pool}
use Rattle.keeper_book.specs.declared.pools.Pool.TheVariants as pools
use Rattle.keeper_book.specs.declared.records.Record.{Record}
use Rattle.keeper_book.specs.declared.records.Taken.{Taken}
use Rattle.turn_laws.proofs.Acting.{MayDoMoves, moves_onto}
use Rattle.turn_laws.proofs.All.{owned-run, turn-well}
use Rattle.turn_laws.proofs.Holdings.{is_actor-true}
use Rattle.turn_laws.proofs.Lists.{all-append, all-both}
use Rattle.turn_rules.proofs.SlotTies.{all-weaker}
use Rattle.turn_laws.proofs.Moves.{IsUseOrEnd, are-uses}
use Rattle.turn_laws.proofs.Numbers.{counters-hold}
use Rattle.turn_laws.proofs.Begun.{begun-is, failed_effect, is_place-true, named-counter, opened-is}
use Rattle.turn_laws.specs.Acts.{Act, Calls, Ends, HoldsFor, Leaps, MayAsk, MayCover, MayDo, Move, Opens, Seals, Starts, Uses, act_by, begun_at, begun_named, begun_open, begun_started, effect_begun, effect_of, effect_of_call, effect_of_open, effect_of_use, effect_ours, end_at, half_begun, holding_at, lot_begun, numbers_at, uses_at, lot_of, effect_settled, effect_of_ours}
use Rattle.turn_laws.specs.Holdings.{Passes, Actor, Begins, Draws, Effect, Half, Holding, Jumps, Nothing, Rises, Use, drawn, holding_after, is_actor, jumped_to, raised_to, use_end, uses_after}
use Rattle.turn_laws.specs.Places.{Pooled, is_pool, Ours, Place, Theirs, is_place, place_of}
use Rattle.turn_laws.specs.Turns.{actor_of, acts_of, key_iv, moves_of, uses_of}
use Rattle.turn_rules.specs.Held.{is_named, number_of}
use Rattle.turn_rules.specs.Local.{Explained, Stands}

-- what ends hold does not pass the counter's end, and what was used lies below it
abbrev HighsWithin : (Actor → Option Holding) → Type 0
HighsWithin held = (w : Actor) (h : Holding) → held w ≡ Some h → h.high ≤ h.end

abbrev IsBelowEnd : Use → Type 0
IsBelowEnd u = u.number < u.end

-- what an effect needs for that
abbrev KeepsEnds : Effect → (Actor → Option Holding) → Type 0
KeepsEnds Nothing held = Unit {0}
KeepsEnds (Begins w h) held = h.high ≤ h.end
KeepsEnds (Rises w upto) held = (h : Holding) → held w ≡ Some h → upto ≤ h.end
KeepsEnds (Jumps w n) held = Unit {0}
KeepsEnds (Passes w v) held = Unit {0}
KeepsEnds (Draws w n) held = (h : Holding) × (held w ≡ Some h) × (n < h.high)

highs-after : (held : Actor → Option Holding) (e : Effect) → HighsWithin held → KeepsEnds e held → HighsWithin (holding_after e held)
highs-after held Nothing within keeps v g is = within v g is
highs-after held (Begins w h) within keeps v g is = by_test (is_actor w v) is
  where
    by_test : (b : Bool) → (if b then Some h else held v) ≡ Some g → g.high ≤ g.end
    by_test true is = subst (λ (x : Holding). x.high ≤ x.end) (same_Some h g is) keeps
    by_test false is = within v g is
highs-after held (Rises w upto) within keeps v g is = by_test (is_actor w v) refl is
  where
    raised : (x : Option Holding) → held v ≡ x → held w ≡ held v → option_map (raised_to upto) x ≡ Some g → g.high ≤ g.end
    raised None e same is = absurd (cc)
    raised (Some h) e same is =
        let a : h.high ≤ h.end = within v h e in
        let b : upto ≤ h.end = keeps h (same ∙ e) in
        subst (λ (x : Holding). x.high ≤ x.end) (same_Some (raised_to upto h) g is) (omega arith)

    by_test : (b : Bool) → is_actor w v ≡ b → (if b then option_map (raised_to upto) (held v) else held v) ≡ Some g → g.high ≤ g.end
    by_test true t is = raised (held v) refl (ap held (is_actor-true w v t)) is
    by_test false t is = within v g is
highs-after held (Jumps w n) within keeps v g is = by_test (is_actor w v) is
  where
    jumped : (x : Option Holding) → held v ≡ x → option_map (jumped_to n) x ≡ Some g → g.high ≤ g.end
    jumped None e is = absurd (cc)
    jumped (Some h) e is = subst (λ (x : Holding). x.high ≤ x.end) (same_Some (jumped_to n h) g is) (within v h e)

    by_test : (b : Bool) → (if b then option_map (jumped_to n) (held v) else held v) ≡ Some g → g.high ≤ g.end
    by_test true is = jumped (held v) refl is
    by_test false is = within v g is
highs-after held (Passes w u) within keeps v g is = by_test (is_actor u v) (is_actor w v) is
  where
    by_test : (b c : Bool) → (if b then held w else (if c then None else held v)) ≡ Some g → g.high ≤ g.end
    by_test true c is = within w g is
    by_test false true is = absurd (cc)
    by_test false false is = within v g is
highs-after held (Draws w n) within keeps v g is = by_test (is_actor w v) is
  where
    used : (x : Option Holding) → held v ≡ x → option_map (drawn n) x ≡ Some g → g.high ≤ g.end
    used None e is = absurd (cc)
    used (Some h) e is = subst (λ (x : Holding). x.high ≤ x.end) (same_Some (drawn n h) g is) (within v h e)

    by_test : (b : Bool) → (if b then option_map (drawn n) (held v) else held v) ≡ Some g → g.high ≤ g.end
    by_test true is = used (held v) refl is
    by_test false is = within v g is

below-after : (held : Actor → Option Holding) (us : List Use) (e : Effect) → HighsWithin held → KeepsEnds e held → AllByRecursion IsBelowEnd us → AllByRecursion IsBelowEnd (uses_after e held us)
below-after held us (Draws w n) within keeps all =
    let h : Holding = keeps.0 in
    let a : n < h.high = keeps.2 in
    let b : h.high ≤ h.end = within w h keeps.1 in
    (subst (λ x. n < use_end x) (sym keeps.1) (let c : n < h.end = omega arith in c), all)
below-after held us e within keeps all = all

-- a call is answered as such a call may be
abbrev IsAnswered : Move → Type 0
IsAnswered (Calls call) = IsAnswerOf call.asked call.answer
IsAnswered move = Unit {0}

bases-within : (taken : Taken) (c : Counter) → AreWithinEnds taken.bases → five_at taken.bases c ≤ end_of taken.sa c
bases-within taken counter.EspOut within = within.esp_out
bases-within taken counter.EspIn within = within.esp_in
bases-within taken counter.Iv within = within.iv
bases-within taken counter.Ask within = within.ask
bases-within taken counter.Answer within = within.answer

within-named : (name : CounterName) (sa : Record) (h : Holding) → begun_named name sa ≡ Some h → h.high ≤ h.end
within-named name sa h is = subst (λ (x : Holding). x.high ≤ x.end) (sym (begun-is name sa h is).is) (omega arith)

half-within : half_begun.high ≤ half_begun.end
half-within = omega arith

-- where an association that is settled ends
settled-within : (sa : Record) (c : Counter) → five_at (settled_highs sa.starts) c ≤ end_of sa c
settled-within sa counter.EspOut = sa.starts_within.esp_out
settled-within sa counter.EspIn = sa.starts_within.esp_in
settled-within sa counter.Iv = let a : sa.starts.iv ≤ end_of sa counter.Iv = sa.starts_within.iv in omega arith
settled-within sa counter.Ask = sa.starts_within.ask
settled-within sa counter.Answer = let a : sa.starts.answer ≤ end_of sa counter.Answer = sa.starts_within.answer in omega arith

-- a lot ends where its pool does, or before
within-lot : (q : Pool) (before : ℕ) (asked : KeeperAsk) (answered : KeeperAnswer) → IsAnswerOf asked answered → (h : Holding) → lot_of q before asked answered ≡ Some h → h.high ≤ h.end
within-lot q before (ask.Lease pool count) (answer.First first) is h lot = by_test (is_pool pool q) lot
  where
    by_test : (b : Bool) → (if b then Some (lot_begun before pool first count) else None) ≡ Some h → h.high ≤ h.end
    by_test true lot = subst (λ (x : Holding). x.high ≤ x.end) (same_Some (lot_begun before pool first count) h lot) is.ends
    by_test false lot = absurd (cc)
within-lot q before asked answered is h lot = absurd (cc)

module _ (acts : List Act) (w : Actor) where
  -- what begins does not pass the end
  ends-begun : (p : Place) (v : Actor) (x : Option Holding) → ((h : Holding) → x ≡ Some h → h.high ≤ h.end) → KeepsEnds (effect_begun v x) (holding_at p acts)
  ends-begun p v None within = tt
  ends-begun p v (Some h) within = within h refl

  ends-answered : (p : Place) (asked : KeeperAsk) (answered : KeeperAnswer) → MayAsk acts w asked → IsAnswerOf asked answered → KeepsEnds (effect_of_call p (begun_at p acts) w asked answered) (holding_at p acts)
  ends-answered (Ours spir c) (ask.TakeOver asked member) (answer.Taken taken) may is = by_test (asked == spir)
    where
      by_test : (b : Bool) → KeepsEnds (effect_ours w c (if b then Some taken else None) None) (holding_at (Ours spir c) acts)
      by_test true = bases-within taken c is.within
      by_test false = tt
  ends-answered (Ours spir c) (ask.Cover asked kind child epoch upto) answer.Done may is = by_test ((asked == spir) && is_named c (counter_named kind child)) refl
    where
      covers : ((asked == spir) && is_named c (counter_named kind child)) ≡ true → (h : Holding) → holding_at (Ours spir c) acts w ≡ Some h → upto ≤ h.end
      covers t h holds =
          let parts = and_parts (asked == spir) (is_named c (counter_named kind child)) t in
          let cover : MayCover (holding_at (Ours spir c) acts w) epoch upto =
          subst (λ n. MayCover (holding_at (Ours n c) acts w) epoch upto) (eqb-true asked spir parts.0)
          (subst (λ o. MatchOption o ⊥ (λ d. MayCover (holding_at (Ours asked d) acts w) epoch upto)) (named-counter c (counter_named kind child) parts.1) may) in
          subst (λ (x : Holding). upto ≤ x.end) (same_Some cover.holding h (sym cover.holds ∙ holds)) cover.within_end

      by_test : (b : Bool) → ((asked == spir) && is_named c (counter_named kind child)) ≡ b → KeepsEnds (effect_ours w c None (if b then Some upto else None)) (holding_at (Ours spir c) acts)
      by_test true t = covers t
      by_test false t = tt
  ends-answered (Ours spir c) (ask.Settle ticket asked sa member) answer.Done may is = by_test (sa.spir == spir)
    where
      settles : (d : Counter) → KeepsEnds (effect_settled w d sa) (holding_at (Ours spir c) acts)
      settles counter.Iv = tt
      settles counter.EspOut = settled-within sa counter.EspOut
      settles counter.EspIn = settled-within sa counter.EspIn
      settles counter.Ask = settled-within sa counter.Ask
      settles counter.Answer = settled-within sa counter.Answer

      by_test : (b : Bool) → KeepsEnds (effect_of_ours w c (if b then Some sa else None) None None) (holding_at (Ours spir c) acts)
      by_test true = settles c
      by_test false = tt
  ends-answered (Pooled q) asked answered may is = ends-begun (Pooled q) w (lot_of q (length (begun_at (Pooled q) acts).bases) asked answered) (within-lot q (length (begun_at (Pooled q) acts).bases) asked answered is)
  ends-answered (Theirs name) (ask.Enter sa) answer.Done may is = ends-begun (Theirs name) w (begun_named name sa) (within-named name sa)
  ends-answered p asked answered may is = tt

  ends-call : (p : Place) (call : Call) → MayAsk acts w call.asked → IsAnswerOf call.asked call.answer → KeepsEnds (effect_of_call p (begun_at p acts) w call.asked (seen call)) (holding_at p acts)
  ends-call p call may is = by_test call.hidden refl
    where
      by_test : (b : Bool) → call.hidden ≡ b → KeepsEnds (effect_of_call p (begun_at p acts) w call.asked (seen call)) (holding_at p acts)
      by_test true t = rw t (subst (λ e. KeepsEnds e (holding_at p acts)) (failed_effect w p (begun_at p acts) call.asked fault.Failed) tt)
      by_test false t = rw t (ends-answered p call.asked call.answer may is)

  ends-use : (p q : Place) (n : ℕ) → HoldsFor (holding_at q acts w) n → KeepsEnds (effect_of_use p q w n) (holding_at p acts)
  ends-use p q n may = by_test (is_place q p) refl
    where
      by_test : (b : Bool) → is_place q p ≡ b → KeepsEnds (if b then Draws w n else Nothing) (holding_at p acts)
      by_test true t =
          let here : HoldsFor (holding_at p acts w) n = subst (λ x. HoldsFor (holding_at x acts w) n) (is_place-true q p t) may in
          (here.holding, here.holds, here.may.below_high)
      by_test false t = tt

  ends-leap : (p q : Place) (n : ℕ) → KeepsEnds (if is_place q p then Jumps w n else Nothing) (holding_at p acts)
  ends-leap p q n = by_test (is_place q p)
    where
      by_test : (b : Bool) → KeepsEnds (if b then Jumps w n else Nothing) (holding_at p acts)
      by_test true = tt
      by_test false = tt

  within-started : (p : Place) (sa : Record) (h : Holding) → begun_started p sa ≡ Some h → h.high ≤ h.end
  within-started (Ours spir c) sa h is = absurd (cc)
  within-started (Pooled q) sa h is = absurd (cc)
  within-started (Theirs name) sa h is = within-named name sa h is

  ends-open : (p : Place) (drawn : ℕ) → HoldsFor (holding_at (Pooled pools.Nonce) acts w) drawn → KeepsEnds (effect_of_open p w drawn) (holding_at p acts)
  ends-open (Pooled q) drawn may = ends-use (Pooled q) (Pooled pools.Nonce) drawn may
  ends-open (Theirs name) drawn may = tt
  ends-open (Ours spir c) drawn may = ends-begun (Ours spir c) (Half drawn) (begun_open (Ours spir c) drawn) (λ h is. subst (λ (x : Holding). x.high ≤ x.end) (sym (opened-is (Ours spir c) drawn h is).is) half-within)

  ends-move : (p : Place) (move : Move) → MayDo acts w move → IsAnswered move → KeepsEnds (effect_of p (begun_at p acts) w move) (holding_at p acts)
  ends-move p (Calls call) may is = ends-call p call may is
  ends-move p (Uses q n) may is = ends-use p q n may
  ends-move p (Seals key) may is = ends-use p (place_of key.name) key.iv may
  ends-move p (Leaps q n) may is = ends-leap p q n
  ends-move p (Opens ticket made) may is = ends-open p made.spir may
  ends-move p (Starts sa) may is = ends-begun p w (begun_started p sa) (within-started p sa)
  ends-move p Ends may is = tt

-- so it is after these acts
record WithinEnds (p : Place) (acts : List Act) : Type 0 where
  pub highs : HighsWithin (holding_at p acts)
  pub uses : AllByRecursion IsBelowEnd (uses_at p acts)

moves-within : (p : Place) (w : Actor) (moves : List Move) (acts : List Act) → MayDoMoves acts w moves → AllByRecursion IsAnswered moves → WithinEnds p acts → WithinEnds p (moves_onto w moves acts)
moves-within p w [] acts may answered within = within
moves-within p w (move ∷ moves) acts may answered within =
    let keeps : KeepsEnds (effect_of p (begun_at p acts) w move) (holding_at p acts) = ends-move acts w p move may.0 answered.0 in
    moves-within p w moves (act_by w move ∷ acts) may.1 answered.1 (record {
      highs = highs-after (holding_at p acts) (effect_of p (begun_at p acts) w move) within.highs keeps;
      uses = below-after (holding_at p acts) (uses_at p acts) (effect_of p (begun_at p acts) w move) within.highs keeps within.uses;
    })

-- the calls of a turn are answered so
calls-answered : (calls : List Call) (rest : List Move) → AreAnswers calls → AllByRecursion IsAnswered rest → AllByRecursion IsAnswered (map Calls calls ++ rest)
calls-answered [] rest answers all = all
calls-answered (call ∷ calls) rest answers all = (answers.0, calls-answered calls rest answers.1 all)

use-answered : (move : Move) → IsUseOrEnd move → IsAnswered move
use-answered (Calls call) is = absurd is
use-answered (Uses place n) is = tt
use-answered (Seals key) is = tt
use-answered (Leaps place n) is = absurd is
use-answered (Opens ticket made) is = absurd is
use-answered (Starts sa) is = absurd is
use-answered Ends is = tt

seals-answered : (seals : List Seal) → AllByRecursion IsAnswered (map (λ seal. Seals (key_iv seal)) seals)
seals-answered [] = tt
seals-answered (seal ∷ seals) = (tt, seals-answered seals)

within-run : (boxes : ℕ) (past : List Turn) → Explained boxes past → (p : Place) → WithinEnds p (acts_of past)
within-run boxes [] local p = record { highs = λ w h is. absurd (none p w h is); uses = no_use p }
  where
    none : (p : Place) (w : Actor) (h : Holding) → holding_at p [] w ≡ Some h → ⊥
    none p w h is = absurd (cc)

    no_use : (p : Place) → AllByRecursion IsBelowEnd (uses_at p [])
    no_use p = tt
within-run boxes (turn ∷ past) local p = moves-within p (actor_of turn) (moves_of turn) (acts_of past)
    (turn-well boxes past turn local.0 local.1)
    (calls-answered turn.calls (uses_of turn.event turn.step.verdict turn.step.seals ++ map (λ seal. Seals (key_iv seal)) turn.step.seals) local.0.answers
    (all-append IsAnswered (uses_of turn.event turn.step.verdict turn.step.seals) (map (λ seal. Seals (key_iv seal)) turn.step.seals)
    (all-weaker (uses_of turn.event turn.step.verdict turn.step.seals) use-answered (are-uses turn.event turn.step.verdict turn.step.seals)) (seals-answered turn.step.seals)))
    (within-run boxes past local.1 p)

-- no number reaches its counter's end, as the record gives it under which the number was used
pub uses-end : (boxes : ℕ) (past : List Turn) → Explained boxes past → (p : Place) → AllByRecursion IsBelowEnd (uses_at p (acts_of past))
uses-end boxes past local p = (within-run boxes past local p).uses

-- and an honest book gives the same end
numbers-below : (end : ℕ) (uses : List Use) → AllByRecursion (λ u. u.number < end) uses → AllByRecursion (λ n. n < end) (map (λ u. u.number) uses)
numbers-below end [] all = tt
numbers-below end (u ∷ us) all = (all.0, numbers-below end us all.1)

pub numbers-end : (boxes : ℕ) (past : List Turn) (book : Book) → Explained boxes past → Stands past book → (p : Place) → AllByRecursion (λ n. n < end_at p (acts_of past) book) (numbers_at p (acts_of past))
numbers-end boxes past book local stands p = numbers-below (end_at p (acts_of past) book) (uses_at p (acts_of past))
    (all-both (uses_at p (acts_of past)) (λ u of below. let a : u.end ≡ end_at p (acts_of past) book = of.end in let b : u.number < u.end = below in let c : u.number < end_at p (acts_of past) book = omega arith in c)
    ((owned-run boxes past book local stands).numbers p).within (uses-end boxes past local p))

pub counters-end : (boxes : ℕ) (past : List Turn) (book : Book) → Explained boxes past → Stands past book → (spir : ℕ) (c : Counter) → AllByRecursion (λ n. n < end_at (Ours spir c) (acts_of past) book) (filter_map (number_of spir c) past)
counters-end boxes past book local stands spir c = counters-hold (λ ns. AllByRecursion (λ n. n < end_at (Ours spir c) (acts_of past) book) ns) tt boxes past local spir c (numbers-end boxes past book local stands (Ours spir c))
