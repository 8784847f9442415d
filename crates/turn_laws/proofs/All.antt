-- Of whole runs: where each turn is explained and the book stands for the calls, all is owned.
use Rattle.std.proofs.Common.{◌≡◌, ℕ, ◌-◌, ◌<◌, ◌≤◌, false, Some, List, [], ◌∷◌, ◌++◌, map, refl, sym, ◌∙◌, subst, arith}
use Rattle.std.specs.List.{AllByRecursion, filter_map}
use Rattle.events.specs.declared.seals.Seal.{Seal}
use Rattle.events.specs.declared.turn.Turn.{Turn}
use Rattle.keeper_book.specs.Book.{Book, EntersAll, empty}
use Rattle.keeper_book.specs.Counters.{five_at}
use Rattle.keeper_book.specs.declared.calls.Call.{Call}
use Rattle.keeper_book.specs.declared.counters.Counter.{Counter}
use Rattle.keeper_book.specs.declared.counters.Counter.TheVariants as counter
use Rattle.turn_laws.proofs.Acting.{MayDoMoves, moves-all, moves_onto}
use Rattle.turn_laws.proofs.Deeds.{NoneStarted}
use Rattle.turn_laws.proofs.Lists.{all-append}
use Rattle.turn_rules.proofs.SlotTies.{all-weaker}
use Rattle.turn_laws.proofs.Moves.{IsUseOrEnd, are-uses}
use Rattle.turn_laws.proofs.Numbers.{counters-hold}
use Rattle.turn_laws.proofs.Records.{answering-run, deed-of}
use Rattle.turn_laws.proofs.Runs.{LeavesBook, enters_all-append, lawful-calls, lawful-quiet, may_do-append, onto-append}
use Rattle.turn_laws.proofs.Safety.{owned-lawful}
use Rattle.turn_laws.proofs.Tells.{Tells, tells}
use Rattle.turn_laws.proofs.Opened.{peer-may}
use Rattle.turn_laws.proofs.Told.{told-held}
use Rattle.turn_laws.proofs.Well.{deed-well}
use Rattle.turn_laws.specs.Acts.{Calls, Ends, Leaps, MayDoAll, Move, Opens, Seals, Starts, Uses, column_at, holding_at, numbers_at, starts_name, uses_at}
use Rattle.turn_laws.specs.Columns.{column_mark}
use Rattle.turn_laws.specs.Holdings.{End, Holding, IsOwned}
use Rattle.turn_laws.specs.Owned.{Lawful, Owned}
use Rattle.turn_laws.specs.Places.{Ours, Place}
use Rattle.turn_laws.specs.Turns.{actor_of, acts_in, acts_of, key_iv, moves_of, uses_of}
use Rattle.turn_rules.specs.Ends.{Member, own}
use Rattle.turn_rules.specs.Held.{Held, held_by, number_of, window_by}
use Rattle.turn_rules.specs.Local.{IsByRule, Explained, Stands, calls_of}
use Rattle.turn_rules.specs.Safe.{IsEachOnce}

-- no event begins an association of the peer by a resumption
none-started : (past : List Turn) → NoneStarted (acts_of past)
none-started [] name = tt
none-started (turn ∷ past) name = moves-all (λ move. starts_name name move ≡ false) (actor_of turn) (moves_of turn) (acts_of past)
    (of_calls turn.calls (uses_of turn.event turn.step.verdict turn.step.seals ++ map (λ seal. Seals (key_iv seal)) turn.step.seals)
    (all-append (λ move. starts_name name move ≡ false) (uses_of turn.event turn.step.verdict turn.step.seals) (map (λ seal. Seals (key_iv seal)) turn.step.seals) (all-weaker (uses_of turn.event turn.step.verdict turn.step.seals) of_use (are-uses turn.event turn.step.verdict turn.step.seals)) (of_seals turn.step.seals)))
    (none-started past name)
  where
    of_use : (move : Move) → IsUseOrEnd move → starts_name name move ≡ false
    of_use (Uses place n) is = refl
    of_use Ends is = refl
    of_use (Calls call) is = absurd is
    of_use (Seals key) is = absurd is
    of_use (Leaps place n) is = absurd is
    of_use (Opens ticket made) is = absurd is
    of_use (Starts sa) is = absurd is

    of_seals : (seals : List Seal) → AllByRecursion (λ move. starts_name name move ≡ false) (map (λ seal. Seals (key_iv seal)) seals)
    of_seals [] = tt
    of_seals (seal ∷ seals) = (refl, of_seals seals)

    of_calls : (calls : List Call) (rest : List Move) → AllByRecursion (λ move. starts_name name move ≡ false) rest → AllByRecursion (λ move. starts_name name move ≡ false) (map Calls calls ++ rest)
    of_calls [] rest all = all
    of_calls (call ∷ calls) rest all = (refl, of_calls calls rest all)

-- the moves of a turn that is explained may be made
pub turn-well : (boxes : ℕ) (past : List Turn) (turn : Turn) → IsByRule boxes past turn → Explained boxes past → MayDoAll (acts_of past) (acts_in turn)
turn-well boxes past turn explained local = deed-well past (acts_of past) (answering-run boxes past local) (told-held boxes past local) (peer-may boxes past local) (none-started past) (λ member pool. refl) turn.event turn.calls turn.step (deed-of boxes past turn explained local)

use-leaves : (move : Move) → IsUseOrEnd move → LeavesBook move
use-leaves (Uses place n) is = λ book. refl
use-leaves Ends is = λ book. refl
use-leaves (Calls call) is = absurd is
use-leaves (Seals key) is = absurd is
use-leaves (Leaps place n) is = absurd is
use-leaves (Opens ticket made) is = absurd is
use-leaves (Starts sa) is = absurd is

seals-leave : (seals : List Seal) → AllByRecursion LeavesBook (map (λ seal. Seals (key_iv seal)) seals)
seals-leave [] = tt
seals-leave (seal ∷ seals) = ((λ book. refl), seals-leave seals)

-- the acts of a run
pub lawful-run : (boxes : ℕ) (past : List Turn) (book : Book) → Explained boxes past → Stands past book → Lawful (acts_of past) book
lawful-run boxes [] book local stands = stands
lawful-run boxes (turn ∷ past) book local stands =
    let parts : (mid : Book) × EntersAll empty (calls_of past) mid × EntersAll mid turn.calls book = enters_all-append (calls_of past) turn.calls empty book stands in
    let rest : List Move = uses_of turn.event turn.step.verdict turn.step.seals ++ map (λ seal. Seals (key_iv seal)) turn.step.seals in
    let may : MayDoMoves (acts_of past) (actor_of turn) (map Calls turn.calls) × MayDoMoves (moves_onto (actor_of turn) (map Calls turn.calls) (acts_of past)) (actor_of turn) rest =
    may_do-append (actor_of turn) (map Calls turn.calls) rest (acts_of past) (turn-well boxes past turn local.0 local.1) in
    subst (λ acts. Lawful acts book) (sym (onto-append (actor_of turn) (map Calls turn.calls) rest (acts_of past)))
    (lawful-quiet (actor_of turn) rest (moves_onto (actor_of turn) (map Calls turn.calls) (acts_of past)) book
    (all-append LeavesBook (uses_of turn.event turn.step.verdict turn.step.seals) (map (λ seal. Seals (key_iv seal)) turn.step.seals) (all-weaker (uses_of turn.event turn.step.verdict turn.step.seals) use-leaves (are-uses turn.event turn.step.verdict turn.step.seals)) (seals-leave turn.step.seals))
    (lawful-calls (actor_of turn) turn.calls (acts_of past) parts.0 book (lawful-run boxes past parts.0 local.1 parts.1) parts.2 may.0)
    may.1)

-- all is owned
pub owned-run : (boxes : ℕ) (past : List Turn) (book : Book) → Explained boxes past → Stands past book → Owned (acts_of past) book
owned-run boxes past book local stands = owned-lawful (acts_of past) book (lawful-run boxes past book local stands)

pub numbers-once : (boxes : ℕ) (past : List Turn) (book : Book) → Explained boxes past → Stands past book → (p : Place) → IsEachOnce (numbers_at p (acts_of past))
numbers-once boxes past book local stands p = ((owned-run boxes past book local stands).numbers p).once

pub counters-once : (boxes : ℕ) (past : List Turn) (book : Book) → Explained boxes past → Stands past book → (spir : ℕ) (c : Counter) → IsEachOnce (filter_map (number_of spir c) past)
counters-once boxes past book local stands spir c = counters-hold (λ ns. IsEachOnce ns) tt boxes past local spir c (numbers-once boxes past book local stands (Ours spir c))

-- what a member's own turns say that it holds is its holding at each counter
held-tells : (boxes : ℕ) (past : List Turn) → Explained boxes past → (member spir : ℕ) (held : Held) → held_by (window_by past) (own (Member member) past) spir ≡ Some held → (c : Counter) → (h : Holding) × Tells (own (Member member) past) spir c held h × (holding_at (Ours spir c) (acts_of past) (End (Member member)) ≡ Some h)
held-tells boxes past local member spir held is c =
    let so : (h : Holding) × Tells (own (Member member) past) spir c held h = tells (window_by past) (own (Member member) past) spir c held is in
    (so.0, so.1, sym (told-held boxes past local member spir c) ∙ so.1.told_so)

module _ (boxes : ℕ) (past : List Turn) (book : Book) (local : Explained boxes past) (stands : Stands past book) (m k spir : ℕ) (h g : Held) (holds : held_by (window_by past) (own (Member m) past) spir ≡ Some h) (other : held_by (window_by past) (own (Member k) past) spir ≡ Some g) where
  of_m : (c : Counter) → (x : Holding) × Tells (own (Member m) past) spir c h x × (holding_at (Ours spir c) (acts_of past) (End (Member m)) ≡ Some x)
  of_m c = held-tells boxes past local m spir h holds c

  of_k : (c : Counter) → (x : Holding) × Tells (own (Member k) past) spir c g x × (holding_at (Ours spir c) (acts_of past) (End (Member k)) ≡ Some x)
  of_k c = held-tells boxes past local k spir g other c

  owned_at : (c : Counter) → IsOwned (holding_at (Ours spir c) (acts_of past)) (uses_at (Ours spir c) (acts_of past)) (column_at (Ours spir c) (acts_of past) book)
  owned_at c = (owned-run boxes past book local stands).numbers (Ours spir c)

  -- two members that hold an association hold different epochs
  pub epochs-differ : h.epoch ≡ g.epoch → m ≡ k
  epochs-differ same =
      let a = of_m counter.EspOut in
      let b = of_k counter.EspOut in
      member-same ((owned_at counter.EspOut).alone (End (Member m)) (End (Member k)) a.0 b.0 a.2 b.2 (a.1.epoch ∙ (same ∙ sym b.1.epoch)))
    where
      member-same : End (Member m) ≡ End (Member k) → m ≡ k
      member-same is = cc

  -- and the numbers of the earlier one end where those of the later one begin
  pub highs-below : h.epoch < g.epoch → (c : Counter) → five_at h.highs c ≤ five_at g.bases c
  highs-below earlier c =
      let a = of_m c in
      let b = of_k c in
      let below : a.0.high ≤ column_mark (column_at (Ours spir c) (acts_of past) book) a.0.epoch = ((owned_at c).holdings (End (Member m)) a.0 a.2).high in
      let rises : column_mark (column_at (Ours spir c) (acts_of past) book) a.0.epoch ≤ column_mark (column_at (Ours spir c) (acts_of past) book) (b.0.epoch - 1) = (owned_at c).rising a.0.epoch (b.0.epoch - 1) (let p : a.0.epoch ≡ h.epoch = a.1.epoch in let q : b.0.epoch ≡ g.epoch = b.1.epoch in omega arith) in
      let base : column_mark (column_at (Ours spir c) (acts_of past) book) (b.0.epoch - 1) ≡ b.0.base = ((owned_at c).holdings (End (Member k)) b.0 b.2).base in
      let high : a.0.high ≡ five_at h.highs c = a.1.high in
      let low : b.0.base ≡ five_at g.bases c = b.1.base in
      omega arith
