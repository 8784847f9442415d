-- What a settle and a lease leave their caller.
use Rattle.keeper_book.specs.declared.pools.Pool.TheVariants as pools
use Rattle.std.proofs.lemmas.Option.{same_Some}
use Rattle.turn_rules.proofs.SlotTies.{all-weaker}
use Rattle.std.specs.Option.{option_map}
use Rattle.std.specs.List.{AllByRecursion}
use Rattle.keeper_book.specs.declared.calls.KeeperAnswer.{KeeperAnswer}
use Rattle.std.proofs.Common.{[], ◌≡◌, ◌≢◌, ℕ, Bool, true, false, Option, Some, None, List, ◌∷◌, length, refl, sym, subst, ◌==◌, ◌≤◌, if◌then◌else◌, arith, ◌<◌, max, ◌+◌}
use Rattle.std.proofs.lemmas.Bool.{eq-eqb}
use Rattle.keeper_book.specs.Book.{Book, Enters}
use Rattle.keeper_book.specs.Told.{seen}
use Rattle.keeper_book.specs.declared.calls.Call.{Call}
use Rattle.keeper_book.specs.declared.calls.KeeperAnswer.TheVariants as answer
use Rattle.keeper_book.specs.declared.calls.KeeperAsk.{KeeperAsk}
use Rattle.keeper_book.specs.declared.calls.KeeperAsk.TheVariants as ask
use Rattle.keeper_book.specs.declared.counters.Counter.{Counter}
use Rattle.keeper_book.specs.declared.counters.Counter.TheVariants as counter
use Rattle.keeper_book.specs.declared.pools.Pool.{Pool}
use Rattle.keeper_book.specs.declared.records.Record.{Record}
use Rattle.turn_laws.proofs.Holdings.{differ, is_actor-same}
use Rattle.turn_laws.proofs.Pools.{is_pool-same}
use Rattle.turn_laws.proofs.Safety.{owned-move}
use Rattle.turn_laws.specs.Acts.{Ends, Act, Calls, MayAsk, MaySettle, act_by, begun_at, half_begun, holding_at, holding_settled, lot_begun, effect_begun, Move, lot_of, effect_of, Uses, Seals, Leaps, effect_of_use, Opens, Starts}
use Rattle.turn_laws.specs.Holdings.{Actor, Half, Holding, holding_after, is_actor, drawn, jumped_to, Jumps, Nothing, Draws}
use Rattle.turn_laws.specs.Owned.{Owned}
use Rattle.turn_laws.specs.Places.{Ours, Pooled, is_pool, Place, is_place, place_of}

pub lease-owned : (acts : List Act) (w : Actor) (pool : Pool) (count : ℕ) (call : Call) (old new : Book) → Owned acts old → call.asked ≡ ask.Lease pool count → Enters old call new → Owned (act_by w (Calls call) ∷ acts) new
lease-owned acts w pool count call old new owned asked enters = owned-move acts old new w owned (Calls call) (subst (λ a. MayAsk acts w a) (sym asked) tt) enters

-- the lot of who saw a range leased
pub lease-lot : (acts : List Act) (w : Actor) (pool : Pool) (first count : ℕ) (call : Call) → call.asked ≡ ask.Lease pool count → seen call ≡ answer.First first → holding_at (Pooled pool) (act_by w (Calls call) ∷ acts) w ≡ Some (lot_begun (length (begun_at (Pooled pool) acts).bases) pool first count)
lease-lot acts w pool first count call asked sees =
    let here : is_pool pool pool ≡ true = is_pool-same pool in
    let mine : is_actor w w ≡ true = is_actor-same w in
    rw (asked, sees, here, mine) refl

pub settle-owned : (acts : List Act) (w : Actor) (ticket old_spir member : ℕ) (sa : Record) (call : Call) (old new : Book) → Owned acts old → call.asked ≡ ask.Settle ticket old_spir sa member → MaySettle acts w ticket sa → Enters old call new → Owned (act_by w (Calls call) ∷ acts) new
settle-owned acts w ticket old_spir member sa call old new owned asked may enters = owned-move acts old new w owned (Calls call) (subst (λ a. MayAsk acts w a) (sym asked) may) enters

module _ (acts : List Act) (w : Actor) (ticket old_spir member : ℕ) (sa : Record) (call : Call) where
  pub settle-begins : (c : Counter) → call.asked ≡ ask.Settle ticket old_spir sa member → seen call ≡ answer.Done → c ≢ counter.Iv → holding_at (Ours sa.spir c) (act_by w (Calls call) ∷ acts) w ≡ Some (holding_settled c sa)
  settle-begins counter.Iv asked sees other = absurd (other refl)
  settle-begins counter.EspOut asked sees other = let here : (sa.spir == sa.spir) ≡ true = eq-eqb sa.spir sa.spir refl in let mine : is_actor w w ≡ true = is_actor-same w in rw (asked, sees, here, mine) refl
  settle-begins counter.EspIn asked sees other = let here : (sa.spir == sa.spir) ≡ true = eq-eqb sa.spir sa.spir refl in let mine : is_actor w w ≡ true = is_actor-same w in rw (asked, sees, here, mine) refl
  settle-begins counter.Ask asked sees other = let here : (sa.spir == sa.spir) ≡ true = eq-eqb sa.spir sa.spir refl in let mine : is_actor w w ≡ true = is_actor-same w in rw (asked, sees, here, mine) refl
  settle-begins counter.Answer asked sees other = let here : (sa.spir == sa.spir) ≡ true = eq-eqb sa.spir sa.spir refl in let mine : is_actor w w ≡ true = is_actor-same w in rw (asked, sees, here, mine) refl

  pub settle-passes : call.asked ≡ ask.Settle ticket old_spir sa member → seen call ≡ answer.Done → MaySettle acts w ticket sa → holding_at (Ours sa.spir counter.Iv) (act_by w (Calls call) ∷ acts) w ≡ Some half_begun
  settle-passes asked sees may = let here : (sa.spir == sa.spir) ≡ true = eq-eqb sa.spir sa.spir refl in let mine : is_actor w w ≡ true = is_actor-same w in rw (asked, sees, here, mine) may.half_open

  pub settle-leaves : call.asked ≡ ask.Settle ticket old_spir sa member → seen call ≡ answer.Done → MaySettle acts w ticket sa → holding_at (Ours sa.spir counter.Iv) (act_by w (Calls call) ∷ acts) (Half sa.spir) ≡ None
  settle-leaves asked sees may =
      let here : (sa.spir == sa.spir) ≡ true = eq-eqb sa.spir sa.spir refl in
      let apart : is_actor w (Half sa.spir) ≡ false = differ w (Half sa.spir) may.by_other in
      let its : is_actor (Half sa.spir) (Half sa.spir) ≡ true = is_actor-same (Half sa.spir) in
      rw (asked, sees, here, apart, its) refl

-- what is held of a pool is used in order
pub record IsInOrder (h : Holding) : Type 0 where
  pub from_base : h.base ≤ h.next
  pub above_used : AllByRecursion (λ k. k < h.next) h.numbers

drawn-ordered : (n : ℕ) (h : Holding) → IsInOrder h → IsInOrder (drawn n h)
drawn-ordered n h order = record {
  from_base = let a : h.base ≤ h.next = order.from_base in omega arith;
  above_used = (omega arith, all-weaker h.numbers (λ k less. let a : k < h.next = less in let b : k < max (n + 1) h.next = omega arith in b) order.above_used);
}

jumped-ordered : (n : ℕ) (h : Holding) → IsInOrder h → IsInOrder (jumped_to n h)
jumped-ordered n h order = record {
  from_base = let a : h.base ≤ h.next = order.from_base in omega arith;
  above_used = all-weaker h.numbers (λ k less. let a : k < h.next = less in let b : k < max n h.next = omega arith in b) order.above_used;
}

-- all that is held is in order
abbrev AreInOrder : (Actor → Option Holding) → Type 0
AreInOrder held = (v : Actor) (h : Holding) → held v ≡ Some h → IsInOrder h

mapped-ordered : (f : Holding → Holding) → ((h : Holding) → IsInOrder h → IsInOrder (f h)) → (b : Bool) (x : Option Holding) → ((h : Holding) → x ≡ Some h → IsInOrder h) → (h : Holding) → (if b then option_map f x else x) ≡ Some h → IsInOrder h
mapped-ordered f keeps true None order h is = absurd (cc)
mapped-ordered f keeps true (Some g) order h is = subst (λ x. IsInOrder x) (same_Some (f g) h is) (keeps g (order g refl))
mapped-ordered f keeps false x order h is = order h is

module _ (held : Actor → Option Holding) (order : AreInOrder held) where
  begins-ordered : (w : Actor) (x : Option Holding) → ((h : Holding) → x ≡ Some h → IsInOrder h) → AreInOrder (holding_after (effect_begun w x) held)
  begins-ordered w None begins v h is = order v h is
  begins-ordered w (Some g) begins v h is = by_test (is_actor w v) is
    where
      by_test : (b : Bool) → (if b then Some g else held v) ≡ Some h → IsInOrder h
      by_test true is = begins h is
      by_test false is = order v h is

  use-ordered : (p q : Place) (w : Actor) (n : ℕ) → AreInOrder (holding_after (effect_of_use p q w n) held)
  use-ordered p q w n = by_test (is_place q p)
    where
      by_test : (b : Bool) → AreInOrder (holding_after (if b then Draws w n else Nothing) held)
      by_test true = λ v h is. mapped-ordered (drawn n) (drawn-ordered n) (is_actor w v) (held v) (order v) h is
      by_test false = order

  leap-ordered : (p q : Place) (w : Actor) (n : ℕ) → AreInOrder (holding_after (if is_place q p then Jumps w n else Nothing) held)
  leap-ordered p q w n = by_test (is_place q p)
    where
      by_test : (b : Bool) → AreInOrder (holding_after (if b then Jumps w n else Nothing) held)
      by_test true = λ v h is. mapped-ordered (jumped_to n) (jumped-ordered n) (is_actor w v) (held v) (order v) h is
      by_test false = order

lot-ordered : (q : Pool) (before : ℕ) (asked : KeeperAsk) (answered : KeeperAnswer) (h : Holding) → lot_of q before asked answered ≡ Some h → IsInOrder h
lot-ordered q before (ask.Lease pool count) (answer.First first) h is = by_test (is_pool pool q) is
  where
    by_test : (b : Bool) → (if b then Some (lot_begun before pool first count) else None) ≡ Some h → IsInOrder h
    by_test true is = subst (λ x. IsInOrder x) (same_Some (lot_begun before pool first count) h is) (record { from_base = omega arith; above_used = tt })
    by_test false is = absurd (cc)
lot-ordered q before asked answered h is = absurd (cc)

none_held : (h : Holding) → None ≡ Some h → ⊥
none_held h is = cc

-- so it is of each lot
pub lots-ordered : (acts : List Act) (q : Pool) → AreInOrder (holding_at (Pooled q) acts)
lots-ordered [] q = λ v h is. absurd (none_held h is)
lots-ordered (act ∷ acts) q = by_move act.move (lots-ordered acts q)
  where
    by_move : (move : Move) → AreInOrder (holding_at (Pooled q) acts) → AreInOrder (holding_after (effect_of (Pooled q) (begun_at (Pooled q) acts) act.by move) (holding_at (Pooled q) acts))
    by_move (Calls call) order = begins-ordered (holding_at (Pooled q) acts) order act.by (lot_of q (length (begun_at (Pooled q) acts).bases) call.asked (seen call)) (lot-ordered q (length (begun_at (Pooled q) acts).bases) call.asked (seen call))
    by_move (Uses p n) order = use-ordered (holding_at (Pooled q) acts) order (Pooled q) p act.by n
    by_move (Seals key) order = use-ordered (holding_at (Pooled q) acts) order (Pooled q) (place_of key.name) act.by key.iv
    by_move (Leaps p n) order = leap-ordered (holding_at (Pooled q) acts) order (Pooled q) p act.by n
    by_move (Opens ticket made) order = use-ordered (holding_at (Pooled q) acts) order (Pooled q) (Pooled pools.Nonce) act.by made.spir
    by_move (Starts sa) order = order
    by_move Ends order = order
