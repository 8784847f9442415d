-- What members have left of lots of tickets: no number is left to two of them, and none of these is that of a ticket.
use Rattle.std.proofs.Common.{◌≡◌, ◌≢◌, refl, ℕ, ◌-◌, ◌<◌, ◌≤◌, Option, Some, None, List, [], ◌∷◌, map, ⊎_elim, ap, ◌∙◌, subst, arith}
use Rattle.std.proofs.lemmas.Bool.{cases_order}
use Rattle.std.specs.List.{AllByRecursion, filter_map}
use Rattle.events.specs.declared.turn.Turn.{Turn}
use Rattle.keeper_book.specs.Book.{Book, pool_next}
use Rattle.keeper_book.specs.declared.pools.Pool.TheVariants as pools
use Rattle.turn_laws.proofs.All.{numbers-once, owned-run}
use Rattle.turn_laws.proofs.Lots.{lot-below, lots-apart}
use Rattle.turn_laws.proofs.Numbers.{ticket-numbers, turn_ticket}
use Rattle.turn_laws.proofs.Records.{tickets-by}
use Rattle.turn_laws.specs.Acts.{Act, column_at, holding_at, numbers_at, uses_at}
use Rattle.turn_laws.specs.Columns.{Column, column_mark}
use Rattle.turn_laws.specs.Holdings.{End, Holding, IsHoldingOf, IsNotIn, IsOwned, IsUseOf, Use}
use Rattle.turn_laws.specs.OwnTurns.{IsLeftIn, left_of_lot}
use Rattle.turn_laws.specs.Owned.{Owned}
use Rattle.turn_laws.specs.Places.{Place, Pooled}
use Rattle.turn_laws.specs.Turns.{acts_of}
use Rattle.turn_rules.proofs.SlotTies.{all-weaker}
use Rattle.turn_rules.specs.Ends.{Member, own}
use Rattle.turn_rules.specs.Local.{Explained, Stands}
use Rattle.turn_rules.specs.Safe.{IsEachOnce}
use Rattle.turn_rules.specs.TicketNumbers.{numbers_by}

abbrev tickets : Place
tickets = Pooled pools.Ticket

-- no ticket has the number of another one
pub tickets-once : (boxes : ℕ) (past : List Turn) (book : Book) → Explained boxes past → Stands past book
    → IsEachOnce (filter_map turn_ticket past)
tickets-once boxes past book local stands = subst (λ ns. IsEachOnce ns) (ticket-numbers boxes past local)
    (numbers-once boxes past book local stands tickets)

-- what own turns tell of a lot is what is held of the pool
pub told-lots : (boxes : ℕ) (past : List Turn) → Explained boxes past → (member : ℕ)
    → numbers_by (own (Member member) past) ≡ left_of_lot (holding_at tickets (acts_of past) (End (Member member)))
told-lots boxes past local member = (tickets-by boxes past local member).left

-- a number that is left is one of a lot that is held
record IsHeld (acts : List Act) (member n : ℕ) : Type 0 where
  lot : Holding
  holds : holding_at tickets acts (End (Member member)) ≡ Some lot
  from_next : lot.next ≤ n
  below_high : n < lot.high

module _ (boxes : ℕ) (past : List Turn) (book : Book) (local : Explained boxes past) (stands : Stands past book) where
  abbrev acts : List Act
  acts = acts_of past

  abbrev column : Column
  column = column_at tickets acts book

  owned : Owned acts book
  owned = owned-run boxes past book local stands

  its : IsOwned (holding_at tickets acts) (uses_at tickets acts) column
  its = owned.numbers tickets

  is-held : (member n : ℕ) → IsLeftIn (numbers_by (own (Member member) past)) n → IsHeld acts member n
  is-held member n left = go (holding_at tickets acts (End (Member member))) refl
    where
      go : (x : Option Holding) → holding_at tickets acts (End (Member member)) ≡ x → IsHeld acts member n
      go None e =
          let here : IsLeftIn (left_of_lot None) n = subst (λ lot. IsLeftIn lot n) (told-lots boxes past local member ∙ ap left_of_lot e)
          left in
          let from : 1 ≤ n = here.from_next in
          let below : n < 1 = here.below_end in
          absurd (omega (arith, from, below))
      go (Some lot) e =
          let here : IsLeftIn (left_of_lot (Some lot)) n = subst (λ lot. IsLeftIn lot n)
          (told-lots boxes past local member ∙ ap left_of_lot e) left in
          record { lot = lot; holds = e; from_next = here.from_next; below_high = here.below_end }

  -- it lies below the pool's next number
  pub left-leased : (member n : ℕ) → IsLeftIn (numbers_by (own (Member member) past)) n → n < pool_next pools.Ticket book
  left-leased member n left =
      let held : IsHeld acts member n = is-held member n left in
      let below : n < held.lot.high = held.below_high in
      let high : held.lot.high ≤ pool_next pools.Ticket book = lot-below acts book owned pools.Ticket (End (Member member)) held.lot
      held.holds in
      omega (arith, below, high)

  -- what is held from its next number on
  base-below : (member n : ℕ) (held : IsHeld acts member n) → held.lot.base ≤ n
  base-below member n held =
      let of : IsHoldingOf column held.lot = its.holdings (End (Member member)) held.lot held.holds in
      let base : held.lot.base ≤ held.lot.next = of.from_base in
      let from : held.lot.next ≤ n = held.from_next in
      omega (arith, base, from)

  -- no two members have one number left
  pub left-apart : (m k n : ℕ) → IsLeftIn (numbers_by (own (Member m) past)) n → IsLeftIn (numbers_by (own (Member k) past)) n → m ≡ k
  left-apart m k n left other =
      let h : IsHeld acts m n = is-held m n left in
      let g : IsHeld acts k n = is-held k n other in
      let below_h : n < h.lot.high = h.below_high in
      let below_g : n < g.lot.high = g.below_high in
      let from_h : h.lot.base ≤ n = base-below m n h in
      let from_g : g.lot.base ≤ n = base-below k n g in
      ⊎_elim
      (λ same. member-same (its.alone (End (Member m)) (End (Member k)) h.lot g.lot h.holds g.holds same))
      (λ differ. ⊎_elim
      (λ earlier. let ends : h.lot.high ≤ g.lot.base = lots-apart acts book owned pools.Ticket (End (Member m)) (End (Member k)) h.lot g.lot
      h.holds g.holds earlier in absurd (omega (arith, below_h, from_g, ends)))
      (λ later. let ends : g.lot.high ≤ h.lot.base = lots-apart acts book owned pools.Ticket (End (Member k)) (End (Member m)) g.lot h.lot
      g.holds h.holds later in absurd (omega (arith, below_g, from_h, ends)))
      differ)
      (cases_order h.lot.epoch g.lot.epoch)
    where
      member-same : End (Member m) ≡ End (Member k) → m ≡ k
      member-same is = cc

  -- and none that is left is used
  left-unused : (member n : ℕ) → IsLeftIn (numbers_by (own (Member member) past)) n → IsNotIn n (numbers_at tickets acts)
  left-unused member n left = numbers (uses_at tickets acts) (its.known (End (Member member)) held.lot held.holds n above) its.within
    where
      held : IsHeld acts member n
      held = is-held member n left

      of : IsHoldingOf column held.lot
      of = its.holdings (End (Member member)) held.lot held.holds

      above : IsNotIn n held.lot.numbers
      above = all-weaker held.lot.numbers (λ k less same. absurd
          (let a : k < held.lot.next = less in let b : held.lot.next ≤ n = held.from_next in omega (arith, a, b, same))) of.above_used

      elsewhere : (u : Use) → IsUseOf column u → (u.epoch ≡ held.lot.epoch → u.number ≢ n) → u.number ≢ n
      elsewhere u use_of unless same =
          let from : column_mark column (u.epoch - 1) ≤ u.number = use_of.from_base in
          let below : u.number < column_mark column u.epoch = use_of.below in
          let base : column_mark column (held.lot.epoch - 1) ≡ held.lot.base = of.base in
          let high : held.lot.high ≤ column_mark column held.lot.epoch = of.high in
          let above_base : held.lot.base ≤ n = base-below member n held in
          let below_high : n < held.lot.high = held.below_high in
          ⊎_elim
          (λ here. unless here same)
          (λ differ. ⊎_elim
          (λ earlier. let rises : column_mark column u.epoch ≤ column_mark column (held.lot.epoch - 1) = its.rising u.epoch
          (held.lot.epoch - 1) (omega (arith, earlier)) in absurd (omega (arith, below, rises, base, above_base, same)))
          (λ later. let rises : column_mark column held.lot.epoch ≤ column_mark column (u.epoch - 1) = its.rising held.lot.epoch
          (u.epoch - 1) (omega (arith, later)) in absurd (omega (arith, from, rises, high, below_high, same)))
          differ)
          (cases_order u.epoch held.lot.epoch)

      numbers : (us : List Use) → AllByRecursion (λ u. u.epoch ≡ held.lot.epoch → u.number ≢ n) us → AllByRecursion (IsUseOf column) us
          → IsNotIn n (map (λ u. u.number) us)
      numbers [] known within = tt
      numbers (u ∷ us) known within = (elsewhere u within.0 known.0, numbers us known.1 within.1)

  pub left-unissued : (member n : ℕ) → IsLeftIn (numbers_by (own (Member member) past)) n → IsNotIn n (filter_map turn_ticket past)
  left-unissued member n left = subst (λ ns. IsNotIn n ns) (ticket-numbers boxes past local) (left-unused member n left)
