-- What each move does at a place.
use Rattle.turn_laws.proofs.Entries.{goes_on-settled, first-settled}
use Rattle.std.proofs.Common.{◌≡◌, ℕ, ◌<◌, ◌≤◌, ◌==◌, ◌&&◌, Bool, true, false, Option, Some, None, MatchOption, List, refl, ap, sym, ◌∙◌, subst, arith, if◌then◌else◌, ◌≢◌, ⊎_elim, ◌+◌}
use Rattle.std.proofs.lemmas.Bool.{eqb-true, and_parts}
use Rattle.std.proofs.lemmas.Option.{same_Some}
use Rattle.std.specs.Option.{option_map}
use Rattle.keeper_book.specs.Book.{Answers, Book, cover_refusal, enter_refusal, Enters, Entry, entry_of, pool_next, raised_at, settled, lease_refusal, with_pool_next}
use Rattle.ha_base.specs.declared.counter_names.CounterName.{CounterName}
use Rattle.ha_base.specs.declared.limits.TheConstants.{LEAST_SPI}
use Rattle.keeper_book.specs.Counters.{counter_named}
use Rattle.keeper_book.specs.Records.{spir_of_origin}
use Rattle.keeper_book.specs.Told.{seen}
use Rattle.keeper_book.specs.declared.calls.Call.{Call}
use Rattle.keeper_book.specs.declared.calls.KeeperAnswer.{KeeperAnswer}
use Rattle.keeper_book.specs.declared.calls.KeeperAnswer.TheVariants as answer
use Rattle.keeper_book.specs.declared.calls.KeeperAsk.{KeeperAsk}
use Rattle.keeper_book.specs.declared.calls.KeeperAsk.TheVariants as ask
use Rattle.keeper_book.specs.declared.counters.Counter.{Counter}
use Rattle.keeper_book.specs.declared.counters.Counter.TheVariants as counter
use Rattle.keeper_book.specs.declared.records.Record.{Record}
use Rattle.keeper_book.specs.declared.faults.KeeperFault.TheVariants as fault
use Rattle.turn_laws.proofs.Books.{IsFree, column-goes_on, keeps-covered, keeps-taken, shows-done, shows-entered, settled-in, shows-first, after-granted}
use Rattle.turn_laws.proofs.Columns.{goes_on-refl}
use Rattle.turn_laws.proofs.Firsts.{IsFirstHolding, keeps-begun, keeps-first}
use Rattle.turn_laws.proofs.Holdings.{Keeps, owned-after}
use Rattle.turn_laws.proofs.Lots.{drawn-below, lot-below}
use Rattle.turn_laws.proofs.Pools.{keeps-lease}
use Rattle.turn_laws.specs.Acts.{Act, Calls, Ends, HoldsFor, IsImport, IsUnstarted, Leaps, MayAsk, MayCover, MayDo, Move, Opens, Seals, Starts, Uses, begun_after, begun_at, begun_called, begun_named, begun_open, begun_started, column_at, effect_begun, effect_of, effect_of_call, effect_of_open, effect_of_use, holding_at, numbers_at, uses_at, with_begun, opened_at, MaySettle, Opened, holding_settled, effect_settled, effect_of_ours}
use Rattle.turn_laws.specs.Columns.{Column, ColumnGoesOn, IsRising, column_mark, nothing}
use Rattle.turn_laws.specs.Holdings.{Actor, Begins, Draws, Half, Holding, IsNotIn, Jumps, Nothing, column_begun}
use Rattle.turn_laws.specs.Owned.{Owned, WritesBook, column_half, IsSettled}
use Rattle.turn_laws.specs.Places.{Ours, Place, Pooled, Theirs, column, column_ours, is_place, place_of}
use Rattle.turn_rules.specs.Held.{is_named}
use Rattle.turn_rules.specs.Slots.{peer_counter}
use Rattle.turn_laws.proofs.Begun.{begun-first, begun-is, begun-spir, below-not_in, entry-spir, failed_begins, failed_effect, half-first, is_place-true, named-counter, opened-is, ours-spir}
use Rattle.keeper_book.specs.Pools.{pool_end}
use Rattle.keeper_book.specs.declared.pools.Pool.TheVariants as pools

pub column_half-none : (c : Counter) → column_half c None ≡ nothing
column_half-none counter.EspOut = refl
column_half-none counter.EspIn = refl
column_half-none counter.Iv = refl
column_half-none counter.Ask = refl
column_half-none counter.Answer = refl

-- of other counters than the IVs' nothing is half open
column_half-other : (c : Counter) → c ≢ counter.Iv → (x : Option Opened) → column_half c x ≡ nothing
column_half-other counter.EspOut other x = refl
column_half-other counter.EspIn other x = refl
column_half-other counter.Iv other x = absurd (other refl)
column_half-other counter.Ask other x = refl
column_half-other counter.Answer other x = refl

module _ (acts : List Act) (old new : Book) (w : Actor) where
  module _ (rising : (p : Place) → IsRising (column_at p acts old)) (ends : (p : Place) (h : Holding) → holding_at p acts w ≡ Some h → h.end ≡ (column_at p acts old).end)
      (free : (p : Place) (asked : KeeperAsk) → MayAsk acts w asked → IsFree p asked (begun_at p acts))
      (unbegun : (spir : ℕ) (c : Counter) → c ≢ counter.Iv → begun_at (Ours spir c) acts ≡ nothing)
      (unentered : (name : CounterName) (spir : ℕ) → spir_of_origin name.origin ≡ Some spir → IsUnstarted name acts → entry_of spir old.entries ≡ None → begun_at (Theirs name) acts ≡ nothing) where
    -- what a call that was answered so does at a place
    keeps-answered : (p : Place) (asked : KeeperAsk) (answered : KeeperAnswer) → MayAsk acts w asked → Answers old asked answered new → Keeps (effect_of_call p (begun_at p acts) w asked answered) (holding_at p acts) (column_at p acts old) (column p (with_begun (begun_called p (begun_at p acts) asked answered) (begun_at p acts)) new)
    keeps-answered (Ours spir c) (ask.TakeOver asked member) (answer.Taken taken) may a = by_test (asked == spir) refl
      where
        goes : ColumnGoesOn (column_at (Ours spir c) acts old) (column (Ours spir c) (begun_at (Ours spir c) acts) new)
        goes = column-goes_on old new (ask.TakeOver asked member) (answer.Taken taken) a (Ours spir c) (begun_at (Ours spir c) acts) (free (Ours spir c) (ask.TakeOver asked member) may) (rising (Ours spir c))

        by_test : (b : Bool) → (asked == spir) ≡ b → Keeps (effect_of_call (Ours spir c) (begun_at (Ours spir c) acts) w (ask.TakeOver asked member) (answer.Taken taken)) (holding_at (Ours spir c) acts) (column_at (Ours spir c) acts old) (column (Ours spir c) (begun_at (Ours spir c) acts) new)
        by_test true t = rw t (goes, keeps-taken old new (begun_at (Ours spir c) acts) spir c member taken (subst (λ n. Answers old (ask.TakeOver n member) (answer.Taken taken) new) (eqb-true asked spir t) a))
        by_test false t = rw t goes
    keeps-answered (Ours spir c) (ask.Cover asked kind child epoch upto) answer.Done may a = by_test ((asked == spir) && is_named c (counter_named kind child)) refl
      where
        goes : ColumnGoesOn (column_at (Ours spir c) acts old) (column (Ours spir c) (begun_at (Ours spir c) acts) new)
        goes = column-goes_on old new (ask.Cover asked kind child epoch upto) answer.Done a (Ours spir c) (begun_at (Ours spir c) acts) (free (Ours spir c) (ask.Cover asked kind child epoch upto) may) (rising (Ours spir c))

        raises : (asked == spir) ≡ true → is_named c (counter_named kind child) ≡ true → (h : Holding) → holding_at (Ours spir c) acts w ≡ Some h → upto ≤ column_mark (column (Ours spir c) (begun_at (Ours spir c) acts) new) h.epoch
        raises t named h holds =
            let same : asked ≡ spir = eqb-true asked spir t in
            let is : counter_named kind child ≡ Some c = named-counter c (counter_named kind child) named in
            let cover : MayCover (holding_at (Ours spir c) acts w) epoch upto =
            subst (λ n. MayCover (holding_at (Ours n c) acts w) epoch upto) same
            (subst (λ o. MatchOption o ⊥ (λ d. MayCover (holding_at (Ours asked d) acts w) epoch upto)) is may) in
            let held : h ≡ cover.holding = same_Some h cover.holding (sym holds ∙ cover.holds) in
            let at : h.epoch ≡ epoch = ap (λ (x : Holding). x.epoch) held ∙ cover.in_epoch in
            subst (λ e. upto ≤ column_mark (column (Ours spir c) (begun_at (Ours spir c) acts) new) e) (sym at)
            (keeps-covered old new (begun_at (Ours spir c) acts) spir c (ask.Cover asked kind child epoch upto) (counter_named kind child) epoch upto
            (ap (λ n. cover_refusal (entry_of n old.entries) (counter_named kind child) epoch) same) is
            (ap (λ b. if b then option_map (raised_at (counter_named kind child) upto) (entry_of spir old.entries) else entry_of spir old.entries) t)
            (subst (λ n. upto ≤ n) (ends (Ours spir c) cover.holding cover.holds) cover.within_end) a.0 a.1)

        by_test : (b : Bool) → ((asked == spir) && is_named c (counter_named kind child)) ≡ b → Keeps (effect_of_call (Ours spir c) (begun_at (Ours spir c) acts) w (ask.Cover asked kind child epoch upto) answer.Done) (holding_at (Ours spir c) acts) (column_at (Ours spir c) acts old) (column (Ours spir c) (begun_at (Ours spir c) acts) new)
        by_test true t = rw t (goes, raises (and_parts (asked == spir) (is_named c (counter_named kind child)) t).0 (and_parts (asked == spir) (is_named c (counter_named kind child)) t).1)
        by_test false t = rw t goes
    keeps-answered (Ours spir c) (ask.Settle ticket asked sa member) answer.Done may a = by_test (sa.spir == spir) refl
      where
        goes : ColumnGoesOn (column_at (Ours spir c) acts old) (column (Ours spir c) (begun_at (Ours spir c) acts) new)
        goes = column-goes_on old new (ask.Settle ticket asked sa member) answer.Done a (Ours spir c) (begun_at (Ours spir c) acts) (free (Ours spir c) (ask.Settle ticket asked sa member) may) (rising (Ours spir c))

        -- a counter of which nothing was half open begins
        begins : (sa.spir == spir) ≡ true → begun_at (Ours spir c) acts ≡ nothing → Keeps (Begins w (holding_settled c sa)) (holding_at (Ours spir c) acts) (column_at (Ours spir c) acts old) (column (Ours spir c) (begun_at (Ours spir c) acts) new)
        begins t none =
            let same : sa.spir ≡ spir = eqb-true sa.spir spir t in
            let so = settled-in old new (begun_at (Ours spir c) acts) ticket asked sa member a in
            let was : column_at (Ours spir c) acts old ≡ nothing = ap (column_ours c (begun_at (Ours spir c) acts)) (ap (λ n. entry_of n old.entries) (sym same) ∙ so.0) ∙ none in
            let now : column (Ours spir c) (begun_at (Ours spir c) acts) new ≡ column_begun (holding_settled c sa) nothing = ap (column_ours c (begun_at (Ours spir c) acts)) (ap (λ n. entry_of n new.entries) (sym same) ∙ so.1) in
            subst (λ col. Keeps (Begins w (holding_settled c sa)) (holding_at (Ours spir c) acts) col (column (Ours spir c) (begun_at (Ours spir c) acts) new)) (sym was)
            (subst (λ col. Keeps (Begins w (holding_settled c sa)) (holding_at (Ours spir c) acts) nothing col) (sym now)
            (keeps-first (holding_at (Ours spir c) acts) w (holding_settled c sa) (first-settled sa c)))

        by_counter : (sa.spir == spir) ≡ true → (d : Counter) → c ≡ d → Keeps (effect_settled w d sa) (holding_at (Ours spir c) acts) (column_at (Ours spir c) acts old) (column (Ours spir c) (begun_at (Ours spir c) acts) new)
        by_counter t counter.Iv is = goes
        by_counter t counter.EspOut is = subst (λ d. Keeps (Begins w (holding_settled d sa)) (holding_at (Ours spir c) acts) (column_at (Ours spir c) acts old) (column (Ours spir c) (begun_at (Ours spir c) acts) new)) is (begins t (unbegun spir c (λ iv. let no : counter.EspOut ≡ counter.Iv = sym is ∙ iv in absurd (cc))))
        by_counter t counter.EspIn is = subst (λ d. Keeps (Begins w (holding_settled d sa)) (holding_at (Ours spir c) acts) (column_at (Ours spir c) acts old) (column (Ours spir c) (begun_at (Ours spir c) acts) new)) is (begins t (unbegun spir c (λ iv. let no : counter.EspIn ≡ counter.Iv = sym is ∙ iv in absurd (cc))))
        by_counter t counter.Ask is = subst (λ d. Keeps (Begins w (holding_settled d sa)) (holding_at (Ours spir c) acts) (column_at (Ours spir c) acts old) (column (Ours spir c) (begun_at (Ours spir c) acts) new)) is (begins t (unbegun spir c (λ iv. let no : counter.Ask ≡ counter.Iv = sym is ∙ iv in absurd (cc))))
        by_counter t counter.Answer is = subst (λ d. Keeps (Begins w (holding_settled d sa)) (holding_at (Ours spir c) acts) (column_at (Ours spir c) acts old) (column (Ours spir c) (begun_at (Ours spir c) acts) new)) is (begins t (unbegun spir c (λ iv. let no : counter.Answer ≡ counter.Iv = sym is ∙ iv in absurd (cc))))

        by_test : (b : Bool) → (sa.spir == spir) ≡ b → Keeps (effect_of_ours w c (if b then Some sa else None) None None) (holding_at (Ours spir c) acts) (column_at (Ours spir c) acts old) (column (Ours spir c) (begun_at (Ours spir c) acts) new)
        by_test true t = by_counter t c refl
        by_test false t = goes
    keeps-answered (Pooled q) (ask.Lease pool count) (answer.First first) may a =
        let shows = shows-first (lease_refusal pool count old.next) first (pool_next pool old) a.0 in
        keeps-lease (holding_at (Pooled q) acts) w (begun_at (Pooled q) acts) old new pool first count shows.is_next
        (after-granted old new (ask.Lease pool count) shows.granted a.1 ∙ ap (λ n. with_pool_next pool (n + count) old) (sym shows.is_next))
        q (rising (Pooled q))
    keeps-answered (Theirs name) (ask.Enter sa) answer.Done may a = keeps-begun (holding_at (Theirs name) acts) w (begun_named name sa) (begun_at (Theirs name) acts) (rising (Theirs name)) (λ h is. (none h is, begun-first name sa h is))
      where
        none : (h : Holding) → begun_named name sa ≡ Some h → begun_at (Theirs name) acts ≡ nothing
        none h is =
            let it = begun-is name sa h is in
            unentered name sa.spir (begun-spir name sa h is) (subst (λ n. IsUnstarted n acts) (sym it.named) (may.1 it.counter)) (shows-entered sa old.entries (shows-done (enter_refusal sa old.entries) a.0))
    keeps-answered (Theirs name) (ask.Enter sa) (answer.Taken taken) may a = goes_on-refl (begun_at (Theirs name) acts) (rising (Theirs name))
    keeps-answered (Theirs name) (ask.Enter sa) (answer.First first) may a = goes_on-refl (begun_at (Theirs name) acts) (rising (Theirs name))
    keeps-answered (Theirs name) (ask.Enter sa) (answer.Look spent) may a = goes_on-refl (begun_at (Theirs name) acts) (rising (Theirs name))
    keeps-answered (Theirs name) (ask.Enter sa) (answer.Refused why) may a = goes_on-refl (begun_at (Theirs name) acts) (rising (Theirs name))
    keeps-answered (Theirs name) (ask.TakeOver asked member) answered may a = goes_on-refl (begun_at (Theirs name) acts) (rising (Theirs name))
    keeps-answered (Theirs name) (ask.Cover asked kind child epoch upto) answered may a = goes_on-refl (begun_at (Theirs name) acts) (rising (Theirs name))
    keeps-answered (Theirs name) (ask.Lease pool count) answered may a = goes_on-refl (begun_at (Theirs name) acts) (rising (Theirs name))
    keeps-answered (Theirs name) (ask.Settle ticket asked sa member) answered may a = goes_on-refl (begun_at (Theirs name) acts) (rising (Theirs name))
    keeps-answered (Theirs name) (ask.Look ticket) answered may a = goes_on-refl (begun_at (Theirs name) acts) (rising (Theirs name))
    keeps-answered p asked answered may a = column-goes_on old new asked answered a p (begun_at p acts) (free p asked may) (rising p)

    keeps-call : (p : Place) (call : Call) → MayAsk acts w call.asked → Enters old call new → Keeps (effect_of p (begun_at p acts) w (Calls call)) (holding_at p acts) (column_at p acts old) (column p (begun_after (Calls call) p (begun_at p acts)) new)
    keeps-call p call may enters = by_test call.hidden refl
      where
        by_test : (b : Bool) → call.hidden ≡ b → Keeps (effect_of_call p (begun_at p acts) w call.asked (seen call)) (holding_at p acts) (column_at p acts old) (column p (with_begun (begun_called p (begun_at p acts) call.asked (seen call)) (begun_at p acts)) new)
        by_test true t = rw t (subst (λ x. Keeps (effect_of_call p (begun_at p acts) w call.asked (answer.Refused fault.Failed)) (holding_at p acts) (column_at p acts old) (column p (with_begun x (begun_at p acts)) new)) (failed_begins p (begun_at p acts) call.asked fault.Failed)
            (subst (λ e. Keeps e (holding_at p acts) (column_at p acts old) (column p (begun_at p acts) new)) (failed_effect w p (begun_at p acts) call.asked fault.Failed) (column-goes_on old new call.asked call.answer enters p (begun_at p acts) (free p call.asked may) (rising p))))
        by_test false t = rw t (keeps-answered p call.asked call.answer may enters)

  -- a number is used at a place, and at no other
  keeps-use : (p q : Place) (n : ℕ) → HoldsFor (holding_at q acts w) n → ColumnGoesOn (column_at p acts old) (column_at p acts new) → Keeps (effect_of_use p q w n) (holding_at p acts) (column_at p acts old) (column_at p acts new)
  keeps-use p q n may goes = by_test (is_place q p) refl
    where
      by_test : (b : Bool) → is_place q p ≡ b → Keeps (if is_place q p then Draws w n else Nothing) (holding_at p acts) (column_at p acts old) (column_at p acts new)
      by_test true t =
          let here : HoldsFor (holding_at p acts w) n = subst (λ x. HoldsFor (holding_at x acts w) n) (is_place-true q p t) may in
          rw t (goes, here.holding, here.holds, here.may)
      by_test false t = rw t goes

  module _ (owned : Owned acts old) where
    still : (p : Place) → new ≡ old → ColumnGoesOn (column_at p acts old) (column_at p acts new)
    still p same = subst (λ b. ColumnGoesOn (column_at p acts old) (column_at p acts b)) (sym same) (goes_on-refl (column_at p acts old) (owned.numbers p).rising)

    -- what may be imported is not half open
    pub import-unopened : (sa : Record) → IsImport sa → opened_at sa.spir acts ≡ None
    import-unopened sa import_of = owned.opened sa.spir (below-not_in (pool_next pools.Nonce old) sa.spir (numbers_at (Pooled pools.Nonce) acts)
        (let a : pool_next pools.Nonce old ≤ pool_end pools.Nonce = owned.within pools.Nonce in let b : LEAST_SPI ≤ sa.spir = import_of.spir in omega arith)
        (drawn-below acts old owned pools.Nonce))

    free-import : (sa : Record) → IsImport sa → (c : Counter) → begun_at (Ours sa.spir c) acts ≡ nothing
    free-import sa import_of c = owned.begun sa.spir c ∙ (ap (column_half c) (import-unopened sa import_of) ∙ column_half-none c)

    unbegun-other : (spir : ℕ) (c : Counter) → c ≢ counter.Iv → begun_at (Ours spir c) acts ≡ nothing
    unbegun-other spir c other = owned.begun spir c ∙ column_half-other c other (opened_at spir acts)

    -- what is half open goes on as it is settled
    settle-goes : (ticket : ℕ) (sa : Record) (member : ℕ) → MaySettle acts w ticket sa → (c : Counter) → ColumnGoesOn (begun_at (Ours sa.spir c) acts) (column_ours c (begun_at (Ours sa.spir c) acts) (Some (settled sa member)))
    settle-goes ticket sa member may c = subst (λ begun. ColumnGoesOn begun (column_ours c begun (Some (settled sa member)))) (sym (owned.begun sa.spir c ∙ ap (column_half c) may.is_its)) (goes_on-settled c may.opened sa member may.its_record.starts)

    free-call : (p : Place) (asked : KeeperAsk) → MayAsk acts w asked → IsFree p asked (begun_at p acts)
    free-call (Ours spir c) (ask.Enter sa) may = λ same. subst (λ n. begun_at (Ours n c) acts ≡ nothing) same (free-import sa may.0 c)
    free-call (Ours spir c) (ask.TakeOver asked member) may = tt
    free-call (Ours spir c) (ask.Cover asked kind child epoch upto) may = tt
    free-call (Ours spir c) (ask.Lease pool count) may = tt
    free-call (Ours spir c) (ask.Settle ticket asked sa member) may = λ same. subst (λ n. ColumnGoesOn (begun_at (Ours n c) acts) (column_ours c (begun_at (Ours n c) acts) (Some (settled sa member)))) same (settle-goes ticket sa member may c)
    free-call (Ours spir c) (ask.Look ticket) may = tt
    free-call (Theirs name) asked may = tt
    free-call (Pooled q) asked may = tt

    -- a number that may be drawn of the nonces was not drawn, and is no import's SPI
    module _ (drawn : ℕ) (may : HoldsFor (holding_at (Pooled pools.Nonce) acts w) drawn) where
      undrawn : IsNotIn drawn (numbers_at (Pooled pools.Nonce) acts)
      undrawn = (owned-after (holding_at (Pooled pools.Nonce) acts) (uses_at (Pooled pools.Nonce) acts) (column_at (Pooled pools.Nonce) acts old) (column_at (Pooled pools.Nonce) acts old) (Draws w drawn) (owned.numbers (Pooled pools.Nonce))
          (goes_on-refl (column_at (Pooled pools.Nonce) acts old) (owned.numbers (Pooled pools.Nonce)).rising, may.holding, may.holds, may.may)).once.0

      -- so nothing got half open under it
      pub unopened : opened_at drawn acts ≡ None
      unopened = owned.opened drawn undrawn

      pub no_entry : entry_of drawn old.entries ≡ None
      no_entry = go (entry_of drawn old.entries) refl
        where
          go : (x : Option Entry) → entry_of drawn old.entries ≡ x → x ≡ None
          go None e = refl
          go (Some f) e = ⊎_elim imported was_open (owned.recorded drawn f e)
            where
              same : f.sa.spir ≡ drawn
              same = entry-spir drawn old.entries f e

              imported : IsImport f.sa → Some f ≡ None
              imported import_of =
                  let low : LEAST_SPI ≤ f.sa.spir = import_of.spir in
                  let is : f.sa.spir ≡ drawn = same in
                  let below : may.holding.high ≤ pool_next pools.Nonce old = lot-below acts old owned pools.Nonce w may.holding may.holds in
                  let under : drawn < may.holding.high = may.may.below_high in
                  let end : pool_next pools.Nonce old ≤ pool_end pools.Nonce = owned.within pools.Nonce in
                  absurd (omega arith)

              was_open : IsSettled acts old f.sa → Some f ≡ None
              was_open settled = let is : opened_at drawn acts ≡ Some settled.opened = ap (λ n. opened_at n acts) (sym same) ∙ settled.is_its in let none : opened_at drawn acts ≡ None = unopened in absurd (cc)

      -- and nothing began at a counter of it
      pub unbegun-drawn : (c : Counter) → begun_at (Ours drawn c) acts ≡ nothing
      unbegun-drawn c = owned.begun drawn c ∙ (ap (column_half c) unopened ∙ column_half-none c)

      keeps-open : (p : Place) → new ≡ old → Keeps (effect_of_open p w drawn) (holding_at p acts) (column_at p acts old) (column p (with_begun (begun_open p drawn) (begun_at p acts)) new)
      keeps-open (Pooled q) same = keeps-use (Pooled q) (Pooled pools.Nonce) drawn may (still (Pooled q) same)
      keeps-open (Theirs name) same = goes_on-refl (begun_at (Theirs name) acts) (owned.numbers (Theirs name)).rising
      keeps-open (Ours spir c) same = by_case (begun_open (Ours spir c) drawn) refl
        where
          by_case : (x : Option Holding) → begun_open (Ours spir c) drawn ≡ x → Keeps (effect_begun (Half drawn) x) (holding_at (Ours spir c) acts) (column_at (Ours spir c) acts old) (column (Ours spir c) (with_begun x (begun_at (Ours spir c) acts)) new)
          by_case None e = still (Ours spir c) same
          by_case (Some h) e =
              let it = opened-is (Ours spir c) drawn h e in
              let none : begun_at (Ours spir c) acts ≡ nothing = subst (λ q. begun_at q acts ≡ nothing) (sym it.at) (unbegun-drawn counter.Iv) in
              let absent : entry_of spir old.entries ≡ None = subst (λ n. entry_of n old.entries ≡ None) (sym (ours-spir spir drawn c counter.Iv it.at)) no_entry in
              let was : column_at (Ours spir c) acts old ≡ nothing = ap (column_ours c (begun_at (Ours spir c) acts)) absent ∙ none in
              let now : column (Ours spir c) (column_begun h (begun_at (Ours spir c) acts)) new ≡ column_begun h nothing =
              ap (λ (b : Book). column_ours c (column_begun h (begun_at (Ours spir c) acts)) (entry_of spir b.entries)) same ∙ (ap (column_ours c (column_begun h (begun_at (Ours spir c) acts))) absent ∙ ap (λ (begun : Column). column_begun h begun) none) in
              subst (λ was. Keeps (Begins (Half drawn) h) (holding_at (Ours spir c) acts) was (column (Ours spir c) (column_begun h (begun_at (Ours spir c) acts)) new)) (sym was)
              (subst (λ now. Keeps (Begins (Half drawn) h) (holding_at (Ours spir c) acts) nothing now) (sym now)
              (keeps-first (holding_at (Ours spir c) acts) (Half drawn) h (subst (λ x. IsFirstHolding x) (sym it.is) half-first)))

    keeps-start : (p : Place) (sa : Record) → ((c : Counter) → begun_at (Theirs (peer_counter sa c)) acts ≡ nothing) → new ≡ old → Keeps (effect_begun w (begun_started p sa)) (holding_at p acts) (column_at p acts old) (column p (with_begun (begun_started p sa) (begun_at p acts)) new)
    keeps-start (Ours spir c) sa may same = still (Ours spir c) same
    keeps-start (Pooled q) sa may same = still (Pooled q) same
    keeps-start (Theirs name) sa may same = keeps-begun (holding_at (Theirs name) acts) w (begun_named name sa) (begun_at (Theirs name) acts) (owned.numbers (Theirs name)).rising
        (λ h is. (let it = begun-is name sa h is in subst (λ n. begun_at (Theirs n) acts ≡ nothing) (sym it.named) (may it.counter), begun-first name sa h is))

    keeps-leap : (p q : Place) (n : ℕ) → ColumnGoesOn (column_at p acts old) (column_at p acts new) → Keeps (if is_place q p then Jumps w n else Nothing) (holding_at p acts) (column_at p acts old) (column_at p acts new)
    keeps-leap p q n goes = by_test (is_place q p)
      where
        by_test : (b : Bool) → Keeps (if b then Jumps w n else Nothing) (holding_at p acts) (column_at p acts old) (column_at p acts new)
        by_test true = goes
        by_test false = goes

    -- what a move does at a place
    pub keeps-move : (p : Place) (move : Move) → MayDo acts w move → WritesBook old move new → Keeps (effect_of p (begun_at p acts) w move) (holding_at p acts) (column_at p acts old) (column p (begun_after move p (begun_at p acts)) new)
    keeps-move p (Calls call) may writes = keeps-call (λ q. (owned.numbers q).rising) (λ q h holds. ((owned.numbers q).holdings w h holds).end) free-call unbegun-other owned.entered p call may writes
    keeps-move p (Uses q n) may writes = keeps-use p q n may (still p writes)
    keeps-move p (Seals key) may writes = keeps-use p (place_of key.name) key.iv may (still p writes)
    keeps-move p (Leaps q n) may writes = keeps-leap p q n (still p writes)
    keeps-move p (Opens ticket made) may writes = keeps-open made.spir may p writes
    keeps-move p (Starts sa) may writes = keeps-start p sa may writes
    keeps-move p Ends may writes = still p writes
