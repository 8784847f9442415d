-- Every move keeps what is owned.
use Rattle.keeper_book.specs.declared.faults.KeeperFault.TheVariants as fault
use Rattle.keeper_book.specs.declared.records.Taken.{Taken}
use Rattle.keeper_book.specs.declared.calls.KeeperAnswer.TheVariants as answer
use Rattle.std.proofs.lemmas.List.{length-map}
use Rattle.turn_rules.specs.Held.{first_some, is_counter, granted, covered, is_named}
use Rattle.keeper_book.specs.declared.records.Record.{Record}
use Rattle.keeper_book.specs.declared.calls.KeeperAnswer.{KeeperAnswer}
use Rattle.std.proofs.Common.{◌≡◌, ℕ, ◌+◌, ◌≤◌, ◌==◌, Bool, true, false, Option, Some, None, List, [], ◌∷◌, length, map, refl, ap, sym, ◌∙◌, subst, arith, if◌then◌else◌, ◌&&◌, ◌≢◌}
use Rattle.std.proofs.lemmas.Bool.{eqb-true}
use Rattle.std.specs.Prelude.{is_some}
use Rattle.keeper_book.specs.Book.{Book, empty, Enters, Entry, entry_of, pool_next, refusal, Answers}
use Rattle.ha_base.specs.declared.counter_names.CounterName.{CounterName}
use Rattle.keeper_book.specs.Counters.{counter_named, five_at}
use Rattle.keeper_book.specs.Records.{spir_of_origin}
use Rattle.keeper_book.specs.Told.{seen}
use Rattle.keeper_book.specs.declared.calls.Call.{Call}
use Rattle.keeper_book.specs.declared.calls.KeeperAsk.{KeeperAsk}
use Rattle.keeper_book.specs.declared.calls.KeeperAsk.TheVariants as ask
use Rattle.keeper_book.specs.declared.counters.Counter.{Counter}
use Rattle.keeper_book.specs.declared.counters.Counter.TheVariants as counter
use Rattle.turn_laws.proofs.Books.{shows-taken}
use Rattle.turn_laws.proofs.Columns.{rising-none, goes_on-refl, goes_on-trans, rising-one}
use Rattle.turn_laws.proofs.Holdings.{owned-after, keeps-goes, differ, is_actor-same}
use Rattle.turn_laws.specs.Acts.{Act, Calls, Ends, IsUnstarted, Leaps, MayAsk, MayDo, Move, Opens, Seals, Starts, Uses, act_by, begun_after, begun_at, begun_by, begun_called, begun_named, begun_open, column_at, effect_begun, effect_of, effect_of_use, entered_as, holding_at, uses_at, with_begun, Opened, opened_by, settled_as, opened_at, effect_ours, effect_of_ours, half_begun, HoldsFor}
use Rattle.turn_laws.specs.Columns.{nothing, ColumnGoesOn, Column}
use Rattle.turn_laws.specs.Holdings.{Actor, Holding, IsNotIn, IsOwned, Jumps, Nothing, uses_after, Effect, Draws, holding_after, Half, column_begun, Passes, is_actor}
use Rattle.turn_laws.specs.Owned.{Lawful, Owned, WritesBook, column_half, IsFirstUnheld}
use Rattle.turn_laws.specs.Places.{Ours, Place, Pooled, Theirs, column, is_place, place_of, column_ours}
use Rattle.turn_laws.proofs.Begun.{entered-has, fewer-used, none-before}
use Rattle.turn_laws.proofs.Keeping.{keeps-move, column_half-none, unbegun-drawn, no_entry}
use Rattle.keeper_book.specs.Pools.{pool_end}
use Rattle.keeper_book.specs.declared.pools.Pool.{Pool}
use Rattle.keeper_book.specs.declared.pools.Pool.TheVariants as pools
use Rattle.turn_laws.proofs.MoveCases.{same-entries, and-false, other_counter, IsLaterEffect, first-before, none_some, settles-by}
use Rattle.turn_laws.proofs.BookMoves.{kept-entry, pools-move, recorded-move, starts-move}

module _ (acts : List Act) (old new : Book) (w : Actor) where
  module _ (owned : Owned acts old) where
    abbrev nonces_after : Move → List ℕ
    nonces_after move = map (λ u. u.number) (uses_after (effect_of (Pooled pools.Nonce) (begun_at (Pooled pools.Nonce) acts) w move) (holding_at (Pooled pools.Nonce) acts) (uses_at (Pooled pools.Nonce) acts))

    opened-other : (move : Move) → ((spir : ℕ) → None ≡ opened_by spir move) → (spir : ℕ) → IsNotIn spir (nonces_after move) → first_some (opened_by spir move) (opened_at spir acts) ≡ None
    opened-other move none spir unused = subst (λ x. first_some x (opened_at spir acts) ≡ None) (none spir)
        (owned.opened spir (fewer-used (effect_of (Pooled pools.Nonce) (begun_at (Pooled pools.Nonce) acts) w move) (holding_at (Pooled pools.Nonce) acts) (uses_at (Pooled pools.Nonce) acts) spir unused))

    opened-move : (move : Move) (spir : ℕ) → IsNotIn spir (nonces_after move) → first_some (opened_by spir move) (opened_at spir acts) ≡ None
    opened-move (Opens ticket made) spir unused = by_test (made.spir == spir) refl
      where
        by_test : (b : Bool) → (made.spir == spir) ≡ b → first_some (if b then Some (record { ticket = ticket; made = made }) else None) (opened_at spir acts) ≡ None
        by_test true t = absurd (unused.0 (eqb-true made.spir spir t))
        by_test false t = owned.opened spir unused.1
    opened-move (Calls call) spir unused = opened-other (Calls call) (λ s. refl) spir unused
    opened-move (Uses q n) spir unused = opened-other (Uses q n) (λ s. refl) spir unused
    opened-move (Seals key) spir unused = opened-other (Seals key) (λ s. refl) spir unused
    opened-move (Leaps q n) spir unused = opened-other (Leaps q n) (λ s. refl) spir unused
    opened-move (Starts sa) spir unused = opened-other (Starts sa) (λ s. refl) spir unused
    opened-move Ends spir unused = opened-other Ends (λ s. refl) spir unused

    -- and has its first IVs
    begun-move : (move : Move) → MayDo acts w move → (spir : ℕ) (c : Counter) → begun_after move (Ours spir c) (begun_at (Ours spir c) acts) ≡ column_half c (first_some (opened_by spir move) (opened_at spir acts))
    begun-move (Opens ticket made) may spir c = by_test (made.spir == spir) refl
      where
        opened : Opened
        opened = record { ticket = ticket; made = made }

        begins : begun_at (Ours spir c) acts ≡ nothing → (d : Counter) → c ≡ d → with_begun (if is_counter counter.Iv d then Some half_begun else None) (begun_at (Ours spir c) acts) ≡ column_half d (Some opened)
        begins none counter.Iv is = ap (λ (begun : Column). column_begun half_begun begun) none
        begins none counter.EspOut is = none
        begins none counter.EspIn is = none
        begins none counter.Ask is = none
        begins none counter.Answer is = none

        by_test : (b : Bool) → (made.spir == spir) ≡ b → with_begun (if b && is_counter counter.Iv c then Some half_begun else None) (begun_at (Ours spir c) acts) ≡ column_half c (first_some (if b then Some opened else None) (opened_at spir acts))
        by_test true t = begins (subst (λ n. begun_at (Ours n c) acts ≡ nothing) (eqb-true made.spir spir t) (unbegun-drawn acts old new w owned made.spir may c)) c refl
        by_test false t = owned.begun spir c
    begun-move (Calls call) may spir c = owned.begun spir c
    begun-move (Uses q n) may spir c = owned.begun spir c
    begun-move (Seals key) may spir c = owned.begun spir c
    begun-move (Leaps q n) may spir c = owned.begun spir c
    begun-move (Starts sa) may spir c = owned.begun spir c
    begun-move Ends may spir c = owned.begun spir c

    -- from which the book goes on
    goes-move : (move : Move) → MayDo acts w move → WritesBook old move new → (spir : ℕ) → ColumnGoesOn (begun_after move (Ours spir counter.Iv) (begun_at (Ours spir counter.Iv) acts)) (column (Ours spir counter.Iv) (begun_after move (Ours spir counter.Iv) (begun_at (Ours spir counter.Iv) acts)) new)
    goes-move move may writes spir = by_move move refl
      where
        p : Place
        p = Ours spir counter.Iv

        goes : ColumnGoesOn (column_at p acts old) (column p (begun_after move p (begun_at p acts)) new)
        goes = keeps-goes (effect_of p (begun_at p acts) w move) (holding_at p acts) (column_at p acts old) (column p (begun_after move p (begun_at p acts)) new) (keeps-move acts old new w owned p move may writes)

        same : begun_after move p (begun_at p acts) ≡ begun_at p acts → ColumnGoesOn (begun_after move p (begun_at p acts)) (column p (begun_after move p (begun_at p acts)) new)
        same is = subst (λ begun. ColumnGoesOn begun (column p (begun_after move p (begun_at p acts)) new)) (sym is) (goes_on-trans (begun_at p acts) (column_at p acts old) (column p (begun_after move p (begun_at p acts)) new) (owned.goes_on spir) goes)

        by_move : (m : Move) → move ≡ m → ColumnGoesOn (begun_after move p (begun_at p acts)) (column p (begun_after move p (begun_at p acts)) new)
        by_move (Opens ticket made) is = by_test (made.spir == spir) refl
          where
            may_open : HoldsFor (holding_at (Pooled pools.Nonce) acts w) made.spir
            may_open = subst (λ m. MayDo acts w m) is may

            by_test : (b : Bool) → (made.spir == spir) ≡ b → ColumnGoesOn (begun_after move p (begun_at p acts)) (column p (begun_after move p (begun_at p acts)) new)
            by_test false t = same (ap (λ m. begun_after m p (begun_at p acts)) is ∙ ap (λ b. with_begun (if b && true then Some half_begun else None) (begun_at p acts)) t)
            by_test true t =
                let at : made.spir ≡ spir = eqb-true made.spir spir t in
                let absent : entry_of spir new.entries ≡ None = ap (λ es. entry_of spir es) (same-entries old new (Opens ticket made) tt (subst (λ m. WritesBook old m new) is writes)) ∙ subst (λ n. entry_of n old.entries ≡ None) at (no_entry acts old new w owned made.spir may_open) in
                let none : begun_at p acts ≡ nothing = subst (λ n. begun_at (Ours n counter.Iv) acts ≡ nothing) at (unbegun-drawn acts old new w owned made.spir may_open counter.Iv) in
                let begun : begun_after move p (begun_at p acts) ≡ column_begun half_begun nothing = ap (λ m. begun_after m p (begun_at p acts)) is ∙ (ap (λ b. with_begun (if b && true then Some half_begun else None) (begun_at p acts)) t ∙ ap (λ (x : Column). column_begun half_begun x) none) in
                let all : column p (begun_after move p (begun_at p acts)) new ≡ column_begun half_begun nothing = ap (column_ours counter.Iv (begun_after move p (begun_at p acts))) absent ∙ begun in
                subst (λ x. ColumnGoesOn x (column p (begun_after move p (begun_at p acts)) new)) (sym begun)
                (subst (λ x. ColumnGoesOn (column_begun half_begun nothing) x) (sym all)
                (goes_on-refl (column_begun half_begun nothing) (rising-one half_begun.base half_begun.high half_begun.end (omega arith))))
        by_move (Calls call) is = same (ap (λ m. begun_after m p (begun_at p acts)) is)
        by_move (Uses q n) is = same (ap (λ m. begun_after m p (begun_at p acts)) is)
        by_move (Seals key) is = same (ap (λ m. begun_after m p (begun_at p acts)) is)
        by_move (Leaps q n) is = same (ap (λ m. begun_after m p (begun_at p acts)) is)
        by_move (Starts sa) is = same (ap (λ m. begun_after m p (begun_at p acts)) is)
        by_move Ends is = same (ap (λ m. begun_after m p (begun_at p acts)) is)

    -- nothing but a settle begins the first epoch of an association that was half open
    begins-later : (spir : ℕ) (o : Opened) → opened_at spir acts ≡ Some o → (e : Entry) → entry_of spir old.entries ≡ Some e → 1 ≤ length e.bases
    begins-later spir o is e found =
        let begun : begun_at (Ours spir counter.Iv) acts ≡ column_half counter.Iv (Some o) = owned.begun spir counter.Iv ∙ ap (column_half counter.Iv) is in
        let first : 1 ≤ length (begun_at (Ours spir counter.Iv) acts).bases = subst (λ (x : Column). 1 ≤ length x.bases) (sym begun) (omega arith) in
        let more : length (begun_at (Ours spir counter.Iv) acts).bases ≤ length (column_at (Ours spir counter.Iv) acts old).bases = (owned.goes_on spir).no_shorter in
        let count : length (column_at (Ours spir counter.Iv) acts old).bases ≡ length e.bases = ap (λ x. length (column_ours counter.Iv (begun_at (Ours spir counter.Iv) acts) x).bases) found ∙ length-map e.bases (λ five. five_at five counter.Iv) in
        omega arith

    later-called : (spir : ℕ) (o : Opened) → opened_at spir acts ≡ Some o → (c : Counter) (asked : KeeperAsk) (answered : KeeperAnswer) → Answers old asked answered new → IsLaterEffect (effect_ours w c (granted spir asked answered) (covered spir c asked answered))
    later-called spir o is c (ask.TakeOver asked member) (answer.Taken taken) a = by_test (asked == spir) refl
      where
        by_test : (b : Bool) → (asked == spir) ≡ b → IsLaterEffect (effect_ours w c (if b then Some taken else None) None)
        by_test true t =
            let shows = shows-taken taken (entry_of asked old.entries) (refusal old (ask.TakeOver asked member)) a.0 in
            let some : 1 ≤ length shows.entry.bases = begins-later spir o is shows.entry (ap (λ n. entry_of n old.entries) (sym (eqb-true asked spir t)) ∙ shows.found) in
            let epoch : taken.epoch ≡ length shows.entry.bases + 1 = ap (λ (x : Taken). x.epoch) shows.is in
            λ first. absurd (omega (arith, first))
        by_test false t = tt
    later-called spir o is c (ask.Cover asked kind child epoch upto) answer.Done a = by_test ((asked == spir) && is_named c (counter_named kind child))
      where
        by_test : (b : Bool) → IsLaterEffect (effect_ours w c None (if b then Some upto else None))
        by_test true = tt
        by_test false = tt
    later-called spir o is c asked answered a = tt

    later-call : (spir : ℕ) (o : Opened) → opened_at spir acts ≡ Some o → (c : Counter) (call : Call) → Enters old call new → IsLaterEffect (effect_ours w c (granted spir call.asked (seen call)) (covered spir c call.asked (seen call)))
    later-call spir o is c call enters = by_test call.hidden refl
      where
        hidden : (asked : KeeperAsk) → IsLaterEffect (effect_ours w c (granted spir asked (answer.Refused fault.Failed)) (covered spir c asked (answer.Refused fault.Failed)))
        hidden (ask.Enter sa) = tt
        hidden (ask.TakeOver asked member) = tt
        hidden (ask.Cover asked kind child epoch upto) = tt
        hidden (ask.Lease pool count) = tt
        hidden (ask.Settle ticket asked sa member) = tt
        hidden (ask.Look ticket) = tt

        by_test : (b : Bool) → call.hidden ≡ b → IsLaterEffect (effect_ours w c (granted spir call.asked (seen call)) (covered spir c call.asked (seen call)))
        by_test true t = rw t (hidden call.asked)
        by_test false t = rw t (later-called spir o is c call.asked call.answer enters)

    later-use : (p q : Place) (n : ℕ) → IsLaterEffect (effect_of_use p q w n)
    later-use p q n = by_test (is_place q p)
      where
        by_test : (b : Bool) → IsLaterEffect (if b then Draws w n else Nothing)
        by_test true = tt
        by_test false = tt

    later-leap : (p q : Place) (n : ℕ) → IsLaterEffect (if is_place q p then Jumps w n else Nothing)
    later-leap p q n = by_test (is_place q p)
      where
        by_test : (b : Bool) → IsLaterEffect (if b then Jumps w n else Nothing)
        by_test true = tt
        by_test false = tt

    -- what holds the first epoch after an act that begins none held it before
    unheld-by : (spir : ℕ) (o : Opened) (g : Holding) (c : Counter) → opened_at spir acts ≡ Some o → (first other : Effect) → IsLaterEffect first → IsLaterEffect other → holding_after first (holding_at (Ours spir counter.Iv) acts) (Half spir) ≡ Some g → g.epoch ≡ 1 → c ≢ counter.Iv → IsFirstUnheld (holding_after other (holding_at (Ours spir c) acts))
    unheld-by spir o g c is first other begins_none none_other holds epoch apart v h has one =
        let half = first-before first (holding_at (Ours spir counter.Iv) acts) begins_none (Half spir) g holds epoch in
        let before = first-before other (holding_at (Ours spir c) acts) none_other v h has one in
        owned.unheld spir o half.0 c is half.1 half.2 apart v before.0 before.1 before.2

    unheld-call : (spir : ℕ) (o : Opened) (g : Holding) (c : Counter) → opened_at spir acts ≡ Some o → (call : Call) → MayAsk acts w call.asked → Enters old call new → (x : Option Record) → settled_as spir call.asked (seen call) ≡ x
        → holding_after (effect_of_ours w counter.Iv x (granted spir call.asked (seen call)) (covered spir counter.Iv call.asked (seen call))) (holding_at (Ours spir counter.Iv) acts) (Half spir) ≡ Some g → g.epoch ≡ 1 → c ≢ counter.Iv
        → IsFirstUnheld (holding_after (effect_of_ours w c x (granted spir call.asked (seen call)) (covered spir c call.asked (seen call))) (holding_at (Ours spir c) acts))
    unheld-call spir o g c is call may enters None e holds epoch apart = unheld-by spir o g c is
        (effect_ours w counter.Iv (granted spir call.asked (seen call)) (covered spir counter.Iv call.asked (seen call))) (effect_ours w c (granted spir call.asked (seen call)) (covered spir c call.asked (seen call)))
        (later-call spir o is counter.Iv call enters) (later-call spir o is c call enters) holds epoch apart
    unheld-call spir o g c is call may enters (Some sa) e holds epoch apart = absurd (passed (settles-by acts w spir call.asked (seen call) sa may e) holds)
      where
        passed : (sa.spir ≡ spir) × (w ≢ Half sa.spir) → holding_after (Passes (Half sa.spir) w) (holding_at (Ours spir counter.Iv) acts) (Half spir) ≡ Some g → ⊥
        passed so holds =
            let half : Half sa.spir ≡ Half spir = ap Half so.0 in
            let apart : is_actor w (Half spir) ≡ false = differ w (Half spir) (λ same. so.1 (same ∙ sym half)) in
            let here : is_actor (Half sa.spir) (Half spir) ≡ true = ap (λ v. is_actor v (Half spir)) half ∙ is_actor-same (Half spir) in
            none_some g (rw (apart, here) at holds)

    unheld-move : (move : Move) → MayDo acts w move → WritesBook old move new → (spir : ℕ) (o : Opened) (g : Holding) (c : Counter) → first_some (opened_by spir move) (opened_at spir acts) ≡ Some o → holding_after (effect_of (Ours spir counter.Iv) (begun_at (Ours spir counter.Iv) acts) w move) (holding_at (Ours spir counter.Iv) acts) (Half spir) ≡ Some g → g.epoch ≡ 1 → c ≢ counter.Iv
        → IsFirstUnheld (holding_after (effect_of (Ours spir c) (begun_at (Ours spir c) acts) w move) (holding_at (Ours spir c) acts))
    unheld-move (Calls call) may writes spir o g c is holds epoch apart = unheld-call spir o g c is call may writes (settled_as spir call.asked (seen call)) refl holds epoch apart
    unheld-move (Uses q n) may writes spir o g c is holds epoch apart = unheld-by spir o g c is (effect_of_use (Ours spir counter.Iv) q w n) (effect_of_use (Ours spir c) q w n) (later-use (Ours spir counter.Iv) q n) (later-use (Ours spir c) q n) holds epoch apart
    unheld-move (Seals key) may writes spir o g c is holds epoch apart = unheld-by spir o g c is (effect_of_use (Ours spir counter.Iv) (place_of key.name) w key.iv) (effect_of_use (Ours spir c) (place_of key.name) w key.iv) (later-use (Ours spir counter.Iv) (place_of key.name) key.iv) (later-use (Ours spir c) (place_of key.name) key.iv) holds epoch apart
    unheld-move (Leaps q n) may writes spir o g c is holds epoch apart = unheld-by spir o g c is (if is_place q (Ours spir counter.Iv) then Jumps w n else Nothing) (if is_place q (Ours spir c) then Jumps w n else Nothing) (later-leap (Ours spir counter.Iv) q n) (later-leap (Ours spir c) q n) holds epoch apart
    unheld-move (Starts sa) may writes spir o g c is holds epoch apart = owned.unheld spir o g c is holds epoch apart
    unheld-move Ends may writes spir o g c is holds epoch apart = owned.unheld spir o g c is holds epoch apart
    unheld-move (Opens ticket made) may writes spir o g c is holds epoch apart = by_test (made.spir == spir) refl
      where
        other : begun_open (Ours spir c) made.spir ≡ None
        other = ap (λ b. if (made.spir == spir) && b then Some half_begun else None) (other_counter c apart) ∙ ap (λ b. if b then Some half_begun else None) (and-false (made.spir == spir))

        unheld : IsFirstUnheld (holding_at (Ours spir c) acts) → IsFirstUnheld (holding_after (effect_begun (Half made.spir) (begun_open (Ours spir c) made.spir)) (holding_at (Ours spir c) acts))
        unheld none = subst (λ x. IsFirstUnheld (holding_after (effect_begun (Half made.spir) x) (holding_at (Ours spir c) acts))) (sym other) none

        by_test : (b : Bool) → (made.spir == spir) ≡ b → IsFirstUnheld (holding_after (effect_begun (Half made.spir) (begun_open (Ours spir c) made.spir)) (holding_at (Ours spir c) acts))
        by_test true t = unheld (λ v h has. nobody spir (eqb-true made.spir spir t) v h has)
          where
            nobody : (s : ℕ) → made.spir ≡ s → (v : Actor) (h : Holding) → holding_at (Ours s c) acts v ≡ Some h → h.epoch ≢ 1
            nobody s same v h has =
                let none : column_at (Ours made.spir c) acts old ≡ nothing = ap (column_ours c (begun_at (Ours made.spir c) acts)) (no_entry acts old new w owned made.spir may) ∙ unbegun-drawn acts old new w owned made.spir may c in
                let of = (owned.numbers (Ours made.spir c)).holdings v h (subst (λ n. holding_at (Ours n c) acts v ≡ Some h) (sym same) has) in
                let begun : h.epoch ≤ length nothing.bases = subst (λ (x : Column). h.epoch ≤ length x.bases) none of.begun in
                let some : 1 ≤ h.epoch = of.some in
                absurd (omega arith)
        by_test false t = unheld (owned.unheld spir o g c
            (ap (λ b. first_some (if b then Some (record { ticket = ticket; made = made }) else None) (opened_at spir acts)) (sym t) ∙ is)
            (ap (λ b. holding_after (effect_begun (Half made.spir) (if b && true then Some half_begun else None)) (holding_at (Ours spir counter.Iv) acts) (Half spir)) (sym t) ∙ holds) epoch apart)

    -- what the peer has is in the book, or was resumed
    entered-call : (name : CounterName) (spir : ℕ) → spir_of_origin name.origin ≡ Some spir → IsUnstarted name acts → (call : Call) → Enters old call new → entry_of spir new.entries ≡ None → with_begun (begun_called (Theirs name) (begun_at (Theirs name) acts) call.asked (seen call)) (begun_at (Theirs name) acts) ≡ nothing
    entered-call name spir of unstarted call enters none = by_case (begun_by name (entered_as call.asked (seen call))) refl
      where
        before : begun_at (Theirs name) acts ≡ nothing
        before = owned.entered name spir of unstarted (none-before old new call.asked call.answer enters spir none)

        by_case : (x : Option Holding) → begun_by name (entered_as call.asked (seen call)) ≡ x → with_begun x (begun_at (Theirs name) acts) ≡ nothing
        by_case None e = before
        by_case (Some h) e = absurd (entered-has old new name call h enters spir of e none)

    entered-move : (move : Move) → WritesBook old move new → (name : CounterName) (spir : ℕ) → spir_of_origin name.origin ≡ Some spir → IsUnstarted name (act_by w move ∷ acts) → entry_of spir new.entries ≡ None → begun_after move (Theirs name) (begun_at (Theirs name) acts) ≡ nothing
    entered-move (Calls call) writes name spir of unstarted none = entered-call name spir of unstarted.1 call writes none
    entered-move (Starts sa) writes name spir of unstarted none = by_case (begun_named name sa) refl
      where
        by_case : (x : Option Holding) → begun_named name sa ≡ x → with_begun x (begun_at (Theirs name) acts) ≡ nothing
        by_case None e = owned.entered name spir of unstarted.1 (kept-entry acts old new w owned (Starts sa) tt writes spir None none)
        by_case (Some h) e = let not : true ≡ false = sym (ap is_some e) ∙ unstarted.0 in absurd (cc)
    entered-move (Uses q n) writes name spir of unstarted none = owned.entered name spir of unstarted.1 (kept-entry acts old new w owned (Uses q n) tt writes spir None none)
    entered-move (Seals key) writes name spir of unstarted none = owned.entered name spir of unstarted.1 (kept-entry acts old new w owned (Seals key) tt writes spir None none)
    entered-move (Leaps q n) writes name spir of unstarted none = owned.entered name spir of unstarted.1 (kept-entry acts old new w owned (Leaps q n) tt writes spir None none)
    entered-move (Opens ticket made) writes name spir of unstarted none = owned.entered name spir of unstarted.1 (kept-entry acts old new w owned (Opens ticket made) tt writes spir None none)
    entered-move Ends writes name spir of unstarted none = owned.entered name spir of unstarted.1 (kept-entry acts old new w owned Ends tt writes spir None none)

    -- one move more
    pub owned-move : (move : Move) → MayDo acts w move → WritesBook old move new → Owned (record { by = w; move = move } ∷ acts) new
    owned-move move may writes = record {
      numbers = λ p. owned-after (holding_at p acts) (uses_at p acts) (column_at p acts old) (column p (begun_after move p (begun_at p acts)) new) (effect_of p (begun_at p acts) w move) (owned.numbers p) (keeps-move acts old new w owned p move may writes);
      starts = starts-move acts old new w owned move may writes;
      recorded = recorded-move acts old new w owned move may writes;
      within = pools-move acts old new w owned move may writes;
      opened = opened-move move;
      begun = begun-move move may;
      goes_on = goes-move move may writes;
      unheld = unheld-move move may writes;
      entered = entered-move move writes;
    }

owned-none : (held : Actor → Option Holding) (high end : ℕ) → ((w : Actor) → held w ≡ None) → IsOwned held [] (record { bases = []; high = high; end = end })
owned-none held high end none = record {
  rising = rising-none high end;
  holdings = λ w h e. let n : held w ≡ None = none w in absurd (cc);
  alone = λ w v h g e f same. let n : held w ≡ None = none w in absurd (cc);
  within = tt;
  known = λ w h e n not_in. tt;
  once = tt;
}

-- nothing is held of the empty book
pub owned-empty : Owned [] empty
owned-empty = record {
  numbers = numbers;
  starts = λ spir e found none. absurd (cc);
  recorded = λ spir e found. absurd (cc);
  within = within;
  opened = λ spir none. refl;
  begun = λ spir c. sym (column_half-none c);
  goes_on = λ spir. goes_on-refl nothing (rising-none 0 0);
  unheld = λ spir o g c is holds epoch apart v h has one. absurd (cc);
  entered = λ name spir of unstarted none. refl;
}
  where
    numbers : (p : Place) → IsOwned (holding_at p []) (uses_at p []) (column_at p [] empty)
    numbers (Ours spir c) = owned-none (λ w. None) 0 0 (λ w. refl)
    numbers (Theirs name) = owned-none (λ w. None) 0 0 (λ w. refl)
    numbers (Pooled q) = owned-none (λ w. None) (pool_next q empty) (pool_end q) (λ w. refl)

    within : (q : Pool) → pool_next q empty ≤ pool_end q
    within pools.Ticket = omega arith
    within pools.Nonce = omega arith

-- after any acts, each of which may come after those before it
pub owned-lawful : (acts : List Act) (book : Book) → Lawful acts book → Owned acts book
owned-lawful [] book is = subst (λ b. Owned [] b) (sym is) owned-empty
owned-lawful (act ∷ acts) book lawful = owned-move acts lawful.0 book act.by (owned-lawful acts lawful.0 lawful.1) act.move lawful.2 lawful.3
