-- What every move keeps of the book: where its highs start, whose records it has, and where its pools end.
use Rattle.turn_rules.specs.Held.{first_some, granted}
use Rattle.keeper_book.specs.declared.records.Record.{Record}
use Rattle.std.proofs.Common.{◌≡◌, ℕ, ◌≤◌, ◌==◌, Bool, true, false, Option, Some, None, MatchOption, List, [], ◌∷◌, ◌++◌, length, ⊎_elim, refl, ap, sym, ◌∙◌, subst, arith, if◌then◌else◌, inl, inr, ◌⊎◌}
use Rattle.std.proofs.lemmas.Bool.{eqb-true}
use Rattle.std.proofs.lemmas.Option.{same_Some}
use Rattle.std.specs.Option.{option_map}
use Rattle.keeper_book.specs.Book.{book_entered, Book, Enters, Entry, entry_of, fresh, pool_next, raised_at, refusal, taken_over, is_spent, settled, closed}
use Rattle.keeper_book.specs.Counters.{counter_named}
use Rattle.keeper_book.specs.declared.calls.Call.{Call}
use Rattle.keeper_book.specs.declared.calls.KeeperAsk.{KeeperAsk}
use Rattle.keeper_book.specs.declared.calls.KeeperAsk.TheVariants as ask
use Rattle.keeper_book.specs.declared.counters.Counter.{Counter}
use Rattle.turn_laws.proofs.BookRecords.{entry-record, record_in, IsOfAdded, record_of, of-kept}
use Rattle.turn_laws.proofs.Books.{ShowsCovered, answers-entry, shows-covered}
use Rattle.turn_laws.proofs.Entries.{entry_after, entry-entered}
use Rattle.turn_laws.proofs.Pools.{lease-within, shows-leased}
use Rattle.turn_laws.specs.Acts.{Act, Calls, Ends, IsImport, Leaps, MayAsk, MayCover, MayDo, Move, Opens, Seals, Starts, Uses, act_by, holding_at, Opened, opened_by, opened_at}
use Rattle.turn_laws.specs.Holdings.{Actor}
use Rattle.turn_laws.specs.Owned.{Owned, WritesBook, IsSettled}
use Rattle.turn_laws.specs.Places.{Ours}
use Rattle.turn_laws.proofs.Keeping.{unopened}
use Rattle.keeper_book.specs.Pools.{pool_end}
use Rattle.keeper_book.specs.declared.pools.Pool.{Pool}
use Rattle.turn_laws.proofs.MoveCases.{IsNoCall, move-cases, same-book, same-entries, spent-added, spent-kept}

module _ (acts : List Act) (old new : Book) (w : Actor) where
  module _ (owned : Owned acts old) where
    no_empty : {X : Type 0} (xs : List X) (x : X) → xs ++ x ∷ [] ≡ [] → ⊥
    no_empty [] x e = absurd (cc)
    no_empty (y ∷ ys) x e = absurd (cc)

    -- before the first epoch a call changes no high
    starts-entry : (spir : ℕ) (asked : KeeperAsk) → MayAsk acts w asked → refusal old asked ≡ None → (x : Option Entry) → entry_of spir old.entries ≡ x → (e : Entry) → entry_after spir asked x ≡ Some e → e.bases ≡ [] → e.highs ≡ e.sa.starts
    starts-entry spir (ask.Enter sa) may granted (Some f) is e found none = owned.starts spir e (is ∙ found) none
    starts-entry spir (ask.Enter sa) may granted None is e found none = by_test (sa.spir == spir) found
      where
        by_test : (b : Bool) → (if b then Some (fresh sa) else None) ≡ Some e → e.highs ≡ e.sa.starts
        by_test true found = subst (λ (x : Entry). x.highs ≡ x.sa.starts) (same_Some (fresh sa) e found) refl
        by_test false found = absurd (cc)
    starts-entry spir (ask.TakeOver asked member) may granted x is e found none = by_test (asked == spir) x is found
      where
        by_test : (b : Bool) (x : Option Entry) → entry_of spir old.entries ≡ x → (if b then option_map (taken_over member) x else x) ≡ Some e → e.highs ≡ e.sa.starts
        by_test false x is found = owned.starts spir e (is ∙ found) none
        by_test true None is found = absurd (cc)
        by_test true (Some f) is found = absurd (no_empty f.bases f.highs (ap (λ (y : Entry). y.bases) (same_Some (taken_over member f) e found) ∙ none))
    starts-entry spir (ask.Cover asked kind child epoch upto) may granted x is e found none = by_test (asked == spir) refl found
      where
        -- a cover is granted in an epoch that began
        no_epoch : asked ≡ spir → (f : Entry) → entry_of spir old.entries ≡ Some f → f.bases ≡ [] → ⊥
        no_epoch same f found none = go (shows-covered (entry_of asked old.entries) (counter_named kind child) epoch granted) (counter_named kind child) may
          where
            go : ShowsCovered (entry_of asked old.entries) (counter_named kind child) epoch → (named : Option Counter) → MatchOption named ⊥ (λ c. MayCover (holding_at (Ours asked c) acts w) epoch upto) → ⊥
            go shows None may = may
            go shows (Some c) may =
                let some : 1 ≤ may.holding.epoch = ((owned.numbers (Ours asked c)).holdings w may.holding may.holds).some in
                let at : may.holding.epoch ≡ epoch = may.in_epoch in
                let entry : shows.entry ≡ f = same_Some shows.entry f (sym shows.found ∙ (ap (λ n. entry_of n old.entries) same ∙ found)) in
                let last : epoch ≡ length f.bases = shows.is_last ∙ ap (λ (y : Entry). length y.bases) entry in
                let zero : length f.bases ≡ 0 = ap length none in
                absurd (omega arith)

        bases_kept : (d : Option Counter) (f : Entry) → (raised_at d upto f).bases ≡ f.bases
        bases_kept None f = refl
        bases_kept (Some d) f = refl

        raised_case : (same : asked ≡ spir) (x : Option Entry) → entry_of spir old.entries ≡ x → option_map (raised_at (counter_named kind child) upto) x ≡ Some e → e.highs ≡ e.sa.starts
        raised_case same None is found = absurd (cc)
        raised_case same (Some f) is found = absurd (no_epoch same f is (sym (bases_kept (counter_named kind child) f) ∙ (ap (λ (y : Entry). y.bases) (same_Some (raised_at (counter_named kind child) upto f) e found) ∙ none)))

        by_test : (b : Bool) → (asked == spir) ≡ b → (if asked == spir then option_map (raised_at (counter_named kind child) upto) x else x) ≡ Some e → e.highs ≡ e.sa.starts
        by_test true t found = raised_case (eqb-true asked spir t) x is (rw t at found)
        by_test false t found = owned.starts spir e (is ∙ (rw t at found)) none
    starts-entry spir (ask.Lease pool count) may granted x is e found none = owned.starts spir e (is ∙ found) none
    starts-entry spir (ask.Settle ticket asked sa member) may granted x is e found none = by_test (asked == spir) (sa.spir == spir) x is found
      where
        settles : settled sa member ≡ e → e.highs ≡ e.sa.starts
        settles same = absurd (go (ap (λ (y : Entry). y.bases) same ∙ none))
          where
            go : sa.starts ∷ [] ≡ [] → ⊥
            go e = cc

        by_test : (b d : Bool) (x : Option Entry) → entry_of spir old.entries ≡ x → first_some (if b then option_map closed x else x) (if d then Some (settled sa member) else None) ≡ Some e → e.highs ≡ e.sa.starts
        by_test true d (Some f) is found =
            let kept : closed f ≡ e = same_Some (closed f) e found in
            subst (λ (y : Entry). y.highs ≡ y.sa.starts) kept (owned.starts spir f is (ap (λ (y : Entry). y.bases) kept ∙ none))
        by_test false d (Some f) is found = owned.starts spir e (is ∙ found) none
        by_test true true None is found = settles (same_Some (settled sa member) e found)
        by_test false true None is found = settles (same_Some (settled sa member) e found)
        by_test true false None is found = absurd (cc)
        by_test false false None is found = absurd (cc)
    starts-entry spir (ask.Look ticket) may granted x is e found none = owned.starts spir e (is ∙ found) none

    starts-call : (call : Call) → MayAsk acts w call.asked → Enters old call new → (spir : ℕ) (e : Entry) → entry_of spir new.entries ≡ Some e → e.bases ≡ [] → e.highs ≡ e.sa.starts
    starts-call call may enters spir e found none = ⊎_elim
        (λ same. owned.starts spir e (sym (ap (λ (b : Book). entry_of spir b.entries) same) ∙ found) none)
        (λ has. starts-entry spir call.asked may has.granted (entry_of spir old.entries) refl e
        (sym (entry-entered spir old call.asked) ∙ (sym (ap (λ (b : Book). entry_of spir b.entries) has.is) ∙ found)) none)
        (answers-entry old new call.asked call.answer enters)

    -- a move that is no call leaves the associations of the book
    pub kept-entry : (move : Move) → IsNoCall move → WritesBook old move new → (spir : ℕ) (x : Option Entry) → entry_of spir new.entries ≡ x → entry_of spir old.entries ≡ x
    kept-entry move none writes spir x found = sym (ap (entry_of spir) (same-entries old new move none writes)) ∙ found

    pub starts-move : (move : Move) → MayDo acts w move → WritesBook old move new → (spir : ℕ) (e : Entry) → entry_of spir new.entries ≡ Some e → e.bases ≡ [] → e.highs ≡ e.sa.starts
    starts-move move may writes spir e found none = move-cases move
        (λ call is. starts-call call (subst (λ m. MayDo acts w m) is may) (subst (λ m. WritesBook old m new) is writes) spir e found none)
        (λ no. owned.starts spir e (kept-entry move no writes spir (Some e) found) none)

    -- what got half open did so under its own SPI alone
    opened-kept : (move : Move) → MayDo acts w move → (spir : ℕ) (o : Opened) → opened_at spir acts ≡ Some o → first_some (opened_by spir move) (opened_at spir acts) ≡ Some o
    opened-kept (Opens ticket made) may spir o is = by_test (made.spir == spir) refl
      where
        by_test : (b : Bool) → (made.spir == spir) ≡ b → first_some (if b then Some (record { ticket = ticket; made = made }) else None) (opened_at spir acts) ≡ Some o
        by_test true t =
            let none : opened_at spir acts ≡ None = subst (λ n. opened_at n acts ≡ None) (eqb-true made.spir spir t) (unopened acts old new w owned made.spir may) in
            absurd (cc)
        by_test false t = is
    opened-kept (Calls call) may spir o is = is
    opened-kept (Uses q n) may spir o is = is
    opened-kept (Seals key) may spir o is = is
    opened-kept (Leaps q n) may spir o is = is
    opened-kept (Starts sa) may spir o is = is
    opened-kept Ends may spir o is = is

    -- what is recorded stays so
    abbrev IsRecordedBy : Move → Book → Record → Type 0
    IsRecordedBy move book sa = IsImport sa ⊎ IsSettled (act_by w move ∷ acts) book sa

    recorded-kept : (move : Move) → MayDo acts w move → ((ticket : ℕ) → is_spent ticket old.spent ≡ true → is_spent ticket new.spent ≡ true) → (sa : Record) → IsImport sa ⊎ IsSettled acts old sa → IsRecordedBy move new sa
    recorded-kept move may spends sa was = ⊎_elim inl (λ settled. inr (record {
      opened = settled.opened;
      is_its = opened-kept move may sa.spir settled.opened settled.is_its;
      its_record = settled.its_record;
      spent = spends settled.opened.ticket settled.spent;
    })) was

    recorded-call : (call : Call) → MayAsk acts w call.asked → Enters old call new → (spir : ℕ) (e : Entry) → entry_of spir new.entries ≡ Some e → IsRecordedBy (Calls call) new e.sa
    recorded-call call may enters spir e found = of-kept old (IsRecordedBy (Calls call) new) new call.asked call.answer enters (λ is. added call.asked may is) spir e.sa had (ap record_in found)
      where
        spends : (ticket : ℕ) → is_spent ticket old.spent ≡ true → is_spent ticket new.spent ≡ true
        spends = spent-kept old new call.asked call.answer enters

        added : (asked : KeeperAsk) → MayAsk acts w asked → new ≡ book_entered old asked → IsOfAdded old (IsRecordedBy (Calls call) new) asked
        added (ask.Enter sa) may is = inl may.0
        added (ask.TakeOver asked member) may is = tt
        added (ask.Cover asked kind child epoch upto) may is = tt
        added (ask.Lease pool count) may is = tt
        added (ask.Settle ticket asked sa member) may is = inr (record {
          opened = may.opened;
          is_its = may.is_its;
          its_record = may.its_record;
          spent = ap (λ t. is_spent t new.spent) may.its_ticket ∙ (ap (λ (b : Book). is_spent ticket b.spent) is ∙ spent-added ticket old.spent);
        })
        added (ask.Look ticket) may is = tt

        had : record_of old spir ≡ Some e.sa → IsRecordedBy (Calls call) new e.sa
        had is = let entry = entry-record (entry_of spir old.entries) e.sa is in
            recorded-kept (Calls call) may spends e.sa (subst (λ x. IsImport x ⊎ IsSettled acts old x) entry.2 (owned.recorded spir entry.0 entry.1))

    pub recorded-move : (move : Move) → MayDo acts w move → WritesBook old move new → (spir : ℕ) (e : Entry) → entry_of spir new.entries ≡ Some e → IsRecordedBy move new e.sa
    recorded-move move may writes spir e found = move-cases move
        (λ call is. subst (λ m. IsRecordedBy m new e.sa) (sym is) (recorded-call call (subst (λ m. MayDo acts w m) is may) (subst (λ m. WritesBook old m new) is writes) spir e found))
        (λ no. recorded-kept move may (λ ticket is. ap (λ (b : Book). is_spent ticket b.spent) (same-book old new move no writes) ∙ is) e.sa (owned.recorded spir e (kept-entry move no writes spir (Some e) found)))

    -- no pool gets beyond its end
    pools-same : (q : Pool) → pool_next q new ≡ pool_next q old → pool_next q new ≤ pool_end q
    pools-same q same = let a : pool_next q old ≤ pool_end q = owned.within q in omega (arith, same)

    -- nor by a call that is granted
    pools-entered : (asked : KeeperAsk) → refusal old asked ≡ None → (q : Pool) → pool_next q (book_entered old asked) ≤ pool_end q
    pools-entered (ask.Enter sa) granted q = owned.within q
    pools-entered (ask.TakeOver asked member) granted q = owned.within q
    pools-entered (ask.Cover asked kind child epoch upto) granted q = owned.within q
    pools-entered (ask.Settle ticket asked sa member) granted q = owned.within q
    pools-entered (ask.Look ticket) granted q = owned.within q
    pools-entered (ask.Lease pool count) granted q = lease-within old (book_entered old (ask.Lease pool count)) pool (pool_next pool old) count (shows-leased pool count old.next granted) refl q (owned.within q)

    pub pools-move : (move : Move) → MayDo acts w move → WritesBook old move new → (q : Pool) → pool_next q new ≤ pool_end q
    pools-move (Calls call) may writes q = ⊎_elim
        (λ same. pools-same q (ap (pool_next q) same))
        (λ has. subst (λ (b : Book). pool_next q b ≤ pool_end q) (sym has.is) (pools-entered call.asked has.granted q))
        (answers-entry old new call.asked call.answer writes)
    pools-move (Uses place n) may writes q = pools-same q (ap (pool_next q) writes)
    pools-move (Seals key) may writes q = pools-same q (ap (pool_next q) writes)
    pools-move (Leaps place n) may writes q = pools-same q (ap (pool_next q) writes)
    pools-move (Opens ticket made) may writes q = pools-same q (ap (pool_next q) writes)
    pools-move (Starts sa) may writes q = pools-same q (ap (pool_next q) writes)
    pools-move Ends may writes q = pools-same q (ap (pool_next q) writes)
    -- what got half open was drawn
