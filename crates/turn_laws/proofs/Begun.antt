-- What begins at a place, and what the book shows of it.
use Rattle.turn_laws.specs.Columns.{Column}
use Rattle.std.proofs.Common.{◌≡◌, ℕ, ◌<◌, ◌≤◌, ◌==◌, Bool, true, false, Option, Some, None, List, [], ◌∷◌, map, refl, ap, sym, ◌∙◌, subst, arith, if◌then◌else◌}
use Rattle.std.proofs.lemmas.Bool.{eqb-true, eq-eqb, and_parts}
use Rattle.std.proofs.lemmas.Option.{same_Some}
use Rattle.std.specs.List.{AllByRecursion}
use Rattle.keeper_book.specs.Book.{Answers, Book, Enters, Entry, entry_of, fresh, refusal}
use Rattle.ha_base.specs.declared.counter_names.CounterName.{CounterName}
use Rattle.keeper_book.specs.Counters.{counter_named}
use Rattle.keeper_book.specs.Records.{spir_of_origin}
use Rattle.keeper_book.specs.Told.{seen}
use Rattle.keeper_book.specs.declared.calls.Call.{Call}
use Rattle.keeper_book.specs.declared.calls.KeeperAnswer.{KeeperAnswer}
use Rattle.keeper_book.specs.declared.calls.KeeperAnswer.TheVariants as answer
use Rattle.keeper_book.specs.declared.calls.KeeperAsk.{KeeperAsk}
use Rattle.keeper_book.specs.declared.calls.KeeperAsk.TheVariants as ask
use Rattle.keeper_book.specs.declared.counters.Counter.{Counter}
use Rattle.keeper_book.specs.declared.counters.Counter.TheVariants as counter
use Rattle.keeper_book.specs.declared.records.Record.{Record}
use Rattle.keeper_book.specs.declared.faults.KeeperFault.{KeeperFault}
use Rattle.keeper_book.specs.declared.faults.KeeperFault.TheVariants as fault
use Rattle.turn_laws.proofs.BookRecords.{record_in, record_of, records-kept}
use Rattle.turn_laws.proofs.Books.{after-granted, shows-done, shows-entered}
use Rattle.turn_laws.proofs.Entries.{entry-entered, first-theirs, is_counter-true}
use Rattle.turn_laws.proofs.Firsts.{IsFirstHolding}
use Rattle.turn_rules.proofs.SlotTies.{all-weaker}
use Rattle.turn_laws.proofs.Pools.{is_pool-true}
use Rattle.turn_laws.proofs.Same.{is_name-true}
use Rattle.turn_laws.specs.Acts.{begun_as, begun_by, begun_called, begun_named, begun_open, begun_theirs, effect_of_call, entered_as, half_begun}
use Rattle.turn_laws.specs.Holdings.{Actor, Begins, Draws, Effect, Holding, IsNotIn, Jumps, Nothing, Passes, Rises, Use, uses_after}
use Rattle.turn_laws.specs.Names.{is_name}
use Rattle.turn_laws.specs.Places.{Ours, Place, Pooled, Theirs, is_place}
use Rattle.turn_rules.specs.Held.{first_some, is_counter, is_named}
use Rattle.turn_rules.specs.Slots.{peer_counter}

pub is_place-true : (p q : Place) → is_place p q ≡ true → p ≡ q
is_place-true (Ours a c) (Ours b d) e =
    let parts : ((a == b) ≡ true) × (is_counter c d ≡ true) = and_parts (a == b) (is_counter c d) e in
    ap (λ n. Ours n c) (eqb-true a b parts.0) ∙ ap (Ours b) (is_counter-true c d parts.1)
is_place-true (Theirs a) (Theirs b) e = ap Theirs (is_name-true a b e)
is_place-true (Pooled p) (Pooled q) e = ap Pooled (is_pool-true p q e)
is_place-true p q e = absurd (cc)

-- the counter that was covered
pub named-counter : (c : Counter) (named : Option Counter) → is_named c named ≡ true → named ≡ Some c
named-counter c None e = absurd (cc)
named-counter c (Some d) e = ap Some (sym (is_counter-true c d e))

-- what a call does at a place that was seen to fail
pub failed_effect : (w : Actor) (p : Place) (begun : Column) (asked : KeeperAsk) (why : KeeperFault) → Nothing ≡ effect_of_call p begun w asked (answer.Refused why)
failed_effect w (Ours spir c) begun (ask.Enter sa) why = refl
failed_effect w (Ours spir c) begun (ask.TakeOver asked member) why = refl
failed_effect w (Ours spir c) begun (ask.Cover asked kind child epoch upto) why = refl
failed_effect w (Ours spir c) begun (ask.Lease pool count) why = refl
failed_effect w (Ours spir c) begun (ask.Settle ticket asked sa member) why = refl
failed_effect w (Ours spir c) begun (ask.Look ticket) why = refl
failed_effect w (Pooled q) begun (ask.Enter sa) why = refl
failed_effect w (Pooled q) begun (ask.TakeOver asked member) why = refl
failed_effect w (Pooled q) begun (ask.Cover asked kind child epoch upto) why = refl
failed_effect w (Pooled q) begun (ask.Lease pool count) why = refl
failed_effect w (Pooled q) begun (ask.Settle ticket asked sa member) why = refl
failed_effect w (Pooled q) begun (ask.Look ticket) why = refl
failed_effect w (Theirs name) begun (ask.Enter sa) why = refl
failed_effect w (Theirs name) begun (ask.TakeOver asked member) why = refl
failed_effect w (Theirs name) begun (ask.Cover asked kind child epoch upto) why = refl
failed_effect w (Theirs name) begun (ask.Lease pool count) why = refl
failed_effect w (Theirs name) begun (ask.Settle ticket asked sa member) why = refl
failed_effect w (Theirs name) begun (ask.Look ticket) why = refl

pub failed_begins : (p : Place) (begun : Column) (asked : KeeperAsk) (why : KeeperFault) → None ≡ begun_called p begun asked (answer.Refused why)
failed_begins (Ours spir c) begun asked why = refl
failed_begins (Pooled q) begun (ask.Enter sa) why = refl
failed_begins (Pooled q) begun (ask.TakeOver asked member) why = refl
failed_begins (Pooled q) begun (ask.Cover asked kind child epoch upto) why = refl
failed_begins (Pooled q) begun (ask.Lease pool count) why = refl
failed_begins (Pooled q) begun (ask.Settle ticket asked sa member) why = refl
failed_begins (Pooled q) begun (ask.Look ticket) why = refl
failed_begins (Theirs name) begun (ask.Enter sa) why = refl
failed_begins (Theirs name) begun (ask.TakeOver asked member) why = refl
failed_begins (Theirs name) begun (ask.Cover asked kind child epoch upto) why = refl
failed_begins (Theirs name) begun (ask.Lease pool count) why = refl
failed_begins (Theirs name) begun (ask.Settle ticket asked sa member) why = refl
failed_begins (Theirs name) begun (ask.Look ticket) why = refl

-- the counter of an association that begins under a name
pub record IsBegun (name : CounterName) (sa : Record) (h : Holding) : Type 0 where
  pub counter : Counter
  pub named : name ≡ peer_counter sa counter
  pub is : h ≡ begun_theirs counter sa

pub begun-is : (name : CounterName) (sa : Record) (h : Holding) → begun_named name sa ≡ Some h → IsBegun name sa h
begun-is name sa h is = go (counter_named name.kind name.child) is
  where
    go : (x : Option Counter) → begun_as name sa x ≡ Some h → IsBegun name sa h
    go None is = absurd (cc)
    go (Some c) is = by_test (is_name (peer_counter sa c) name) refl is
      where
        by_test : (b : Bool) → is_name (peer_counter sa c) name ≡ b → (if b then Some (begun_theirs c sa) else None) ≡ Some h → IsBegun name sa h
        by_test true t is = record { counter = c; named = sym (is_name-true (peer_counter sa c) name t); is = sym (same_Some (begun_theirs c sa) h is) }
        by_test false t is = absurd (cc)

pub begun-spir : (name : CounterName) (sa : Record) (h : Holding) → begun_named name sa ≡ Some h → spir_of_origin name.origin ≡ Some sa.spir
begun-spir name sa h is = ap (λ (n : CounterName). spir_of_origin n.origin) (begun-is name sa h is).named ∙ sa.origin_is_own

pub begun-first : (name : CounterName) (sa : Record) (h : Holding) → begun_named name sa ≡ Some h → IsFirstHolding h
begun-first name sa h is = let it = begun-is name sa h is in subst (λ x. IsFirstHolding x) (sym it.is) (first-theirs sa it.counter)

pub half-first : IsFirstHolding half_begun
half-first = record { epoch = refl; rising = omega arith; from_base = omega arith; unused = refl }

-- what gets half open at a place
pub record IsOpened (p : Place) (drawn : ℕ) (h : Holding) : Type 0 where
  pub at : p ≡ Ours drawn counter.Iv
  pub is : h ≡ half_begun

pub opened-is : (p : Place) (drawn : ℕ) (h : Holding) → begun_open p drawn ≡ Some h → IsOpened p drawn h
opened-is (Theirs name) drawn h is = absurd (cc)
opened-is (Pooled q) drawn h is = absurd (cc)
opened-is (Ours spir c) drawn h is = by_test (is_place (Ours drawn counter.Iv) (Ours spir c)) refl is
  where
    by_test : (b : Bool) → is_place (Ours drawn counter.Iv) (Ours spir c) ≡ b → (if b then Some half_begun else None) ≡ Some h → IsOpened (Ours spir c) drawn h
    by_test true t is = record { at = sym (is_place-true (Ours drawn counter.Iv) (Ours spir c) t); is = sym (same_Some half_begun h is) }
    by_test false t is = absurd (cc)

-- no number of a list below a bound is one at or above it
pub below-not_in : (bound n : ℕ) (ns : List ℕ) → bound ≤ n → AllByRecursion (λ k. k < bound) ns → IsNotIn n ns
below-not_in bound n ns above all = all-weaker ns (λ k below same. absurd (let a : k < bound = below in omega arith)) all

-- what was used before a move was used after it
pub fewer-used : (e : Effect) (held : Actor → Option Holding) (us : List Use) (n : ℕ) → IsNotIn n (map (λ u. u.number) (uses_after e held us)) → IsNotIn n (map (λ u. u.number) us)
fewer-used Nothing held us n none = none
fewer-used (Begins w h) held us n none = none
fewer-used (Rises w k) held us n none = none
fewer-used (Jumps w k) held us n none = none
fewer-used (Passes w v) held us n none = none
fewer-used (Draws w k) held us n none = none.1

pub ours-spir : (a b : ℕ) (c d : Counter) → Ours a c ≡ Ours b d → a ≡ b
ours-spir a b c d same = ap spir_in same
  where
    spir_in : Place → ℕ
    spir_in (Ours spir c) = spir
    spir_in p = 0

pub entry-spir : (spir : ℕ) (es : List Entry) (e : Entry) → entry_of spir es ≡ Some e → e.sa.spir ≡ spir
entry-spir spir [] e found = absurd (cc)
entry-spir spir (f ∷ fs) e found = by_test (entry-spir spir fs e) (f.sa.spir == spir) refl found
  where
    by_test : (entry_of spir fs ≡ Some e → e.sa.spir ≡ spir) → (b : Bool) → (f.sa.spir == spir) ≡ b → (if b then Some f else entry_of spir fs) ≡ Some e → e.sa.spir ≡ spir
    by_test rest true t found = subst (λ (x : Entry). x.sa.spir ≡ spir) (same_Some f e found) (eqb-true f.sa.spir spir t)
    by_test rest false t found = rest found

-- an association that the book does not have it did not have before
pub none-before : (old new : Book) (asked : KeeperAsk) (answered : KeeperAnswer) → Answers old asked answered new → (spir : ℕ) → entry_of spir new.entries ≡ None → entry_of spir old.entries ≡ None
none-before old new asked answered answers spir none = go (entry_of spir old.entries) refl
  where
    go : (x : Option Entry) → entry_of spir old.entries ≡ x → x ≡ None
    go None e = refl
    go (Some f) e = let kept : record_of new spir ≡ Some f.sa = records-kept old new asked answered answers spir f.sa (ap record_in e) in let gone : record_of new spir ≡ None = ap record_in none in absurd (cc)

-- what was seen entered is in the book
pub entered-has : (old new : Book) (name : CounterName) (call : Call) (h : Holding) → Enters old call new → (spir : ℕ) → spir_of_origin name.origin ≡ Some spir → begun_by name (entered_as call.asked (seen call)) ≡ Some h → entry_of spir new.entries ≡ None → ⊥
entered-has old new name call h enters spir of is none = by_hidden call.hidden refl
  where
    by_answer : (asked : KeeperAsk) (answered : KeeperAnswer) → Answers old asked answered new → begun_by name (entered_as asked answered) ≡ Some h → ⊥
    by_answer (ask.Enter sa) answer.Done a is =
        let same : sa.spir ≡ spir = same_Some sa.spir spir (sym (begun-spir name sa h is) ∙ of) in
        let granted : refusal old (ask.Enter sa) ≡ None = shows-done (refusal old (ask.Enter sa)) a.0 in
        let was : entry_of sa.spir old.entries ≡ None = shows-entered sa old.entries granted in
        let here : (sa.spir == sa.spir) ≡ true = eq-eqb sa.spir sa.spir refl in
        let now : entry_of sa.spir new.entries ≡ Some (fresh sa) =
        ap (λ (b : Book). entry_of sa.spir b.entries) (after-granted old new (ask.Enter sa) granted a.1)
        ∙ (entry-entered sa.spir old (ask.Enter sa)
        ∙ (ap (λ o. first_some o (if sa.spir == sa.spir then Some (fresh sa) else None)) was
        ∙ ap (λ b. if b then Some (fresh sa) else None) here)) in
        let gone : entry_of sa.spir new.entries ≡ None = ap (λ n. entry_of n new.entries) same ∙ none in
        absurd (cc)
    by_answer (ask.Enter sa) (answer.Taken taken) a is = absurd (cc)
    by_answer (ask.Enter sa) (answer.First first) a is = absurd (cc)
    by_answer (ask.Enter sa) (answer.Look spent) a is = absurd (cc)
    by_answer (ask.Enter sa) (answer.Refused why) a is = absurd (cc)
    by_answer (ask.TakeOver asked member) answered a is = absurd (cc)
    by_answer (ask.Cover asked kind child epoch upto) answered a is = absurd (cc)
    by_answer (ask.Lease pool count) answered a is = absurd (cc)
    by_answer (ask.Settle ticket asked sa member) answered a is = absurd (cc)
    by_answer (ask.Look ticket) answered a is = absurd (cc)

    by_hidden : (b : Bool) → call.hidden ≡ b → ⊥
    by_hidden true t = none_seen call.asked (sym (ap (λ b. begun_by name (entered_as call.asked (if b then answer.Refused fault.Failed else call.answer))) t) ∙ is)
      where
        none_seen : (asked : KeeperAsk) → begun_by name (entered_as asked (answer.Refused fault.Failed)) ≡ Some h → ⊥
        none_seen (ask.Enter sa) is = absurd (cc)
        none_seen (ask.TakeOver asked member) is = absurd (cc)
        none_seen (ask.Cover asked kind child epoch upto) is = absurd (cc)
        none_seen (ask.Lease pool count) is = absurd (cc)
        none_seen (ask.Settle ticket asked sa member) is = absurd (cc)
        none_seen (ask.Look ticket) is = absurd (cc)
    by_hidden false t = by_answer call.asked call.answer enters (sym (ap (λ b. begun_by name (entered_as call.asked (if b then answer.Refused fault.Failed else call.answer))) t) ∙ is)
