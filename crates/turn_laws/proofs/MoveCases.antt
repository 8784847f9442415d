-- Moves that are calls and those that are none, and effects that begin no first epoch.
use Rattle.std.specs.List.{list_any}
use Rattle.keeper_book.specs.declared.calls.KeeperAnswer.TheVariants as answer
use Rattle.std.proofs.lemmas.List.Folds.{list_any-append}
use Rattle.turn_rules.specs.Held.{is_counter}
use Rattle.keeper_book.specs.declared.records.Record.{Record}
use Rattle.keeper_book.specs.declared.calls.KeeperAnswer.{KeeperAnswer}
use Rattle.std.proofs.Common.{◌≡◌, ℕ, ◌==◌, Bool, true, false, Option, Some, None, List, [], ◌∷◌, ◌++◌, ⊎_elim, refl, ap, sym, ◌∙◌, subst, if◌then◌else◌, ◌||◌, ◌&&◌, ◌≢◌}
use Rattle.std.proofs.lemmas.Bool.{eqb-true, eq-eqb}
use Rattle.std.proofs.lemmas.Option.{same_Some}
use Rattle.std.specs.Option.{option_map}
use Rattle.keeper_book.specs.Book.{book_entered, Book, is_spent, Answers}
use Rattle.keeper_book.specs.declared.calls.Call.{Call}
use Rattle.keeper_book.specs.declared.calls.KeeperAsk.{KeeperAsk}
use Rattle.keeper_book.specs.declared.calls.KeeperAsk.TheVariants as ask
use Rattle.keeper_book.specs.declared.counters.Counter.{Counter}
use Rattle.keeper_book.specs.declared.counters.Counter.TheVariants as counter
use Rattle.turn_laws.proofs.Books.{answers-entry}
use Rattle.turn_laws.specs.Acts.{Act, Calls, Ends, Leaps, MayAsk, Move, Opens, Seals, Starts, Uses, settled_as}
use Rattle.turn_laws.specs.Holdings.{Actor, Holding, Jumps, Nothing, Effect, Draws, holding_after, Half, Begins, Passes, is_actor, Rises, raised_to, drawn, jumped_to}
use Rattle.turn_laws.specs.Owned.{WritesBook}

abbrev pub IsNoCall : Move → Type 0
IsNoCall (Calls call) = ⊥
IsNoCall move = Unit {0}

pub move-cases : {P : Type 0} (move : Move) → ((call : Call) → move ≡ Calls call → P) → (IsNoCall move → P) → P
move-cases (Calls call) f g = f call refl
move-cases (Uses q n) f g = g tt
move-cases (Seals key) f g = g tt
move-cases (Leaps q n) f g = g tt
move-cases (Opens ticket made) f g = g tt
move-cases (Starts sa) f g = g tt
move-cases Ends f g = g tt

-- a move that is no call leaves the book
pub same-book : (old new : Book) (move : Move) → IsNoCall move → WritesBook old move new → new ≡ old
same-book old new (Calls call) none writes = absurd none
same-book old new (Uses q n) none writes = writes
same-book old new (Seals key) none writes = writes
same-book old new (Leaps q n) none writes = writes
same-book old new (Opens ticket made) none writes = writes
same-book old new (Starts sa) none writes = writes
same-book old new Ends none writes = writes

pub same-entries : (old new : Book) (move : Move) → IsNoCall move → WritesBook old move new → new.entries ≡ old.entries
same-entries old new move none writes = ap (λ (b : Book). b.entries) (same-book old new move none writes)

-- a ticket that was spent stays so
pub spent-more : (ticket : ℕ) (spent more : List ℕ) → is_spent ticket spent ≡ true → is_spent ticket (spent ++ more) ≡ true
spent-more ticket spent more is = list_any-append (λ t. t == ticket) spent more ∙ ap (λ b. b || list_any (λ t. t == ticket) more) is

pub spent-added : (ticket : ℕ) (spent : List ℕ) → is_spent ticket (spent ++ ticket ∷ []) ≡ true
spent-added ticket spent = list_any-append (λ t. t == ticket) spent (ticket ∷ []) ∙ (let here : (ticket == ticket) ≡ true = eq-eqb ticket ticket refl in rw here (or-true (list_any (λ t. t == ticket) spent)))
  where
    or-true : (b : Bool) → (b || true) ≡ true
    or-true true = refl
    or-true false = refl

pub spent-kept : (old new : Book) (asked : KeeperAsk) (answered : KeeperAnswer) → Answers old asked answered new → (ticket : ℕ) → is_spent ticket old.spent ≡ true → is_spent ticket new.spent ≡ true
spent-kept old new asked answered answers ticket is = ⊎_elim
    (λ same. ap (λ (b : Book). is_spent ticket b.spent) same ∙ is)
    (λ has. ap (λ (b : Book). is_spent ticket b.spent) has.is ∙ entered asked)
    (answers-entry old new asked answered answers)
  where
    entered : (asked : KeeperAsk) → is_spent ticket (book_entered old asked).spent ≡ true
    entered (ask.Enter sa) = is
    entered (ask.TakeOver asked member) = is
    entered (ask.Cover asked kind child epoch upto) = is
    entered (ask.Lease pool count) = is
    entered (ask.Settle spends asked sa member) = spent-more ticket old.spent (spends ∷ []) is
    entered (ask.Look looked) = is

pub and-false : (b : Bool) → (b && false) ≡ false
and-false true = refl
and-false false = refl

pub other_counter : (c : Counter) → c ≢ counter.Iv → is_counter counter.Iv c ≡ false
other_counter counter.EspOut other = refl
other_counter counter.EspIn other = refl
other_counter counter.Iv other = absurd (other refl)
other_counter counter.Ask other = refl
other_counter counter.Answer other = refl

-- an effect that begins no first epoch, and passes nothing on
abbrev pub IsLaterEffect : Effect → Type 0
IsLaterEffect (Begins w h) = h.epoch ≢ 1
IsLaterEffect (Passes w v) = ⊥
IsLaterEffect effect = Unit {0}

pub changed-before : (f : Holding → Holding) → ((x : Holding) → (f x).epoch ≡ x.epoch) → (b : Bool) (x : Option Holding) (h : Holding) → (if b then option_map f x else x) ≡ Some h → h.epoch ≡ 1 → (g : Holding) × (x ≡ Some g) × (g.epoch ≡ 1)
changed-before f keeps true None h is one = absurd (cc)
changed-before f keeps true (Some g) h is one = (g, refl, sym (keeps g) ∙ (ap (λ (x : Holding). x.epoch) (same_Some (f g) h is) ∙ one))
changed-before f keeps false x h is one = (h, is, one)

-- who holds a first epoch after it held one before
pub first-before : (effect : Effect) (held : Actor → Option Holding) → IsLaterEffect effect → (v : Actor) (h : Holding) → holding_after effect held v ≡ Some h → h.epoch ≡ 1 → (g : Holding) × (held v ≡ Some g) × (g.epoch ≡ 1)
first-before Nothing held later v h is one = (h, is, one)
first-before (Passes w u) held later v h is one = absurd later
first-before (Begins w g) held later v h is one = by_test (is_actor w v) is
  where
    by_test : (b : Bool) → (if b then Some g else held v) ≡ Some h → (g : Holding) × (held v ≡ Some g) × (g.epoch ≡ 1)
    by_test true is = absurd (later (ap (λ (x : Holding). x.epoch) (same_Some g h is) ∙ one))
    by_test false is = (h, is, one)
first-before (Rises w n) held later v h is one = changed-before (raised_to n) (λ x. refl) (is_actor w v) (held v) h is one
first-before (Draws w n) held later v h is one = changed-before (drawn n) (λ x. refl) (is_actor w v) (held v) h is one
first-before (Jumps w n) held later v h is one = changed-before (jumped_to n) (λ x. refl) (is_actor w v) (held v) h is one

pub none_some : (g : Holding) → None ≡ Some g → ⊥
none_some g e = cc

-- whom a settle is by, that was seen
pub settles-by : (acts : List Act) (w : Actor) (spir : ℕ) (asked : KeeperAsk) (answered : KeeperAnswer) (sa : Record) → MayAsk acts w asked → settled_as spir asked answered ≡ Some sa → (sa.spir ≡ spir) × (w ≢ Half sa.spir)
settles-by acts w spir (ask.Settle ticket asked given member) answer.Done sa may is = by_test (given.spir == spir) refl is
  where
    by_test : (b : Bool) → (given.spir == spir) ≡ b → (if b then Some given else None) ≡ Some sa → (sa.spir ≡ spir) × (w ≢ Half sa.spir)
    by_test true t is = let same : given ≡ sa = same_Some given sa is in subst (λ (x : Record). (x.spir ≡ spir) × (w ≢ Half x.spir)) same (eqb-true given.spir spir t, may.by_other)
    by_test false t is = absurd (cc)
settles-by acts w spir asked answered sa may is = absurd (cc)
