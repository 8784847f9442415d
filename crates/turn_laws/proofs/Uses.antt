-- Moves that use numbers of places, each once.
use Rattle.std.proofs.Common.{◌≡◌, ◌≢◌, ℕ, Bool, true, false, Option, Some, None, List, [], ◌∷◌, refl, ap, sym, ◌∙◌, subst, if◌then◌else◌, ◌⊎◌, ⊎_elim}
use Rattle.std.specs.List.{AllByRecursion, cons_option, filter_map}
use Rattle.turn_laws.proofs.Acting.{MayDoMoves}
use Rattle.turn_laws.proofs.Listed.{moved, number_moved}
use Rattle.turn_laws.proofs.Lists.{all-both}
use Rattle.turn_laws.proofs.Begun.{is_place-true}
use Rattle.turn_laws.specs.Acts.{Act, HoldsFor, MayDo, Move, Seals, Uses, act_by, effect_of_use, holding_at}
use Rattle.turn_laws.specs.Holdings.{Actor, Draws, Nothing, holding_after}
use Rattle.turn_laws.specs.Places.{Place, is_place, place_of}
use Rattle.turn_rules.specs.Safe.{KeyIv}

-- the number is used as such, or it is the IV of a seal
pub data IsUse (p : Place) (n : ℕ) (move : Move) : Type 0 where
  Counts : move ≡ Uses p n → IsUse p n move
  Seals_it : (key : KeyIv) → place_of key.name ≡ p → key.iv ≡ n → move ≡ Seals key → IsUse p n move

-- a number of a place that is used
pub record Spent : Type 0 where
  pub place : Place
  pub number : ℕ

abbrev pub spent_of : Place → ℕ → Spent
spent_of p n = record { place = p; number = n }

-- each move uses one of them, in this order
abbrev pub AreUses : List Spent → List Move → Type 0
AreUses [] [] = Unit {0}
AreUses [] (move ∷ moves) = ⊥
AreUses (s ∷ ss) [] = ⊥
AreUses (s ∷ ss) (move ∷ moves) = IsUse s.place s.number move × AreUses ss moves

pub used-alone : (p : Place) (n : ℕ) (move : Move) (moves : List Move) → IsUse p n move → moves ≡ move ∷ [] → AreUses (spent_of p n ∷ []) moves
used-alone p n move moves one is = subst (λ ms. AreUses (spent_of p n ∷ []) ms) (sym is) (one, tt)

-- a number is one of these
abbrev pub IsAmong : Spent → List Spent → Type 0
IsAmong s [] = ⊥
IsAmong s (t ∷ ts) = (s ≡ t) ⊎ IsAmong s ts

-- what holds of all of these holds of those among them
among-holds : (P : Spent → Type 0) (s : Spent) (ts : List Spent) → AllByRecursion P ts → IsAmong s ts → P s
among-holds P s [] all is = absurd is
among-holds P s (t ∷ ts) all is = ⊎_elim (λ same. subst P (sym same) all.0) (λ more. among-holds P s ts all.1 more) is

pub all-among : (P : Spent → Type 0) (ss ts : List Spent) → AllByRecursion P ts → AllByRecursion (λ s. IsAmong s ts) ss → AllByRecursion P ss
all-among P [] ts all are = tt
all-among P (s ∷ ss) ts all are = (among-holds P s ts all are.0, all-among P ss ts all are.1)

-- no two of them are of one place
abbrev pub AreElsewhere : List Spent → Type 0
AreElsewhere [] = Unit {0}
AreElsewhere (s ∷ ss) = AllByRecursion (λ t. s.place ≢ t.place) ss × AreElsewhere ss

-- the number at a place that is used where this number of another place is
abbrev pub number_at : Place → Place → ℕ → Option ℕ
number_at p q n = if is_place q p then Some n else None

-- those of a place
abbrev pub spent_at : Place → List Spent → List ℕ
spent_at p ss = filter_map (λ s. number_at p s.place s.number) ss

pub uses-moved : (p : Place) (ss : List Spent) (moves : List Move) → AreUses ss moves → moved p moves ≡ spent_at p ss
uses-moved p [] [] uses = refl
uses-moved p [] (move ∷ moves) uses = absurd uses
uses-moved p (s ∷ ss) [] uses = absurd uses
uses-moved p (s ∷ ss) (move ∷ moves) uses = ap (cons_option (number_moved p move)) (uses-moved p ss moves uses.1) ∙ one uses.0
  where
    one : IsUse s.place s.number move → cons_option (number_moved p move) (spent_at p ss) ≡ cons_option (number_at p s.place s.number) (spent_at p ss)
    one (Counts is) = ap (λ m. cons_option (number_moved p m) (spent_at p ss)) is
    one (Seals_it key place iv is) =
        ap (λ m. cons_option (number_moved p m) (spent_at p ss)) is
        ∙ (ap (λ q. cons_option (number_at p q key.iv) (spent_at p ss)) place ∙ ap (λ n. cons_option (number_at p s.place n) (spent_at p ss)) iv)

-- the moves may be made by who may use the numbers
pub may-use : (w : Actor) (acts : List Act) (ss : List Spent) (moves : List Move) → AreUses ss moves → AreElsewhere ss → AllByRecursion (λ s. HoldsFor (holding_at s.place acts w) s.number) ss → MayDoMoves acts w moves
may-use w acts [] [] uses apart may = tt
may-use w acts [] (move ∷ moves) uses apart may = absurd uses
may-use w acts (s ∷ ss) [] uses apart may = absurd uses
may-use w acts (s ∷ ss) (move ∷ moves) uses apart may = (
  may_do uses.0 may.0,
  may-use w (act_by w move ∷ acts) ss moves uses.1 apart.1 (all-both ss (λ t other holds. subst (λ x. HoldsFor x t.number) (sym (left t other uses.0)) holds) apart.0 may.1),
)
  where
    may_do : IsUse s.place s.number move → HoldsFor (holding_at s.place acts w) s.number → MayDo acts w move
    may_do (Counts is) holds = rw is holds
    may_do (Seals_it key place iv is) holds = rw (is, place, iv) holds

    -- another place is left as it was
    other-place : (p q : Place) (n : ℕ) → q ≢ p → holding_after (effect_of_use p q w n) (holding_at p acts) w ≡ holding_at p acts w
    other-place p q n differs = by_test (is_place q p) refl
      where
        by_test : (b : Bool) → is_place q p ≡ b → holding_after (if b then Draws w n else Nothing) (holding_at p acts) w ≡ holding_at p acts w
        by_test true t = absurd (differs (is_place-true q p t))
        by_test false t = refl

    left : (t : Spent) → s.place ≢ t.place → IsUse s.place s.number move → holding_at t.place (act_by w move ∷ acts) w ≡ holding_at t.place acts w
    left t differs (Counts is) = ap (λ m. holding_at t.place (act_by w m ∷ acts) w) is ∙ other-place t.place s.place s.number differs
    left t differs (Seals_it key place iv is) =
        ap (λ m. holding_at t.place (act_by w m ∷ acts) w) is
        ∙ other-place t.place (place_of key.name) key.iv (λ same. differs (sym place ∙ same))
