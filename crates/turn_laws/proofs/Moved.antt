-- What moves that use numbers make of what is held.
use Rattle.std.proofs.Common.{◌≡◌, ℕ, ◌+◌, max, Bool, true, false, Option, Some, None, List, [], ◌∷◌, ◌++◌, map, append_assoc, append-nil, refl, ap, sym, ◌∙◌, if◌then◌else◌}
use Rattle.std.specs.Prelude.{reverse}
use Rattle.std.proofs.lemmas.List.{reverse-append}
use Rattle.std.specs.List.{AllByRecursion, cons_option}
use Rattle.std.specs.Option.{option_map}
use Rattle.events.specs.declared.event.Event.{Event}
use Rattle.events.specs.declared.seals.Seal.{Seal}
use Rattle.events.specs.declared.turn.Step.{Step}
use Rattle.events.specs.declared.turn.Turn.{Turn}
use Rattle.turn_laws.proofs.Acting.{moves_onto}
use Rattle.turn_laws.proofs.Deeds.{rest_of}
use Rattle.turn_laws.proofs.Holdings.{is_actor-same}
use Rattle.turn_laws.proofs.Listed.{moved, moved-calls, number_moved, turn-listed}
use Rattle.turn_laws.proofs.Lists.{all-append}
use Rattle.turn_rules.proofs.SlotTies.{all-weaker}
use Rattle.turn_laws.proofs.Moves.{IsUseOrEnd, are-uses}
use Rattle.turn_laws.specs.Acts.{Act, Calls, Ends, Leaps, Move, Opens, Seals, Starts, Uses, act_by, effect_of_use, holding_at}
use Rattle.turn_laws.specs.Holdings.{Actor, Draws, Holding, Nothing, holding_after, is_actor}
use Rattle.turn_laws.specs.Listed.{listed_at}
use Rattle.turn_laws.specs.PeerTurns.{having_used}
use Rattle.turn_laws.specs.Places.{Place, is_place, place_of}
use Rattle.turn_laws.specs.Turns.{key_iv, uses_of}
use Rattle.turn_rules.specs.Held.{greatest}

-- the next number after more numbers
next-more : (least : ℕ) (xs ys : List ℕ) → greatest least (map (λ n. n + 1) (xs ++ ys)) ≡ greatest (greatest least (map (λ n. n + 1) ys)) (map (λ n. n + 1) xs)
next-more least [] ys = refl
next-more least (x ∷ xs) ys = ap (max (x + 1)) (next-more least xs ys)

pub having-none : (x : Option Holding) → option_map (having_used []) x ≡ x
having-none None = refl
having-none (Some h) = refl

pub having-more : (xs ys : List ℕ) (x : Option Holding) → option_map (having_used xs) (option_map (having_used ys) x) ≡ option_map (having_used (xs ++ ys)) x
having-more xs ys None = refl
having-more xs ys (Some h) = ap Some (sym same)
  where
    same : having_used (xs ++ ys) h ≡ having_used xs (having_used ys h)
    same i = record h { next = next-more h.next xs ys i; numbers = append_assoc xs ys h.numbers i }

-- moves that use numbers, or end a member
abbrev IsUsing : Move → Type 0
IsUsing (Uses place n) = Unit {0}
IsUsing (Seals key) = Unit {0}
IsUsing Ends = Unit {0}
IsUsing move = ⊥

module _ (p : Place) (w : Actor) where
  used-one : (q : Place) (n : ℕ) (acts : List Act) → holding_after (effect_of_use p q w n) (holding_at p acts) w ≡ option_map (having_used (cons_option (if is_place q p then Some n else None) [])) (holding_at p acts w)
  used-one q n acts = by_test (is_place q p)
    where
      by_test : (b : Bool) → holding_after (if b then Draws w n else Nothing) (holding_at p acts) w ≡ option_map (having_used (cons_option (if b then Some n else None) [])) (holding_at p acts w)
      by_test true = let here : is_actor w w ≡ true = is_actor-same w in rw here refl
      by_test false = sym (having-none (holding_at p acts w))

  moved-one : (move : Move) → IsUsing move → (acts : List Act) → holding_at p (act_by w move ∷ acts) w ≡ option_map (having_used (cons_option (number_moved p move) [])) (holding_at p acts w)
  moved-one (Uses q n) using acts = used-one q n acts
  moved-one (Seals key) using acts = used-one (place_of key.name) key.iv acts
  moved-one Ends using acts = sym (having-none (holding_at p acts w))
  moved-one (Calls call) using acts = absurd using
  moved-one (Leaps q n) using acts = absurd using
  moved-one (Opens ticket made) using acts = absurd using
  moved-one (Starts sa) using acts = absurd using

  -- what is held after moves that use numbers
  pub moved-holds : (moves : List Move) → AllByRecursion IsUsing moves → (acts : List Act) → holding_at p (moves_onto w moves acts) w ≡ option_map (having_used (reverse (moved p moves))) (holding_at p acts w)
  moved-holds [] using acts = sym (having-none (holding_at p acts w))
  moved-holds (move ∷ moves) using acts =
      moved-holds moves using.1 (act_by w move ∷ acts)
      ∙ (ap (option_map (having_used (reverse (moved p moves)))) (moved-one move using.0 acts)
      ∙ (having-more (reverse (moved p moves)) (cons_option (number_moved p move) []) (holding_at p acts w)
      ∙ ap (λ ns. option_map (having_used ns) (holding_at p acts w)) (by_number (number_moved p move))))
    where
      by_number : (x : Option ℕ) → reverse (moved p moves) ++ cons_option x [] ≡ reverse (cons_option x (moved p moves))
      by_number None = append-nil (reverse (moved p moves))
      by_number (Some n) = sym (reverse-append (n ∷ []) (moved p moves))

use-using : (move : Move) → IsUseOrEnd move → IsUsing move
use-using (Uses place n) is = tt
use-using Ends is = tt
use-using (Calls call) is = absurd is
use-using (Seals key) is = absurd is
use-using (Leaps place n) is = absurd is
use-using (Opens ticket made) is = absurd is
use-using (Starts sa) is = absurd is

seals-using : (seals : List Seal) → AllByRecursion IsUsing (map (λ seal. Seals (key_iv seal)) seals)
seals-using [] = tt
seals-using (seal ∷ seals) = (tt, seals-using seals)

pub rest-using : (event : Event) (step : Step) → AllByRecursion IsUsing (rest_of event step)
rest-using event step = all-append IsUsing (uses_of event step.verdict step.seals) (map (λ seal. Seals (key_iv seal)) step.seals) (all-weaker (uses_of event step.verdict step.seals) use-using (are-uses event step.verdict step.seals)) (seals-using step.seals)

-- the numbers of a turn are those of its moves beside its calls
pub rest-listed : (p : Place) (turn : Turn) → reverse (moved p (rest_of turn.event turn.step)) ≡ listed_at p turn
rest-listed p turn = ap reverse (sym (moved-calls p turn.calls (rest_of turn.event turn.step))) ∙ turn-listed p turn
