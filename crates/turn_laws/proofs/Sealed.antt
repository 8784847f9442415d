-- No key and IV seals twice: an IV is a number of the key's counter.
use Rattle.std.proofs.Common.{◌≡◌, ◌≢◌, ℕ, true, Option, List, [], ◌∷◌, ◌++◌, map, refl, ap, sym, ◌∙◌, subst, append_assoc, append-nil, if◌then◌else◌}
use Rattle.std.specs.List.{AllByRecursion}
use Rattle.events.specs.declared.seals.Seal.{Seal}
use Rattle.events.specs.declared.turn.Turn.{Turn}
use Rattle.keeper_book.specs.Book.{Book}
use Rattle.keeper_book.specs.declared.calls.Call.{Call}
use Rattle.turn_laws.proofs.Acting.{moves_onto}
use Rattle.turn_laws.proofs.All.{lawful-run}
use Rattle.turn_rules.proofs.SlotTies.{all-weaker}
use Rattle.turn_laws.proofs.Moves.{IsUseOrEnd, are-uses}
use Rattle.turn_laws.proofs.Names.{is_place-same}
use Rattle.turn_laws.proofs.Begun.{fewer-used}
use Rattle.turn_laws.proofs.Safety.{owned-lawful}
use Rattle.turn_laws.specs.Acts.{Act, Calls, Ends, Leaps, Move, Opens, Seals, Starts, Uses, act_by, begun_at, effect_of, effect_of_use, holding_at, numbers_at, uses_at}
use Rattle.turn_laws.specs.Holdings.{Actor, Draws, Holding, IsNotIn, Nothing, Use, uses_after}
use Rattle.turn_laws.specs.Owned.{Lawful, Owned}
use Rattle.turn_laws.specs.Places.{Place, is_place, place_of}
use Rattle.turn_laws.specs.Turns.{actor_of, acts_of, key_iv, uses_of}
use Rattle.turn_rules.specs.Local.{Explained, Stands}
use Rattle.turn_rules.specs.Safe.{IsEachOnce, KeyIv, key_ivs}

-- the keys and IVs that a move, and that acts, sealed under
abbrev pub sealed_by : Move → List KeyIv → List KeyIv
sealed_by (Seals key) rest = key ∷ rest
sealed_by move rest = rest

abbrev pub sealed_in : List Act → List KeyIv
sealed_in [] = []
sealed_in (act ∷ acts) = sealed_by act.move (sealed_in acts)

-- a number that is in no use of a place is the IV of no seal there
module _ (p : Place) (n : ℕ) where
  abbrev IsOther : KeyIv → Type 0
  IsOther key = place_of key.name ≡ p → key.iv ≢ n

  seal-used : (w : Actor) (key : KeyIv) (held : Actor → Option Holding) (us : List Use) → IsNotIn n (map (λ u. u.number) (uses_after (effect_of_use p (place_of key.name) w key.iv) held us)) → IsOther key
  seal-used w key held us none is =
      let here : is_place p p ≡ true = is_place-same p in
      let effect : effect_of_use p (place_of key.name) w key.iv ≡ Draws w key.iv = ap (λ q. effect_of_use p q w key.iv) is ∙ ap (λ b. if b then Draws w key.iv else Nothing) here in
      (subst (λ e. IsNotIn n (map (λ u. u.number) (uses_after e held us))) effect none).0

  pub not-sealed : (acts : List Act) → IsNotIn n (numbers_at p acts) → AllByRecursion IsOther (sealed_in acts)
  not-sealed [] none = tt
  not-sealed (act ∷ acts) none = by_move act.move none (not-sealed acts (fewer-used (effect_of p (begun_at p acts) act.by act.move) (holding_at p acts) (uses_at p acts) n none))
    where
      by_move : (move : Move) → IsNotIn n (map (λ u. u.number) (uses_after (effect_of p (begun_at p acts) act.by move) (holding_at p acts) (uses_at p acts))) → AllByRecursion IsOther (sealed_in acts) → AllByRecursion IsOther (sealed_by move (sealed_in acts))
      by_move (Seals key) none rest = (seal-used act.by key (holding_at p acts) (uses_at p acts) none, rest)
      by_move move none rest = rest

-- no key and IV stands twice among the seals of acts, each of which may come after those before it
pub sealed-once : (acts : List Act) (book : Book) → Lawful acts book → IsEachOnce (sealed_in acts)
sealed-once [] book lawful = tt
sealed-once (act ∷ acts) book lawful = by_move act.move refl (sealed-once acts lawful.0 lawful.1)
  where
    owned : Owned (act ∷ acts) book
    owned = owned-lawful (act ∷ acts) book lawful

    by_move : (move : Move) → act.move ≡ move → IsEachOnce (sealed_in acts) → IsEachOnce (sealed_by move (sealed_in acts))
    by_move (Calls call) is rest = rest
    by_move (Uses q n) is rest = rest
    by_move (Leaps q n) is rest = rest
    by_move (Opens ticket made) is rest = rest
    by_move (Starts sa) is rest = rest
    by_move Ends is rest = rest
    by_move (Seals key) is rest = (
      (let p : Place = place_of key.name in
          let here : is_place p p ≡ true = is_place-same p in
          let effect : effect_of p (begun_at p acts) act.by act.move ≡ Draws act.by key.iv = ap (effect_of p (begun_at p acts) act.by) is ∙ ap (λ b. if b then Draws act.by key.iv else Nothing) here in
          let once : IsEachOnce (map (λ u. u.number) (uses_after (Draws act.by key.iv) (holding_at p acts) (uses_at p acts))) =
          subst (λ x. IsEachOnce (map (λ u. u.number) (uses_after x (holding_at p acts) (uses_at p acts)))) effect (owned.numbers p).once in
          all-weaker (sealed_in acts)
          (λ y other same. other (ap (λ (k : KeyIv). place_of k.name) same) (ap (λ (k : KeyIv). k.iv) same))
          (not-sealed p key.iv acts once.0)),
      rest,
    )

-- a list in which nothing stands twice, with one thing moved to the front, or from there
each_once-out : {X : Type 0} (xs : List X) (y : X) (ys : List X) → IsEachOnce (xs ++ y ∷ ys) → IsEachOnce (y ∷ (xs ++ ys))
each_once-out [] y ys once = once
each_once-out {X} (x ∷ xs) y ys once =
    let rest : IsEachOnce (y ∷ (xs ++ ys)) = each_once-out xs y ys once.1 in
    let apart : AllByRecursion (λ z. z ≢ x) (xs ++ ys) × (y ≢ x) = all-out (λ z. z ≢ x) xs once.0 in
    (((λ same. apart.1 (sym same)), rest.0), (apart.0, rest.1))
  where
    all-out : (P : X → Type 0) (xs : List X) → AllByRecursion P (xs ++ y ∷ ys) → AllByRecursion P (xs ++ ys) × P y
    all-out P [] all = (all.1, all.0)
    all-out P (x ∷ xs) all = let rest : AllByRecursion P (xs ++ ys) × P y = all-out P xs all.1 in ((all.0, rest.0), rest.1)

each_once-in : {X : Type 0} (xs : List X) (y : X) (ys : List X) → IsEachOnce (y ∷ (xs ++ ys)) → IsEachOnce (xs ++ y ∷ ys)
each_once-in [] y ys once = once
each_once-in {X} (x ∷ xs) y ys once = (all-in (λ z. z ≢ x) xs once.1.0 (λ same. once.0.0 (sym same)), each_once-in xs y ys (once.0.1, once.1.1))
  where
    all-in : (P : X → Type 0) (xs : List X) → AllByRecursion P (xs ++ ys) → P y → AllByRecursion P (xs ++ y ∷ ys)
    all-in P [] all one = (one, all)
    all-in P (x ∷ xs) all one = (all.0, all-in P xs all.1 one)

-- what was sealed before some moves
module _ (w : Actor) where
  sealed-calls : (calls : List Call) (rest : List Move) (acts : List Act) → (now : List Act) × (moves_onto w (map Calls calls ++ rest) acts ≡ moves_onto w rest now) × (sealed_in now ≡ sealed_in acts)
  sealed-calls [] rest acts = (acts, refl, refl)
  sealed-calls (call ∷ calls) rest acts = sealed-calls calls rest (act_by w (Calls call) ∷ acts)

  sealed-uses : (moves : List Move) → AllByRecursion IsUseOrEnd moves → (rest : List Move) (acts : List Act) → (now : List Act) × (moves_onto w (moves ++ rest) acts ≡ moves_onto w rest now) × (sealed_in now ≡ sealed_in acts)
  sealed-uses [] uses rest acts = (acts, refl, refl)
  sealed-uses (Calls call ∷ moves) uses rest acts = absurd uses.0
  sealed-uses (Uses place n ∷ moves) uses rest acts = sealed-uses moves uses.1 rest (act_by w (Uses place n) ∷ acts)
  sealed-uses (Seals key ∷ moves) uses rest acts = absurd uses.0
  sealed-uses (Leaps place n ∷ moves) uses rest acts = absurd uses.0
  sealed-uses (Opens ticket made ∷ moves) uses rest acts = absurd uses.0
  sealed-uses (Starts sa ∷ moves) uses rest acts = absurd uses.0
  sealed-uses (Ends ∷ moves) uses rest acts = sealed-uses moves uses.1 rest (act_by w (Ends) ∷ acts)

  -- seals of a turn stand before those of earlier turns
  sealed-seals : (seals : List Seal) (before : List KeyIv) (acts : List Act) → IsEachOnce (before ++ sealed_in (moves_onto w (map (λ seal. Seals (key_iv seal)) seals) acts)) → IsEachOnce ((before ++ map key_iv seals) ++ sealed_in acts)
  sealed-seals [] before acts once = subst (λ ks. IsEachOnce (ks ++ sealed_in acts)) (sym (append-nil before)) once
  sealed-seals (seal ∷ seals) before acts once =
      let rest : IsEachOnce ((before ++ map key_iv seals) ++ (key_iv seal ∷ sealed_in acts)) = sealed-seals seals before (act_by w (Seals (key_iv seal)) ∷ acts) once in
      let front : IsEachOnce (key_iv seal ∷ ((before ++ map key_iv seals) ++ sealed_in acts)) = each_once-out (before ++ map key_iv seals) (key_iv seal) (sealed_in acts) rest in
      let inside : IsEachOnce (before ++ (key_iv seal ∷ (map key_iv seals ++ sealed_in acts))) =
      each_once-in before (key_iv seal) (map key_iv seals ++ sealed_in acts) (subst (λ ks. IsEachOnce (key_iv seal ∷ ks)) (append_assoc before (map key_iv seals) (sealed_in acts)) front) in
      subst (λ ks. IsEachOnce ks) (sym (append_assoc before (key_iv seal ∷ map key_iv seals) (sealed_in acts))) inside

-- the keys and IVs of turns are those of their acts
key_ivs-once : (past : List Turn) (before : List KeyIv) → IsEachOnce (before ++ sealed_in (acts_of past)) → IsEachOnce (before ++ key_ivs past)
key_ivs-once [] before once = once
key_ivs-once (turn ∷ past) before once =
    let w : Actor = actor_of turn in
    let seals : List Move = map (λ seal. Seals (key_iv seal)) turn.step.seals in
    let one = sealed-calls w turn.calls (uses_of turn.event turn.step.verdict turn.step.seals ++ seals) (acts_of past) in
    let two = sealed-uses w (uses_of turn.event turn.step.verdict turn.step.seals) (are-uses turn.event turn.step.verdict turn.step.seals) seals one.0 in
    let moved : IsEachOnce (before ++ sealed_in (moves_onto w seals two.0)) = subst (λ acts. IsEachOnce (before ++ sealed_in acts)) (one.1 ∙ two.1) once in
    let apart : IsEachOnce ((before ++ map key_iv turn.step.seals) ++ sealed_in (acts_of past)) =
    subst (λ ks. IsEachOnce ((before ++ map key_iv turn.step.seals) ++ ks)) (two.2 ∙ one.2) (sealed-seals w turn.step.seals before two.0 moved) in
    subst (λ ks. IsEachOnce ks) (append_assoc before (map key_iv turn.step.seals) (key_ivs past))
    (key_ivs-once past (before ++ map key_iv turn.step.seals) apart)

-- no key and IV seals two plaintexts
pub no-nonce-reuse : (boxes : ℕ) (past : List Turn) (book : Book) → Explained boxes past → Stands past book → IsEachOnce (key_ivs past)
no-nonce-reuse boxes past book local stands = key_ivs-once past [] (sealed-once (acts_of past) book (lawful-run boxes past book local stands))
