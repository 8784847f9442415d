-- Each datagram stands in the turn that gave it.
use Rattle.std.proofs.Common.{◌≡◌, ℕ, ◌-◌, ◌⊎◌, ⊎_elim, inl, inr, Bool, true, false, List, [], ◌∷◌, ◌++◌, length, reverse, Option, Some, None, zero, suc, if◌then◌else◌, refl, ap, sym, ◌∙◌, subst}
use Rattle.std.specs.Prelude.{MatchOption, slice_get, map, option_to_list, nat_lt, unwrap_or}
use Rattle.std.specs.Option.{option_and_then, option_map}
use Rattle.std.proofs.lemmas.List.{length-map, length-reverse, map-append, reverse-append}
use Rattle.std.proofs.lemmas.Option.{slice_get-map}
use Rattle.events.specs.declared.event.Which.{Which}
use Rattle.events.specs.declared.event.Which.TheVariants as which
use Rattle.events.specs.declared.turn.Datagram.{Datagram}
use Rattle.events.specs.declared.turn.Turn.{Turn}
use Rattle.turn_rules.specs.Datagrams.{PlainDatagram, datagram_at, datagrams_of, plain_datagram}
use Rattle.turn_trace.specs.Traces.{giving_places, place_meant}

-- what a turn gave, if it is there
abbrev pub given_by : Option Turn → Option PlainDatagram
given_by None = None
given_by (Some turn) = option_map plain_datagram turn.step.gives

-- what was given, and the place of the turn
abbrev mark : ℕ → Option Datagram → List (ℕ × PlainDatagram)
mark place None = []
mark place (Some datagram) = (place, plain_datagram datagram) ∷ []

abbrev marks : List Turn → List (ℕ × PlainDatagram)
marks [] = []
marks (turn ∷ past) = marks past ++ mark (length past) turn.step.gives

abbrev place_in : ℕ × PlainDatagram → ℕ
place_in m = m.0

abbrev datagram_in : ℕ × PlainDatagram → PlainDatagram
datagram_in m = m.1

mark-places : (place : ℕ) (gives : Option Datagram) → option_to_list (option_map (λ _. place) gives) ≡ map place_in (mark place gives)
mark-places place None = refl
mark-places place (Some datagram) = refl

mark-datagrams : (place : ℕ) (gives : Option Datagram) → option_to_list (option_map plain_datagram gives) ≡ map datagram_in (mark place gives)
mark-datagrams place None = refl
mark-datagrams place (Some datagram) = refl

marks-places : (past : List Turn) → giving_places past ≡ map place_in (marks past)
marks-places [] = refl
marks-places (turn ∷ past) = rw (marks-places past, mark-places (length past) turn.step.gives) (sym (map-append place_in (marks past) (mark (length past) turn.step.gives)))

marks-datagrams : (past : List Turn) → datagrams_of past ≡ map datagram_in (marks past)
marks-datagrams [] = refl
marks-datagrams (turn ∷ past) = rw (marks-datagrams past, mark-datagrams (length past) turn.step.gives) (sym (map-append datagram_in (marks past) (mark (length past) turn.step.gives)))

found_either : {A : Type 0} (xs ys : List A) (k : ℕ) (x : A) → slice_get (xs ++ ys) k ≡ Some x → (slice_get xs k ≡ Some x) ⊎ ((j : ℕ) × (slice_get ys j ≡ Some x))
found_either [] ys k x e = inr (k, e)
found_either (x ∷ xs) ys zero y e = inl e
found_either (x ∷ xs) ys (suc k) y e = found_either xs ys k y e

found_more : {A : Type 0} (xs ys : List A) (k : ℕ) (x : A) → slice_get xs k ≡ Some x → slice_get (xs ++ ys) k ≡ Some x
found_more [] ys k x e = absurd (cc)
found_more (x ∷ xs) ys zero y e = e
found_more (x ∷ xs) ys (suc k) y e = found_more xs ys k y e

found_last : {A : Type 0} (xs : List A) (x : A) → slice_get (xs ++ x ∷ []) (length xs) ≡ Some x
found_last [] x = refl
found_last (x ∷ xs) y = found_last xs y

given_more : (turns : List Turn) (turn : Turn) (place : ℕ) (datagram : PlainDatagram) → given_by (slice_get turns place) ≡ Some datagram → given_by (slice_get (turns ++ turn ∷ []) place) ≡ Some datagram
given_more [] turn place datagram e = absurd (cc)
given_more (t ∷ turns) turn zero datagram e = e
given_more (t ∷ turns) turn (suc place) datagram e = given_more turns turn place datagram e

-- a mark of the newest turn
newest_given : (turns : List Turn) (turn : Turn) (gives : Option Datagram) (place j : ℕ) (m : ℕ × PlainDatagram) → turn.step.gives ≡ gives → length turns ≡ place → slice_get (mark place gives) j ≡ Some m → given_by (slice_get (turns ++ turn ∷ []) m.0) ≡ Some m.1
newest_given turns turn None place j m is counted e = absurd (cc)
newest_given turns turn (Some datagram) place zero m is counted e =
    let same : (place, plain_datagram datagram) ≡ m = some_same e in
    let at : place ≡ m.0 = ap place_in same in
    let found : slice_get (turns ++ turn ∷ []) m.0 ≡ Some turn = subst (λ k. slice_get (turns ++ turn ∷ []) k ≡ Some turn) (counted ∙ at) (found_last turns turn) in
    ap given_by found ∙ (ap (option_map plain_datagram) is ∙ ap Some (ap datagram_in same))
  where
    some_same : {x y : ℕ × PlainDatagram} → Some x ≡ Some y → x ≡ y
    some_same {x} e = ap (λ o. unwrap_or o x) e
newest_given turns turn (Some datagram) place (suc j) m is counted e = absurd (cc)

marks-given : (past : List Turn) (k : ℕ) (m : ℕ × PlainDatagram) → slice_get (marks past) k ≡ Some m → given_by (slice_get (reverse past) m.0) ≡ Some m.1
marks-given [] k m e = absurd (cc)
marks-given (turn ∷ past) k m e =
    subst (λ turns. given_by (slice_get turns m.0) ≡ Some m.1) (sym (reverse-append (turn ∷ []) past))
    (⊎_elim (λ here. given_more (reverse past) turn m.0 m.1 (marks-given past k m here))
    (λ new. newest_given (reverse past) turn turn.step.gives (length past) new.0 m refl (length-reverse past) new.1)
    (found_either (marks past) (mark (length past) turn.step.gives) k m e))

-- there are as many places as datagrams
pub places-count : (past : List Turn) → length (giving_places past) ≡ length (datagrams_of past)
places-count past = ap length (marks-places past) ∙ length-map (marks past) place_in ∙ sym (length-map (marks past) datagram_in) ∙ sym (ap length (marks-datagrams past))

marked : (past : List Turn) (k : ℕ) (m : Option (ℕ × PlainDatagram)) → slice_get (marks past) k ≡ m → MatchOption (option_map place_in m) (option_map datagram_in m ≡ None) (λ place. option_map datagram_in m ≡ given_by (slice_get (reverse past) place))
marked past k None e = refl
marked past k (Some m) e = sym (marks-given past k m e)

abbrev IsFound : List Turn → Option ℕ → Option PlainDatagram → Type 0
IsFound past place datagram = MatchOption place (datagram ≡ None) (λ p. datagram ≡ given_by (slice_get (reverse past) p))

-- the datagram at a place in their order
found_at : (past : List Turn) (k : ℕ) → IsFound past (slice_get (giving_places past) k) (slice_get (datagrams_of past) k)
found_at past k =
    rw (marks-places past, marks-datagrams past, slice_get-map place_in (marks past) k, slice_get-map datagram_in (marks past) k)
    (marked past k (slice_get (marks past) k) refl)

found_meant : (past : List Turn) (which : Which) → IsFound past (place_meant which (giving_places past)) (datagram_at which (datagrams_of past))
found_meant past (which.Number number) = by_test (nat_lt 0 number)
  where
    by_test : (counted : Bool) → IsFound past (if counted then slice_get (giving_places past) (number - 1) else None) (if counted then slice_get (datagrams_of past) (number - 1) else None)
    by_test true = found_at past (number - 1)
    by_test false = refl
found_meant past which.Last = rw (sym (places-count past)) (found_at past (length (giving_places past) - 1))

-- the datagram that is meant is that of the turn at its place
pub meant_none : (past : List Turn) (given : List ℕ) (which : Which) → given ≡ giving_places past → place_meant which given ≡ None → datagram_at which (datagrams_of past) ≡ None
meant_none past given which is none = subst (λ place. IsFound past place (datagram_at which (datagrams_of past))) (ap (place_meant which) (sym is) ∙ none) (found_meant past which)

pub meant_some : (past : List Turn) (given : List ℕ) (which : Which) (place : ℕ) → given ≡ giving_places past → place_meant which given ≡ Some place → datagram_at which (datagrams_of past) ≡ option_map plain_datagram (option_and_then (λ turn. turn.step.gives) (slice_get (reverse past) place))
meant_some past given which place is some = subst (λ p. IsFound past p (datagram_at which (datagrams_of past))) (ap (place_meant which) (sym is) ∙ some) (found_meant past which) ∙ given_by-gives (slice_get (reverse past) place)
  where
    given_by-gives : (turn : Option Turn) → given_by turn ≡ option_map plain_datagram (option_and_then (λ t. t.step.gives) turn)
    given_by-gives None = refl
    given_by-gives (Some turn) = refl
