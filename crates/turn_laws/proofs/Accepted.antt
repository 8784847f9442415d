-- No packet is accepted twice, and no request is taken twice: their numbers are numbers of the counters that receive and answer them.
use Rattle.std.proofs.Common.{◌≡◌, ◌≢◌, ℕ, true, Option, Some, None, option_to_list, List, [], ◌∷◌, ◌++◌, map, refl, ap, sym, ◌∙◌, subst, if◌then◌else◌}
use Rattle.std.specs.Prelude.{reverse}
use Rattle.std.proofs.lemmas.List.{reverse-append}
use Rattle.std.specs.List.{AllByRecursion, cons_option, filter_map}
use Rattle.events.specs.declared.turn.Turn.{Turn}
use Rattle.keeper_book.specs.Book.{Book}
use Rattle.turn_laws.proofs.All.{numbers-once}
use Rattle.turn_laws.proofs.Listed.{turn-numbers}
use Rattle.turn_rules.proofs.SlotTies.{all-weaker}
use Rattle.turn_laws.proofs.Names.{is_place-same}
use Rattle.turn_laws.specs.Acts.{numbers_at}
use Rattle.turn_laws.specs.Holdings.{IsNotIn}
use Rattle.turn_laws.specs.Listed.{asked_at, drawn_at, ivs_at, listed_at, packet_at, request_at}
use Rattle.turn_laws.specs.Places.{Place, is_place, place_of}
use Rattle.turn_laws.specs.Turns.{acts_of, key_iv, place_answered}
use Rattle.turn_rules.specs.Local.{Explained, Stands}
use Rattle.turn_rules.specs.Safe.{IsEachOnce, Packet, Request, accepted_in, taken_in}

module _ {X : Type 0} (P : X → Type 0) where
  -- what holds of two lists holds of each
  pub all-parts : (xs ys : List X) → AllByRecursion P (xs ++ ys) → AllByRecursion P xs × AllByRecursion P ys
  all-parts [] ys all = (tt, all)
  all-parts (x ∷ xs) ys all = let rest : AllByRecursion P xs × AllByRecursion P ys = all-parts xs ys all.1 in ((all.0, rest.0), rest.1)

  all-reversed : (xs : List X) → AllByRecursion P (reverse xs) → AllByRecursion P xs
  all-reversed [] all = tt
  all-reversed (x ∷ xs) all =
      let parts : AllByRecursion P (reverse xs) × AllByRecursion P (x ∷ []) = all-parts (reverse xs) (x ∷ []) (subst (λ ys. AllByRecursion P ys) (reverse-append (x ∷ []) xs) all) in
      (parts.1.0, all-reversed xs parts.0)

-- where nothing stands twice in two lists, nothing of the first stands in the second
once-apart : (xs ys : List ℕ) → IsEachOnce (xs ++ ys) → AllByRecursion (λ x. IsNotIn x ys) xs
once-apart [] ys once = tt
once-apart (x ∷ xs) ys once = ((all-parts (λ y. y ≢ x) xs ys once.0).1, once-apart xs ys once.1)

once-behind : (xs ys : List ℕ) → IsEachOnce (xs ++ ys) → IsEachOnce ys
once-behind [] ys once = once
once-behind (x ∷ xs) ys once = once-behind xs ys once.1

-- Things of turns that have numbers of places: each is among the numbers of its turn.
module _ {X : Type 0} (thing_in : Turn → Option X) (place : X → Place) (number : X → ℕ)
    (listed : (P : ℕ → Type 0) (turn : Turn) (x : X) → thing_in turn ≡ Some x → AllByRecursion P (listed_at (place x) turn) → P (number x)) where
  abbrev IsOther : Place → ℕ → X → Type 0
  IsOther p n x = place x ≡ p → number x ≢ n

  -- a number that is in no use of a place is that of no such thing there
  not-there : (p : Place) (n : ℕ) (past : List Turn) → IsNotIn n (numbers_at p (acts_of past)) → AllByRecursion (IsOther p n) (filter_map thing_in past)
  not-there p n [] none = tt
  not-there p n (turn ∷ past) none = by_thing (thing_in turn) refl (not-there p n past parts.1)
    where
      parts : IsNotIn n (listed_at p turn) × IsNotIn n (numbers_at p (acts_of past))
      parts = all-parts (λ k. k ≢ n) (listed_at p turn) (numbers_at p (acts_of past)) (subst (λ ns. IsNotIn n ns) (turn-numbers p turn past) none)

      by_thing : (x : Option X) → thing_in turn ≡ x → AllByRecursion (IsOther p n) (filter_map thing_in past) → AllByRecursion (IsOther p n) (cons_option x (filter_map thing_in past))
      by_thing None is rest = rest
      by_thing (Some x) is rest = ((λ named. listed (λ k. k ≢ n) turn x is (subst (λ q. IsNotIn n (listed_at q turn)) (sym named) parts.0)), rest)

  -- where no number of any place stands twice, none of them does
  things-apart : (past : List Turn) → ((p : Place) → IsEachOnce (numbers_at p (acts_of past))) → IsEachOnce (filter_map thing_in past)
  things-apart [] once = tt
  things-apart (turn ∷ past) once = by_thing (thing_in turn) refl (things-apart past (λ p. once-behind (listed_at p turn) (numbers_at p (acts_of past)) (both p)))
    where
      both : (p : Place) → IsEachOnce (listed_at p turn ++ numbers_at p (acts_of past))
      both p = subst (λ ns. IsEachOnce ns) (turn-numbers p turn past) (once p)

      by_thing : (x : Option X) → thing_in turn ≡ x → IsEachOnce (filter_map thing_in past) → IsEachOnce (cons_option x (filter_map thing_in past))
      by_thing None is rest = rest
      by_thing (Some x) is rest =
          let p : Place = place x in
          let others : IsNotIn (number x) (numbers_at p (acts_of past)) = listed (λ k. IsNotIn k (numbers_at p (acts_of past))) turn x is (once-apart (listed_at p turn) (numbers_at p (acts_of past)) (both p)) in
          (all-weaker (filter_map thing_in past) (λ y other same. other (ap place same) (ap number same)) (not-there p (number x) past others), rest)

module _ (P : ℕ → Type 0) (turn : Turn) (p : Place) (all : AllByRecursion P (listed_at p turn)) where
  abbrev behind : List ℕ
  behind = option_to_list (asked_at p turn.step.verdict turn.step.seals) ++ ivs_at p (map key_iv turn.step.seals)

  abbrev taken : List ℕ
  taken = option_to_list (request_at p (taken_in turn)) ++ behind

  -- what holds of the numbers of a turn holds of those that it received, and of those behind
  received-parts : AllByRecursion P (option_to_list (packet_at p (accepted_in turn))) × AllByRecursion P taken
  received-parts =
      let drawn : List ℕ = option_to_list (drawn_at p turn.event turn.step.verdict) in
      let packet : List ℕ = option_to_list (packet_at p (accepted_in turn)) in
      all-parts P packet taken (all-parts P drawn (packet ++ taken) (all-reversed P (drawn ++ (packet ++ taken)) all)).1

  taken-part : AllByRecursion P (option_to_list (request_at p (taken_in turn)))
  taken-part = (all-parts P (option_to_list (request_at p (taken_in turn))) behind received-parts.1).0

-- the number of a packet that was accepted is among those of the turn
packet-listed : (P : ℕ → Type 0) (turn : Turn) (packet : Packet) → accepted_in turn ≡ Some packet → AllByRecursion P (listed_at (place_of packet.name) turn) → P packet.number
packet-listed P turn packet accepted all =
    let here : is_place (place_of packet.name) (place_of packet.name) ≡ true = is_place-same (place_of packet.name) in
    let at : packet_at (place_of packet.name) (accepted_in turn) ≡ Some packet.number = ap (packet_at (place_of packet.name)) accepted ∙ ap (λ b. if b then Some packet.number else None) here in
    (subst (λ x. AllByRecursion P (option_to_list x)) at (received-parts P turn (place_of packet.name) all).0).0

-- and the Message ID of a request that was taken
request-listed : (P : ℕ → Type 0) (turn : Turn) (request : Request) → taken_in turn ≡ Some request → AllByRecursion P (listed_at (place_answered request) turn) → P request.id
request-listed P turn request taken all =
    let here : is_place (place_answered request) (place_answered request) ≡ true = is_place-same (place_answered request) in
    let at : request_at (place_answered request) (taken_in turn) ≡ Some request.id = ap (request_at (place_answered request)) taken ∙ ap (λ b. if b then Some request.id else None) here in
    (subst (λ x. AllByRecursion P (option_to_list x)) at (taken-part P turn (place_answered request) all)).0

-- no packet is accepted twice
pub packets-once : (boxes : ℕ) (past : List Turn) (book : Book) → Explained boxes past → Stands past book → IsEachOnce (filter_map accepted_in past)
packets-once boxes past book local stands = things-apart accepted_in (λ packet. place_of packet.name) (λ packet. packet.number) packet-listed past (numbers-once boxes past book local stands)

-- no request is taken twice
pub requests-once : (boxes : ℕ) (past : List Turn) (book : Book) → Explained boxes past → Stands past book → IsEachOnce (filter_map taken_in past)
requests-once boxes past book local stands = things-apart taken_in place_answered (λ request. request.id) request-listed past (numbers-once boxes past book local stands)
