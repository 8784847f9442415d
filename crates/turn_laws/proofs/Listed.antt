-- The numbers of a place that acts use are those that the lists of the trace have.
use Rattle.keeper_book.specs.declared.counters.Counter.TheVariants as counter
use Rattle.turn_laws.specs.Columns.{Column}
use Rattle.std.proofs.Common.{◌≡◌, ℕ, Bool, true, false, Option, Some, None, option_to_list, List, [], ◌∷◌, ◌++◌, map, append_assoc, append-nil, refl, ap, sym, ◌∙◌, if◌then◌else◌, length}
use Rattle.std.specs.Prelude.{reverse}
use Rattle.std.proofs.lemmas.List.{reverse-append}
use Rattle.std.specs.List.{cons_option, filter_map, flat_map}
use Rattle.events.specs.declared.event.Event.{Event}
use Rattle.events.specs.declared.event.Event.TheVariants as event
use Rattle.events.specs.declared.seals.Seal.{Seal}
use Rattle.events.specs.declared.turn.Turn.{Turn}
use Rattle.events.specs.declared.verdict.Verdict.{Verdict}
use Rattle.events.specs.declared.verdict.Verdict.TheVariants as out
use Rattle.keeper_book.specs.declared.calls.Call.{Call}
use Rattle.keeper_book.specs.Told.{seen}
use Rattle.keeper_book.specs.declared.counters.Counter.{Counter}
use Rattle.keeper_book.specs.declared.records.Record.{Record}
use Rattle.keeper_book.specs.declared.records.Taken.{Taken}
use Rattle.turn_laws.proofs.Acting.{moves_onto}
use Rattle.turn_laws.specs.Acts.{Act, begun_by, effect_begun, effect_of_call, effect_ours, entered_as, Calls, Ends, Leaps, Move, Opens, Seals, Starts, Uses, act_by, begun_at, begun_open, begun_started, effect_of_open, effect_of_use, holding_at, numbers_at, uses_at, effect_of_ours, settled_as, lot_of}
use Rattle.turn_laws.specs.Holdings.{Actor, Draws, Half, Holding, Jumps, Nothing, Use, uses_after}
use Rattle.turn_laws.specs.Listed.{asked_at, drawn_at, drew, ivs_at, listed_at, number_where, packet_at, request_at}
use Rattle.turn_laws.specs.Places.{Ours, Place, Pooled, Theirs, is_place, place_of}
use Rattle.turn_laws.specs.Turns.{actor_of, acts_of, asked_by, asks_beside, drawn_by, end_moves, key_iv, moves_of, uses_of}
use Rattle.turn_rules.specs.Held.{covered, granted}
use Rattle.turn_rules.specs.Safe.{accepted_as, accepted_in, taken_as, taken_in}
use Rattle.turn_rules.specs.States.{ended_by}
use Rattle.keeper_book.specs.declared.pools.Pool.TheVariants as pools

-- a call uses no number
module _ (w : Actor) (held : Actor → Option Holding) (us : List Use) where
  ours-uses : (c : Counter) (grant : Option Taken) (upto : Option ℕ) → uses_after (effect_ours w c grant upto) held us ≡ us
  ours-uses c (Some taken) upto = refl
  ours-uses c None (Some n) = refl
  ours-uses c None None = refl

  pub begun-uses : (x : Option Holding) → uses_after (effect_begun w x) held us ≡ us
  begun-uses None = refl
  begun-uses (Some h) = refl

  settled-uses : (c : Counter) (x : Option Record) (grant : Option Taken) (upto : Option ℕ) → uses_after (effect_of_ours w c x grant upto) held us ≡ us
  settled-uses c None grant upto = ours-uses c grant upto
  settled-uses counter.Iv (Some sa) grant upto = refl
  settled-uses counter.EspOut (Some sa) grant upto = refl
  settled-uses counter.EspIn (Some sa) grant upto = refl
  settled-uses counter.Ask (Some sa) grant upto = refl
  settled-uses counter.Answer (Some sa) grant upto = refl

  pub call-uses : (p : Place) (begun : Column) (call : Call) → uses_after (effect_of_call p begun w call.asked (seen call)) held us ≡ us
  call-uses (Ours spir c) begun call = settled-uses c (settled_as spir call.asked (seen call)) (granted spir call.asked (seen call)) (covered spir c call.asked (seen call))
  call-uses (Pooled q) begun call = begun-uses (lot_of q (length begun.bases) call.asked (seen call))
  call-uses (Theirs name) begun call = begun-uses (begun_by name (entered_as call.asked (seen call)))

-- what gets half open uses a number of the nonces' pool
abbrev number_opened : Place → ℕ → Option ℕ
number_opened (Pooled q) drawn = number_where (Pooled q) (Pooled pools.Nonce) drawn
number_opened p drawn = None

open-number : (p : Place) (w : Actor) (drawn : ℕ) (held : Actor → Option Holding) (us : List Use) → map (λ u. u.number) (uses_after (effect_of_open p w drawn) held us) ≡ cons_option (number_opened p drawn) (map (λ u. u.number) us)
open-number (Pooled q) w drawn held us = by_test (is_place (Pooled pools.Nonce) (Pooled q))
  where
    by_test : (b : Bool) → map (λ u. u.number) (uses_after (if b then Draws w drawn else Nothing) held us) ≡ cons_option (if b then Some drawn else None) (map (λ u. u.number) us)
    by_test true = refl
    by_test false = refl
open-number (Ours spir c) w drawn held us = ap (λ us. map (λ u. u.number) us) (begun-uses (Half drawn) held us (begun_open (Ours spir c) drawn))
open-number (Theirs name) w drawn held us = refl

module _ (p : Place) where
  -- the number of the place that a move uses
  abbrev pub number_moved : Move → Option ℕ
  number_moved (Uses q n) = number_where p q n
  number_moved (Seals key) = number_where p (place_of key.name) key.iv
  number_moved (Opens ticket made) = number_opened p made.spir
  number_moved move = None

  abbrev pub moved : List Move → List ℕ
  moved moves = filter_map number_moved moves

  use-number : (w : Actor) (acts : List Act) (q : Place) (n : ℕ) → map (λ u. u.number) (uses_after (effect_of_use p q w n) (holding_at p acts) (uses_at p acts)) ≡ cons_option (number_where p q n) (numbers_at p acts)
  use-number w acts q n = by_test (is_place q p)
    where
      by_test : (b : Bool) → map (λ u. u.number) (uses_after (if b then Draws w n else Nothing) (holding_at p acts) (uses_at p acts)) ≡ cons_option (if b then Some n else None) (numbers_at p acts)
      by_test true = refl
      by_test false = refl

  leap-uses : (w : Actor) (acts : List Act) (q : Place) (n : ℕ) → uses_after (if is_place q p then Jumps w n else Nothing) (holding_at p acts) (uses_at p acts) ≡ uses_at p acts
  leap-uses w acts q n = by_test (is_place q p)
    where
      by_test : (b : Bool) → uses_after (if b then Jumps w n else Nothing) (holding_at p acts) (uses_at p acts) ≡ uses_at p acts
      by_test true = refl
      by_test false = refl

  move-number : (w : Actor) (move : Move) (acts : List Act) → numbers_at p (act_by w move ∷ acts) ≡ cons_option (number_moved move) (numbers_at p acts)
  move-number w (Calls call) acts = ap (λ us. map (λ u. u.number) us) (call-uses w (holding_at p acts) (uses_at p acts) p (begun_at p acts) call)
  move-number w (Uses q n) acts = use-number w acts q n
  move-number w (Seals key) acts = use-number w acts (place_of key.name) key.iv
  move-number w (Leaps q n) acts = ap (λ us. map (λ u. u.number) us) (leap-uses w acts q n)
  move-number w (Opens ticket made) acts = open-number p w made.spir (holding_at p acts) (uses_at p acts)
  move-number w (Starts sa) acts = ap (λ us. map (λ u. u.number) us) (begun-uses w (holding_at p acts) (uses_at p acts) (begun_started p sa))
  move-number w Ends acts = refl

  moves-numbers : (w : Actor) (moves : List Move) (acts : List Act) → numbers_at p (moves_onto w moves acts) ≡ reverse (moved moves) ++ numbers_at p acts
  moves-numbers w [] acts = refl
  moves-numbers w (move ∷ moves) acts =
      moves-numbers w moves (act_by w move ∷ acts)
      ∙ (ap (λ ns. reverse (moved moves) ++ ns) (move-number w move acts)
      ∙ by_number (number_moved move))
    where
      by_number : (x : Option ℕ) → reverse (moved moves) ++ cons_option x (numbers_at p acts) ≡ reverse (cons_option x (moved moves)) ++ numbers_at p acts
      by_number None = refl
      by_number (Some n) = sym (ap (λ ns. ns ++ numbers_at p acts) (reverse-append (n ∷ []) (moved moves)) ∙ append_assoc (reverse (moved moves)) (n ∷ []) (numbers_at p acts))

  moved-append : (xs ys : List Move) → moved (xs ++ ys) ≡ moved xs ++ moved ys
  moved-append [] ys = refl
  moved-append (x ∷ xs) ys = ap (cons_option (number_moved x)) (moved-append xs ys) ∙ by_number (number_moved x)
    where
      by_number : (o : Option ℕ) → cons_option o (moved xs ++ moved ys) ≡ cons_option o (moved xs) ++ moved ys
      by_number None = refl
      by_number (Some n) = refl

  pub moved-calls : (calls : List Call) (rest : List Move) → moved (map Calls calls ++ rest) ≡ moved rest
  moved-calls [] rest = refl
  moved-calls (call ∷ calls) rest = moved-calls calls rest

  moved-seals : (seals : List Seal) → moved (map (λ seal. Seals (key_iv seal)) seals) ≡ ivs_at p (map key_iv seals)
  moved-seals [] = refl
  moved-seals (seal ∷ seals) = ap (cons_option (number_where p (place_of seal.name) seal.iv)) (moved-seals seals)

  one-moved : (x : Option ℕ) → cons_option x [] ≡ option_to_list x
  one-moved None = refl
  one-moved (Some n) = refl

  moved-drawn : (event : Event) (n : ℕ) → moved (drawn_by event n) ≡ option_to_list (drew p event n) ++ []
  moved-drawn (event.Draw member spir) n = one-moved (drew p (event.Draw member spir) n) ∙ sym (append-nil (option_to_list (drew p (event.Draw member spir) n)))
  moved-drawn event n = refl

  moved-end : (x : Option ℕ) → moved (end_moves x) ≡ []
  moved-end None = refl
  moved-end (Some member) = refl

  moved-asked : (seals : List Seal) (id : ℕ) → moved (asked_by seals id) ≡ option_to_list (asked_at p (out.Asked id) seals)
  moved-asked [] id = refl
  moved-asked (seal ∷ seals) id = one-moved (number_where p (place_of (asks_beside seal.name)) id)

  -- the numbers that a verdict has, without those of seals
  abbrev said_at : Event → Verdict → List Seal → List ℕ
  said_at event verdict seals = option_to_list (drawn_at p event verdict) ++ (option_to_list (packet_at p (accepted_as verdict)) ++ (option_to_list (request_at p (taken_as verdict)) ++ option_to_list (asked_at p verdict seals)))

  one-said : (x : Option ℕ) → cons_option x [] ≡ option_to_list x ++ []
  one-said x = one-moved x ∙ sym (append-nil (option_to_list x))

  moved-uses : (event : Event) (verdict : Verdict) (seals : List Seal) → moved (uses_of event verdict seals) ≡ said_at event verdict seals
  moved-uses event (out.Number n) seals = moved-drawn event n
  moved-uses event (out.Accepted name n next_header payload) seals = one-said (number_where p (place_of name) n)
  moved-uses event (out.Asked id) seals = moved-asked seals id
  moved-uses event (out.Executed name id mark) seals = one-said (request_at p (taken_as (out.Executed name id mark)))
  moved-uses event (out.Refusing name id notify) seals = one-said (request_at p (taken_as (out.Refusing name id notify)))
  moved-uses event verdict seals = moved-end (ended_by event verdict)

  pub turn-listed : (turn : Turn) → reverse (moved (moves_of turn)) ≡ listed_at p turn
  turn-listed turn =
      let used : List ℕ = option_to_list (drawn_at p turn.event turn.step.verdict) in
      let packet : List ℕ = option_to_list (packet_at p (accepted_in turn)) in
      let taken : List ℕ = option_to_list (request_at p (taken_in turn)) in
      let asked : List ℕ = option_to_list (asked_at p turn.step.verdict turn.step.seals) in
      let seals : List Move = map (λ seal. Seals (key_iv seal)) turn.step.seals in
      ap reverse (moved-calls turn.calls (uses_of turn.event turn.step.verdict turn.step.seals ++ seals)
      ∙ (moved-append (uses_of turn.event turn.step.verdict turn.step.seals) seals
      ∙ (ap (λ ns. ns ++ moved seals) (moved-uses turn.event turn.step.verdict turn.step.seals)
      ∙ (append_assoc used (packet ++ (taken ++ asked)) (moved seals)
      ∙ ap (λ ns. used ++ ns) (append_assoc packet (taken ++ asked) (moved seals)
      ∙ ap (λ ns. packet ++ ns) (append_assoc taken asked (moved seals)
      ∙ ap (λ ns. taken ++ (asked ++ ns)) (moved-seals turn.step.seals)))))))

  -- the numbers of a place after one more turn
  pub turn-numbers : (turn : Turn) (past : List Turn) → numbers_at p (acts_of (turn ∷ past)) ≡ listed_at p turn ++ numbers_at p (acts_of past)
  turn-numbers turn past = moves-numbers (actor_of turn) (moves_of turn) (acts_of past) ∙ ap (λ ns. ns ++ numbers_at p (acts_of past)) (turn-listed turn)

  -- the numbers of a place are those that the turns have
  pub numbers-listed : (past : List Turn) → numbers_at p (acts_of past) ≡ flat_map (listed_at p) past
  numbers-listed [] = refl
  numbers-listed (turn ∷ past) = turn-numbers turn past ∙ ap (λ ns. listed_at p turn ++ ns) (numbers-listed past)
