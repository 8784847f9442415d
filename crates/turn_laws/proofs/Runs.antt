-- What the moves of one end do to what it holds, and that they leave what others hold.
use Rattle.std.proofs.lemmas.Bool.{eq-eqb}
use Rattle.std.proofs.lemmas.Option.{same_Some}
use Rattle.keeper_book.specs.declared.calls.KeeperAnswer.TheVariants as answer
use Rattle.keeper_book.specs.declared.counters.Counter.TheVariants as counter
use Rattle.keeper_book.specs.declared.calls.KeeperAsk.TheVariants as ask
use Rattle.keeper_book.specs.declared.calls.KeeperAnswer.{KeeperAnswer}
use Rattle.ha_base.specs.declared.counter_names.Derivation.{Derivation}
use Rattle.keeper_book.specs.declared.calls.KeeperAsk.{KeeperAsk}
use Rattle.std.proofs.Common.{◌≡◌, ◌≢◌, ℕ, ◌≤◌, Bool, true, false, Option, Some, None, List, [], ◌∷◌, ◌++◌, map, ⊎_elim, refl, ap, sym, ◌∙◌, subst, arith, if◌then◌else◌, length, ◌==◌}
use Rattle.std.proofs.lemmas.Bool.Decides.{eqb_tells}
use Rattle.std.specs.List.{AllByRecursion, cons_option}
use Rattle.std.specs.Option.{option_map}
use Rattle.keeper_book.specs.Book.{Book, EntersAll}
use Rattle.keeper_book.specs.Told.{seen}
use Rattle.keeper_book.specs.declared.calls.Call.{Call}
use Rattle.keeper_book.specs.declared.counters.Counter.{Counter}
use Rattle.keeper_book.specs.declared.records.Record.{Record}
use Rattle.keeper_book.specs.declared.records.Taken.{Taken}
use Rattle.turn_laws.proofs.Acting.{MayDoMoves, moves_onto}
use Rattle.turn_laws.proofs.Holdings.{differ, is_actor-same}
use Rattle.turn_laws.specs.Acts.{Act, Calls, Ends, IsNotBy, Leaps, Move, Opens, Seals, Spares, Starts, Uses, act_by, acts_onto, begun_at, begun_by, begun_open, begun_started, effect_begun, effect_of, effect_of_call, effect_of_open, effect_of_use, effect_ours, entered_as, holding_at, holding_begun, settled_as, effect_of_ours, lot_of, holding_settled}
use Rattle.turn_laws.specs.Columns.{Column}
use Rattle.turn_laws.specs.Holdings.{Actor, Begins, Draws, Effect, End, Half, Holding, Jumps, Nothing, Passes, Rises, Run, holding_after, is_actor, raised_to}
use Rattle.turn_laws.specs.Owned.{Lawful, WritesBook}
use Rattle.turn_laws.specs.Places.{Ours, Place, Pooled, Theirs, is_place, place_of}
use Rattle.turn_rules.proofs.Ties.{greatest-max}
use Rattle.turn_rules.specs.Ends.{Member, Peer, Performer, is_performer}
use Rattle.turn_rules.specs.Held.{covered, covers_in, first_some, grant_in, granted, greatest}
use Rattle.keeper_book.specs.declared.pools.Pool.TheVariants as pools

-- an effect changes what one end holds
abbrev IsBy : Actor → Effect → Type 0
IsBy w Nothing = Unit {0}
IsBy w (Begins v h) = v ≡ w
IsBy w (Rises v n) = v ≡ w
IsBy w (Draws v n) = v ≡ w
IsBy w (Jumps v n) = v ≡ w
IsBy w (Passes u v) = ⊥

module _ (w : Actor) where
  by-ours : (c : Counter) (grant : Option Taken) (upto : Option ℕ) → IsBy w (effect_ours w c grant upto)
  by-ours c (Some taken) upto = refl
  by-ours c None (Some n) = refl
  by-ours c None None = tt

  by-begun : (x : Option Holding) → IsBy w (effect_begun w x)
  by-begun (Some h) = refl
  by-begun None = tt

  by-use : (p q : Place) (n : ℕ) → IsBy w (effect_of_use p q w n)
  by-use p q n = by_test (is_place q p)
    where
      by_test : (b : Bool) → IsBy w (if b then Draws w n else Nothing)
      by_test true = refl
      by_test false = tt

  by-leap : (p q : Place) (n : ℕ) → IsBy w (if is_place q p then Jumps w n else Nothing)
  by-leap p q n = by_test (is_place q p)
    where
      by_test : (b : Bool) → IsBy w (if b then Jumps w n else Nothing)
      by_test true = refl
      by_test false = tt

-- an effect of one end leaves what another one holds
other-effect : (w v : Actor) → w ≢ v → (held : Actor → Option Holding) (e : Effect) → IsBy w e → holding_after e held v ≡ held v
other-effect w v differs held Nothing by = refl
other-effect w v differs held (Begins u h) by = let no : is_actor u v ≡ false = differ u v (λ same. differs (sym by ∙ same)) in rw no
other-effect w v differs held (Rises u n) by = let no : is_actor u v ≡ false = differ u v (λ same. differs (sym by ∙ same)) in rw no
other-effect w v differs held (Jumps u n) by = let no : is_actor u v ≡ false = differ u v (λ same. differs (sym by ∙ same)) in rw no
other-effect w v differs held (Passes u x) by = absurd by
other-effect w v differs held (Draws u n) by = let no : is_actor u v ≡ false = differ u v (λ same. differs (sym by ∙ same)) in rw no

-- what is settled is settled under its own SPI
settled-own : (spir : ℕ) (asked : KeeperAsk) (answered : KeeperAnswer) (sa : Record) → settled_as spir asked answered ≡ Some sa → settled_as sa.spir asked answered ≡ Some sa
settled-own spir (ask.Settle ticket asked given member) answer.Done sa is = by_test (given.spir == spir) refl is
  where
    by_test : (b : Bool) → (given.spir == spir) ≡ b → (if b then Some given else None) ≡ Some sa → (if given.spir == sa.spir then Some given else None) ≡ Some sa
    by_test true t is = let same : given ≡ sa = same_Some given sa is in subst (λ (x : Record). (if given.spir == x.spir then Some given else None) ≡ Some x) same (let here : (given.spir == given.spir) ≡ true = eq-eqb given.spir given.spir refl in rw here refl)
    by_test false t is = absurd (cc)
settled-own spir asked answered sa is = absurd (cc)

-- an act that is not by one, and neither opens nor settles it, leaves what it holds
module _ (p : Place) (begun : Column) (w v : Actor) (held : Actor → Option Holding) (other : w ≢ v) where
  opened-other : (ticket : ℕ) (made : Derivation) → Spares v (Opens ticket made) → Half made.spir ≢ v
  opened-other ticket made spares = by_actor v spares
    where
      by_actor : (v : Actor) → Spares v (Opens ticket made) → Half made.spir ≢ v
      by_actor Run spares same = absurd (cc)
      by_actor (End end) spares same = absurd (cc)
      by_actor (Half spir) spares same = spares (let e : Half made.spir ≡ Half spir = same in cc)

  -- what is settled passes from what was half open
  passed-other : (u : Actor) → u ≢ v → holding_after (Passes u w) held v ≡ held v
  passed-other u differs = let no : is_actor w v ≡ false = differ w v other in let none : is_actor u v ≡ false = differ u v differs in rw (no, none)

  settled-other : (spir : ℕ) (call : Call) (sa : Record) → settled_as spir call.asked (seen call) ≡ Some sa → Spares v (Calls call) → Half sa.spir ≢ v
  settled-other spir call sa is spares = by_actor v spares
    where
      by_actor : (v : Actor) → Spares v (Calls call) → Half sa.spir ≢ v
      by_actor Run spares same = absurd (cc)
      by_actor (End end) spares same = absurd (cc)
      by_actor (Half half) spares same =
          let at : sa.spir ≡ half = (let e : Half sa.spir ≡ Half half = same in cc) in
          let own : settled_as half call.asked (seen call) ≡ Some sa = ap (λ n. settled_as n call.asked (seen call)) (sym at) ∙ settled-own spir call.asked (seen call) sa is in
          let none : settled_as half call.asked (seen call) ≡ None = spares in
          absurd (cc)

  ours-other : (spir : ℕ) (c : Counter) (call : Call) → Spares v (Calls call) → (x : Option Record) → settled_as spir call.asked (seen call) ≡ x → (grant : Option Taken) (upto : Option ℕ) → holding_after (effect_of_ours w c x grant upto) held v ≡ held v
  ours-other spir c call spares None e grant upto = other-effect w v other held (effect_ours w c grant upto) (by-ours w c grant upto)
  ours-other spir counter.Iv call spares (Some sa) e grant upto = passed-other (Half sa.spir) (settled-other spir call sa e spares)
  ours-other spir counter.EspOut call spares (Some sa) e grant upto = other-effect w v other held (Begins w (holding_settled counter.EspOut sa)) refl
  ours-other spir counter.EspIn call spares (Some sa) e grant upto = other-effect w v other held (Begins w (holding_settled counter.EspIn sa)) refl
  ours-other spir counter.Ask call spares (Some sa) e grant upto = other-effect w v other held (Begins w (holding_settled counter.Ask sa)) refl
  ours-other spir counter.Answer call spares (Some sa) e grant upto = other-effect w v other held (Begins w (holding_settled counter.Answer sa)) refl

  other-move : (move : Move) → Spares v move → holding_after (effect_of p begun w move) held v ≡ held v
  other-move (Calls call) spares = by_place p
    where
      by_place : (p : Place) → holding_after (effect_of_call p begun w call.asked (seen call)) held v ≡ held v
      by_place (Ours spir c) = ours-other spir c call spares (settled_as spir call.asked (seen call)) refl (granted spir call.asked (seen call)) (covered spir c call.asked (seen call))
      by_place (Theirs name) = other-effect w v other held (effect_begun w (begun_by name (entered_as call.asked (seen call)))) (by-begun w (begun_by name (entered_as call.asked (seen call))))
      by_place (Pooled q) = other-effect w v other held (effect_begun w (lot_of q (length begun.bases) call.asked (seen call))) (by-begun w (lot_of q (length begun.bases) call.asked (seen call)))
  other-move (Uses q n) spares = other-effect w v other held (effect_of_use p q w n) (by-use w p q n)
  other-move (Seals key) spares = other-effect w v other held (effect_of_use p (place_of key.name) w key.iv) (by-use w p (place_of key.name) key.iv)
  other-move (Leaps q n) spares = other-effect w v other held (if is_place q p then Jumps w n else Nothing) (by-leap w p q n)
  other-move (Opens ticket made) spares = by_place p
    where
      opens : (p : Place) → holding_after (effect_begun (Half made.spir) (begun_open p made.spir)) held v ≡ held v
      opens p = other-effect (Half made.spir) v (opened-other ticket made spares) held (effect_begun (Half made.spir) (begun_open p made.spir)) (by-begun (Half made.spir) (begun_open p made.spir))

      by_place : (p : Place) → holding_after (effect_of_open p w made.spir) held v ≡ held v
      by_place (Ours spir c) = opens (Ours spir c)
      by_place (Theirs name) = opens (Theirs name)
      by_place (Pooled q) = other-effect w v other held (effect_of_use (Pooled q) (Pooled pools.Nonce) w made.spir) (by-use w (Pooled q) (Pooled pools.Nonce) made.spir)
  other-move (Starts sa) spares = other-effect w v other held (effect_begun w (begun_started p sa)) (by-begun w (begun_started p sa))
  other-move Ends spares = refl

-- acts that are not by one leave what it holds
pub others-leave : (p : Place) (v : Actor) (more acts : List Act) → AllByRecursion (IsNotBy v) more → holding_at p (acts_onto more acts) v ≡ holding_at p acts v
others-leave p v [] acts all = refl
others-leave p v (act ∷ more) acts all = others-leave p v more (act ∷ acts) all.1 ∙ other-move p (begun_at p acts) act.by v (holding_at p acts) all.0.other act.move all.0.spares

-- moves of one end leave what another end holds
pub others-hold : (p : Place) (w : Actor) (end : Performer) → w ≢ End end → (moves : List Move) (acts : List Act) → holding_at p (moves_onto w moves acts) (End end) ≡ holding_at p acts (End end)
others-hold p w end differs moves acts = others-leave p (End end) (map (act_by w) moves) acts (go moves)
  where
    spared : (move : Move) → Spares (End end) move
    spared (Calls call) = tt
    spared (Opens ticket made) = tt
    spared move = tt

    go : (moves : List Move) → AllByRecursion (IsNotBy (End end)) (map (act_by w) moves)
    go [] = tt
    go (move ∷ moves) = (record { other = differs; spares = spared move }, go moves)

-- one list of moves, and then another one
pub onto-append : (w : Actor) (xs ys : List Move) (acts : List Act) → moves_onto w (xs ++ ys) acts ≡ moves_onto w ys (moves_onto w xs acts)
onto-append w [] ys acts = refl
onto-append w (x ∷ xs) ys acts = onto-append w xs ys (record { by = w; move = x } ∷ acts)

pub may_do-append : (w : Actor) (xs ys : List Move) (acts : List Act) → MayDoMoves acts w (xs ++ ys) → MayDoMoves acts w xs × MayDoMoves (moves_onto w xs acts) w ys
may_do-append w [] ys acts may = (tt, may)
may_do-append w (x ∷ xs) ys acts may =
    let rest : MayDoMoves (record { by = w; move = x } ∷ acts) w xs × MayDoMoves (moves_onto w xs (record { by = w; move = x } ∷ acts)) w ys = may_do-append w xs ys (record { by = w; move = x } ∷ acts) may.1 in
    ((may.0, rest.0), rest.1)

-- the book of the calls
pub lawful-calls : (w : Actor) (calls : List Call) (acts : List Act) (old new : Book) → Lawful acts old → EntersAll old calls new → MayDoMoves acts w (map Calls calls) → Lawful (moves_onto w (map Calls calls) acts) new
lawful-calls w [] acts old new lawful enters may = subst (λ b. Lawful acts b) (sym enters) lawful
lawful-calls w (call ∷ calls) acts old new lawful enters may =
    lawful-calls w calls (record { by = w; move = Calls call } ∷ acts) enters.0 new (old, lawful, may.0, enters.1) enters.2 may.1

-- a move that is no call leaves the book
abbrev pub LeavesBook : Move → Type 0
LeavesBook move = (book : Book) → WritesBook book move book

pub lawful-quiet : (w : Actor) (moves : List Move) (acts : List Act) (book : Book) → AllByRecursion LeavesBook moves → Lawful acts book → MayDoMoves acts w moves → Lawful (moves_onto w moves acts) book
lawful-quiet w [] acts book leaves lawful may = lawful
lawful-quiet w (move ∷ moves) acts book leaves lawful may =
    lawful-quiet w moves (record { by = w; move = move } ∷ acts) book leaves.1 (book, lawful, may.0, leaves.0 book) may.1

-- calls in order, and then calls that follow them
pub enters_all-append : (xs ys : List Call) (old new : Book) → EntersAll old (xs ++ ys) new → (mid : Book) × EntersAll old xs mid × EntersAll mid ys new
enters_all-append [] ys old new enters = (old, refl, enters)
enters_all-append (x ∷ xs) ys old new enters =
    let rest : (mid : Book) × EntersAll enters.0 xs mid × EntersAll mid ys new = enters_all-append xs ys enters.0 new enters.2 in
    (rest.0, (enters.0, enters.1, rest.1), rest.2)

pub is_performer-sym : (a b : Performer) → is_performer a b ≡ is_performer b a
is_performer-sym Peer Peer = refl
is_performer-sym Peer (Member b) = refl
is_performer-sym (Member a) Peer = refl
is_performer-sym (Member a) (Member b) = ⊎_elim
    (λ t. t.0 ∙ sym (⊎_elim (λ s. s.0) (λ s. absurd (s.1 (sym t.1))) (eqb_tells b a)))
    (λ f. f.0 ∙ sym (⊎_elim (λ s. absurd (f.1 (sym s.1))) (λ s. s.0) (eqb_tells b a)))
    (eqb_tells a b)

pub greatest-least : (least : ℕ) (ns : List ℕ) → least ≤ greatest least ns
greatest-least least [] = omega arith
greatest-least least (x ∷ xs) = let rest : least ≤ greatest least xs = greatest-least least xs in omega arith

-- a holding up to where it was covered
abbrev raised_by : Option ℕ → Holding → Holding
raised_by None h = h
raised_by (Some n) h = raised_to n h

module _ (spir : ℕ) (c : Counter) (w : Actor) where
  -- a holding that covers raise
  abbrev pub covered_by : List Call → Holding → Holding
  covered_by calls h = record h { high = greatest h.high (covers_in spir c calls) }

  -- an answer to a call begins a holding, raises it, or leaves it
  by_answers : (held : Actor → Option Holding) (grant : Option Taken) (upto : Option ℕ) (x : Option Holding) → held w ≡ x → holding_after (effect_ours w c grant upto) held w ≡ first_some (option_map (holding_begun c) grant) (option_map (raised_by upto) x)
  by_answers held (Some taken) upto x e = let here : is_actor w w ≡ true = is_actor-same w in rw here
  by_answers held None (Some n) x e = let here : is_actor w w ≡ true = is_actor-same w in rw (here, e)
  by_answers held None None None e = e
  by_answers held None None (Some h) e = e

  raised_once : (call : Call) (x : Option Holding) → option_map (raised_by (covered spir c call.asked (seen call))) x ≡ option_map (covered_by (call ∷ [])) x
  raised_once call None = refl
  raised_once call (Some h) = go (covered spir c call.asked (seen call))
    where
      go : (upto : Option ℕ) → Some (raised_by upto h) ≡ Some (record h { high = greatest h.high (cons_option upto []) })
      go None = refl
      go (Some n) = refl

  granted_once : (call : Call) → option_map (holding_begun c) (granted spir call.asked (seen call)) ≡ option_map (holding_begun c) (grant_in spir (call ∷ []))
  granted_once call = go (granted spir call.asked (seen call))
    where
      go : (grant : Option Taken) → option_map (holding_begun c) grant ≡ option_map (holding_begun c) (first_some grant None)
      go None = refl
      go (Some taken) = refl

  -- where nothing is settled, by what was granted or covered
  unsettled-holds : (call : Call) (acts : List Act) → settled_as spir call.asked (seen call) ≡ None → holding_at (Ours spir c) (record { by = w; move = Calls call } ∷ acts) w ≡ holding_after (effect_ours w c (granted spir call.asked (seen call)) (covered spir c call.asked (seen call))) (holding_at (Ours spir c) acts) w
  unsettled-holds call acts none = ap (λ x. holding_after (effect_of_ours w c x (granted spir call.asked (seen call)) (covered spir c call.asked (seen call))) (holding_at (Ours spir c) acts) w) none

  -- what one call leaves
  pub held-call : (call : Call) (acts : List Act) → settled_as spir call.asked (seen call) ≡ None → holding_at (Ours spir c) (record { by = w; move = Calls call } ∷ acts) w ≡ first_some (option_map (holding_begun c) (grant_in spir (call ∷ []))) (option_map (covered_by (call ∷ [])) (holding_at (Ours spir c) acts w))
  held-call call acts none =
      unsettled-holds call acts none
      ∙ (by_answers (holding_at (Ours spir c) acts) (granted spir call.asked (seen call)) (covered spir c call.asked (seen call)) (holding_at (Ours spir c) acts w) refl
      ∙ (ap (λ g. first_some g (option_map (raised_by (covered spir c call.asked (seen call))) (holding_at (Ours spir c) acts w))) (granted_once call)
      ∙ ap (first_some (option_map (holding_begun c) (grant_in spir (call ∷ [])))) (raised_once call (holding_at (Ours spir c) acts w))))

  covered_more : (call : Call) (calls : List Call) (x : Option Holding) → option_map (covered_by calls) (option_map (raised_by (covered spir c call.asked (seen call))) x) ≡ option_map (covered_by (call ∷ calls)) x
  covered_more call calls None = refl
  covered_more call calls (Some h) = go (covered spir c call.asked (seen call))
    where
      go : (upto : Option ℕ) → Some (covered_by calls (raised_by upto h)) ≡ Some (record h { high = greatest h.high (cons_option upto (covers_in spir c calls)) })
      go None = refl
      go (Some n) = ap (λ high. Some (record h { high = high })) (greatest-max n h.high (covers_in spir c calls))

  -- calls that grant nothing leave a holding that their covers raise
  pub held-covers : (calls : List Call) (acts : List Act) → AllByRecursion (λ call. (granted spir call.asked (seen call) ≡ None) × (settled_as spir call.asked (seen call) ≡ None)) calls → holding_at (Ours spir c) (moves_onto w (map Calls calls) acts) w ≡ option_map (covered_by calls) (holding_at (Ours spir c) acts w)
  held-covers [] acts none = go (holding_at (Ours spir c) acts w)
    where
      go : (x : Option Holding) → x ≡ option_map (covered_by []) x
      go None = refl
      go (Some h) = refl
  held-covers (call ∷ calls) acts none =
      held-covers calls (record { by = w; move = Calls call } ∷ acts) none.1
      ∙ (ap (option_map (covered_by calls))
      (unsettled-holds call acts none.0.1
      ∙ (by_answers (holding_at (Ours spir c) acts) (granted spir call.asked (seen call)) (covered spir c call.asked (seen call)) (holding_at (Ours spir c) acts w) refl
      ∙ ap (λ g. first_some (option_map (holding_begun c) g) (option_map (raised_by (covered spir c call.asked (seen call))) (holding_at (Ours spir c) acts w))) none.0.0))
      ∙ covered_more call calls (holding_at (Ours spir c) acts w))
