-- The moves of every turn that is explained may be made.
use Rattle.turn_laws.proofs.Settled.{IsInOrder, lots-ordered, lease-lot}
use Rattle.keeper_book.specs.declared.pools.Pool.{Pool}
use Rattle.pool_lots.specs.declared.lots.TheConstants.{LEASED_NUMBERS}
use Rattle.std.proofs.Common.{◌≡◌, ℕ, ◌<◌, ◌≤◌, ◌==◌, max, true, Bool, Option, Some, None, MatchOption, List, [], ◌∷◌, ◌++◌, map, ⊎_elim, refl, ap, sym, ◌∙◌, subst, arith, ◌⊎◌, length}
use Rattle.std.proofs.lemmas.Bool.{cases_lt, eq-eqb}
use Rattle.std.specs.List.{AllByRecursion}
use Rattle.events.specs.declared.event.Event.{Event}
use Rattle.events.specs.declared.turn.Step.{Step}
use Rattle.events.specs.declared.turn.Turn.{Turn}
use Rattle.horizons.specs.Reaches.{Reach, cover_of, lead_of}
use Rattle.horizons.specs.Ready.{Answered, Covers}
use Rattle.horizons.specs.Stops.{stop_of}
use Rattle.horizons.specs.declared.stop.Stop.{Stop}
use Rattle.keeper_book.specs.CounterEnds.{end_of}
use Rattle.keeper_book.specs.Counters.{five_at}
use Rattle.keeper_book.specs.Told.{seen}
use Rattle.keeper_book.specs.declared.calls.Call.{Call}
use Rattle.keeper_book.specs.declared.calls.KeeperAnswer.{KeeperAnswer}
use Rattle.keeper_book.specs.declared.calls.KeeperAnswer.TheVariants as answer
use Rattle.keeper_book.specs.declared.calls.KeeperAsk.TheVariants as ask
use Rattle.keeper_book.specs.declared.counters.Counter.{Counter}
use Rattle.keeper_book.specs.declared.counters.Counter.TheVariants as counter
use Rattle.turn_laws.proofs.Acting.{MayDoMoves}
use Rattle.turn_laws.proofs.Covers.{IsCover, IsLease}
use Rattle.turn_laws.proofs.Answered.{AreAnswering}
use Rattle.turn_laws.proofs.Lists.{all-filter}
use Rattle.turn_laws.proofs.Deeds.{IsAnswering, AreReady, Asked, Deed, Ended, IsOpenTo, Last, Need, NoneStarted, Rested, Rests, Used, Used_theirs, UsesIt, rest_of, spent_by, PeerNeed, spent_theirs, LotNeed, lots_of, IsLotReady, with_lot, Left, Leased, InVain}
use Rattle.turn_laws.proofs.Entries.{is_counter-same}
use Rattle.turn_laws.proofs.Holdings.{is_actor-same}
use Rattle.turn_rules.proofs.SlotTies.{all-weaker}
use Rattle.turn_rules.proofs.Readies.{counter-named}
use Rattle.turn_laws.proofs.Outcomes.{over-rest, rests-rest}
use Rattle.turn_laws.proofs.Tells.{Tells, tells}
use Rattle.turn_laws.proofs.Uses.{may-use, Spent, all-among}
use Rattle.turn_laws.specs.Acts.{Act, Calls, HoldsFor, MayDo, act_by, effect_ours, holding_at, lot_begun, begun_at}
use Rattle.turn_laws.specs.Holdings.{Actor, End, Holding, IsNotIn, holding_after, is_actor, raised_to}
use Rattle.turn_laws.specs.Places.{Ours, Theirs, Pooled}
use Rattle.turn_laws.specs.Turns.{actor_as, told, acts_of}
use Rattle.turn_rules.specs.Draws.{reach_of}
use Rattle.turn_rules.specs.Ends.{Member, Peer, is_by, own, performer_at}
use Rattle.turn_rules.specs.Held.{covered, is_named, window_by}
use Rattle.turn_rules.specs.Slots.{Slot, first_slot, peer_counter, slots_by}

lead_some : (c : Counter) → 0 < lead_of c
lead_some counter.EspOut = omega arith
lead_some counter.EspIn = omega arith
lead_some counter.Iv = omega arith
lead_some counter.Ask = omega arith
lead_some counter.Answer = omega arith

-- a rise to nothing
raised-zero : (h : Holding) → h ≡ raised_to 0 h
raised-zero h i = record h { high = same i }
  where
    same : h.high ≡ max 0 h.high
    same = omega arith

-- Calls that make numbers ready may be made, and then what follows them.
module _ (past : List Turn) (member : ℕ) (event : Event) (step : Step) where
  abbrev w : Actor
  w = End (Member member)

  abbrev MayMake : List Act → List Call → Type 0
  MayMake acts calls = MayDoMoves acts w (map Calls calls ++ rest_of event step)

  -- what a member holds of a counter whose number it needs; covers raise it
  pub record Kept (need : Need past member) (acts : List Act) : Type 0 where
    pub now : Holding
    pub holds : holding_at (Ours need.held.sa.spir need.c) acts w ≡ Some now
    pub epoch : now.epoch ≡ need.held.epoch
    pub end : now.end ≡ end_of need.held.sa need.c
    pub high : five_at need.held.highs need.c ≤ now.high
    pub from_base : now.base ≤ need.number
    pub unused : IsNotIn need.number now.numbers

  -- and once it is ready
  pub record IsUsable (need : Need past member) (acts : List Act) : Type 0 where
    pub kept : Kept need acts
    pub above : need.number < kept.now.high

  abbrev raised-kept : (need : Need past member) (acts later : List Act) (kept : Kept need acts) (upto : ℕ) → holding_at (Ours need.held.sa.spir need.c) later w ≡ Some (raised_to upto kept.now) → Kept need later
  raised-kept need acts later kept upto holds = record {
    now = raised_to upto kept.now;
    holds = holds;
    epoch = kept.epoch;
    end = kept.end;
    high = let a : five_at need.held.highs need.c ≤ kept.now.high = kept.high in omega arith;
    from_base = kept.from_base;
    unused = kept.unused;
  }

  -- what a cover does to what is held
  module _ (acts : List Act) (call : Call) (cover : IsCover call) where
    abbrev now : List Act
    now = act_by w (Calls call) ∷ acts

    covered-holds : (spir : ℕ) (c : Counter) (h : Holding) → holding_at (Ours spir c) acts w ≡ Some h → (upto : ℕ) × (holding_at (Ours spir c) now w ≡ Some (raised_to upto h))
    covered-holds spir c h holds = let asked : _ = cover.asked in rw asked (go (covered spir c (ask.Cover cover.spir cover.kind cover.child cover.epoch cover.upto) (seen call)))
      where
        go : (x : Option ℕ) → (upto : ℕ) × (holding_after (effect_ours w c None x) (holding_at (Ours spir c) acts) w ≡ Some (raised_to upto h))
        go None = (0, holds ∙ ap Some (raised-zero h))
        go (Some n) = (n, let here : is_actor w w ≡ true = is_actor-same w in rw (here, holds) refl)

    abbrev kept-later : (need : Need past member) → Kept need acts → Kept need now
    kept-later need kept = let so = covered-holds need.held.sa.spir need.c kept.now kept.holds in raised-kept need acts now kept so.0 so.1

    usable-later : (need : Need past member) → IsUsable need acts → IsUsable need now
    usable-later need usable = record {
      kept = kept-later need usable.kept;
      above = let a : need.number < usable.kept.now.high = usable.above in let so = covered-holds need.held.sa.spir need.c usable.kept.now usable.kept.holds in let b : need.number < max so.0 usable.kept.now.high = omega arith in b;
    }

  module _ (need : Need past member) (acts : List Act) (kept : Kept need acts) (call : Call) where
    abbrev r : Reach
    r = reach_of need.held need.c

    abbrev AsksCover : Type 0
    AsksCover = call.asked ≡ ask.Cover r.spir r.name.kind r.name.child r.epoch (cover_of r need.number)

    is-cover : AsksCover → IsCover call
    is-cover asked = record { spir = r.spir; kind = r.name.kind; child = r.name.child; epoch = r.epoch; upto = cover_of r need.number; asked = asked }

    may_cover : AsksCover → MayDo acts w (Calls call)
    may_cover asked = let named : _ = counter-named need.c in
        rw (asked, named) (record { holding = kept.now; holds = kept.holds; in_epoch = kept.epoch; within_end = let last : kept.now.end ≡ r.end = kept.end in omega arith })

    -- a cover that was acknowledged makes the number ready
    covered-usable : AsksCover → need.number < r.end → seen call ≡ answer.Done → IsUsable need (act_by w (Calls call) ∷ acts)
    covered-usable asked below sees = record {
      kept = raised-kept need acts (act_by w (Calls call) ∷ acts) kept (cover_of r need.number) holds;
      above = let some : 0 < lead_of need.c = lead_some need.c in let b : need.number < max (cover_of r need.number) kept.now.high = omega arith in b;
    }
      where
        holds : holding_at (Ours need.held.sa.spir need.c) (act_by w (Calls call) ∷ acts) w ≡ Some (raised_to (cover_of r need.number) kept.now)
        holds =
            let here : (r.spir == r.spir) ≡ true = eq-eqb r.spir r.spir refl in
            let this : is_named need.c (Some need.c) ≡ true = is_counter-same need.c in
            let mine : is_actor w w ≡ true = is_actor-same w in
            let held : _ = kept.holds in
            let named : _ = counter-named need.c in
            rw (asked, sees, here, named, this, mine, held)

  module _ (stops : Type 0) (goes : List Call → Type 0) (stopped : (acts : List Act) → stops → MayMake acts []) where
    ends-well : (acts : List Act) (rest : List Call) (so : Type 0) → Last rest so → (so → MayMake acts []) → MayMake acts rest
    ends-well acts rest so last f = subst (λ calls. MayMake acts calls) (sym last.ended) (f last.is)

    -- one number gets ready, and then the others
    module _ (need : Need past member) (needs : List (Need past member)) (P : List Act → Type 0) (later : (acts : List Act) (call : Call) → IsCover call → P acts → P (act_by w (Calls call) ∷ acts))
        (rec : (acts : List Act) → P acts × IsUsable need acts → AllByRecursion (λ n. Kept n acts) needs → (calls : List Call) → AreReady needs calls stops goes → MayMake acts calls)
        (acts : List Act) (p : P acts) (kept : Kept need acts) (others : AllByRecursion (λ n. Kept n acts) needs) where
      answered-well : (call : Call) → AsksCover need acts kept call → need.number < end_of need.held.sa need.c → (answered : KeeperAnswer) (rest : List Call) → seen call ≡ answered
          → Answered answered (λ why. Last rest stops) (AreReady needs rest stops goes) → MayMake (act_by w (Calls call) ∷ acts) rest
      answered-well call asked below answer.Done rest sees a =
          let cover : IsCover call = is-cover need acts kept call asked in
          rec (act_by w (Calls call) ∷ acts) (later acts call cover p, covered-usable need acts kept call asked below sees) (all-weaker needs (λ n k. kept-later acts call cover n k) others) rest a
      answered-well call asked below (answer.Taken taken) rest sees a = absurd a
      answered-well call asked below (answer.First first) rest sees a = absurd a
      answered-well call asked below (answer.Look spent) rest sees a = absurd a
      answered-well call asked below (answer.Refused why) rest sees a = go (stop_of why) a
        where
          go : (x : Option Stop) → MatchOption x ⊥ (λ why. Last rest stops) → MayMake (act_by w (Calls call) ∷ acts) rest
          go None a = absurd a
          go (Some why) a = ends-well (act_by w (Calls call) ∷ acts) rest stops a (stopped (act_by w (Calls call) ∷ acts))

      covers-well : need.number < end_of need.held.sa need.c → (calls : List Call) → Covers (reach_of need.held need.c) need.number calls (λ why rest. Last rest stops) (λ high rest. AreReady needs rest stops goes) → MayMake acts calls
      covers-well below [] c = absurd c
      covers-well below (call ∷ rest) c = (may_cover need acts kept call c.0, answered-well call c.0 below (seen call) rest refl c.1)

      one-well : (calls : List Call) → AreReady (need ∷ needs) calls stops goes → MayMake acts calls
      one-well calls ready = ⊎_elim
          (λ l. rec acts (p, record { kept = kept; above = let a : five_at need.held.highs need.c ≤ kept.now.high = kept.high in let b : need.number < kept.now.high = omega arith in b }) others calls (ready.within l))
          (λ l. ⊎_elim (λ b. covers-well b calls (ready.asked l b)) (λ e. ends-well acts calls stops (ready.ended l e) (stopped acts)) (cases_lt need.number (end_of need.held.sa need.c)))
          (cases_lt need.number (five_at need.held.highs need.c))

    pub ready-well : (needs : List (Need past member)) (P : List Act → Type 0) → ((acts : List Act) (call : Call) → IsCover call → P acts → P (act_by w (Calls call) ∷ acts))
        → ((acts : List Act) → P acts → AllByRecursion (λ n. IsUsable n acts) needs → (calls : List Call) → goes calls → MayMake acts calls)
        → (acts : List Act) → P acts → AllByRecursion (λ n. Kept n acts) needs → (calls : List Call) → AreReady needs calls stops goes → MayMake acts calls
    ready-well [] P later gone acts p kept calls so = gone acts p tt calls so
    ready-well (need ∷ needs) P later gone acts p kept calls ready = one-well need needs P later
        (ready-well needs (λ acts. P acts × IsUsable need acts) (λ acts call cover both. (later acts call cover both.0, usable-later acts call cover need both.1)) (λ acts both all. gone acts both.0 (both.1, all)))
        acts p kept.0 kept.1 calls ready

  usable-holds : (acts : List Act) (needs : List (Need past member)) → AllByRecursion (λ n. IsUsable n acts) needs → AllByRecursion (λ s. HoldsFor (holding_at s.place acts w) s.number) (map spent_by needs)
  usable-holds acts [] all = tt
  usable-holds acts (need ∷ needs) all = (
    record {
      holding = all.0.kept.now;
      holds = all.0.kept.holds;
      may = record { from_base = all.0.kept.from_base; below_high = all.0.above; unused = all.0.kept.unused };
    },
    usable-holds acts needs all.1,
  )

  -- what own turns tell is kept
  told-kept : (acts : List Act) → AreAnswering (own (Member member) past) → ((spir : ℕ) (c : Counter) → told spir c (own (Member member) past) ≡ holding_at (Ours spir c) acts w) → (needs : List (Need past member)) → AllByRecursion (λ n. Kept n acts) needs
  told-kept acts answering agrees [] = tt
  told-kept acts answering agrees (need ∷ needs) = (one (tells (window_by past) (own (Member member) past) need.held.sa.spir need.c need.held need.is_held), told-kept acts answering agrees needs)
    where
      one : (h : Holding) × Tells (own (Member member) past) need.held.sa.spir need.c need.held h → Kept need acts
      one so = record {
        now = so.0;
        holds = sym (agrees need.held.sa.spir need.c) ∙ so.1.told_so;
        epoch = so.1.epoch;
        end = so.1.end;
        high = let a : so.0.high ≡ five_at need.held.highs need.c = so.1.high in omega arith;
        from_base = (so.1.unused need.number answering need.is_open).0;
        unused = (so.1.unused need.number answering need.is_open).1;
      }

  -- what a member may use before a lease it may use after it
  module _ (acts : List Act) (call : Call) (lease : IsLease call) where
    abbrev leased : List Act
    leased = act_by w (Calls call) ∷ acts

    leased-holds : (spir : ℕ) (c : Counter) → holding_at (Ours spir c) leased w ≡ holding_at (Ours spir c) acts w
    leased-holds spir c = let asked : _ = lease.asked in rw asked refl

    leased-usable : (needs : List (Need past member)) → AllByRecursion (λ n. IsUsable n acts) needs → AllByRecursion (λ n. IsUsable n leased) needs
    leased-usable needs all = all-weaker needs (λ need usable. record {
      kept = record {
        now = usable.kept.now;
        holds = leased-holds need.held.sa.spir need.c ∙ usable.kept.holds;
        epoch = usable.kept.epoch;
        end = usable.kept.end;
        high = usable.kept.high;
        from_base = usable.kept.from_base;
        unused = usable.kept.unused;
      };
      above = usable.above;
    }) all

    may-lease : MayDo acts w (Calls call)
    may-lease = let asked : _ = lease.asked in rw asked tt

  -- the lots are those before the turn, until one is leased
  abbrev AreLots : List Act → Type 0
  AreLots acts = (pool : Pool) → holding_at (Pooled pool) acts w ≡ lots_of past member pool

  lots-later : (acts : List Act) (call : Call) → IsCover call → AreLots acts → AreLots (act_by w (Calls call) ∷ acts)
  lots-later acts call cover lots pool = (let asked : _ = cover.asked in rw asked refl) ∙ lots pool

  abbrev MayAll : List Act → List Spent → Type 0
  MayAll acts ss = AllByRecursion (λ s. HoldsFor (holding_at s.place acts w) s.number) ss

  it-well : (acts : List Act) (needed : List Spent) → MayAll acts needed → UsesIt needed event step → MayMake acts []
  it-well acts needed may it = may-use w acts it.ss (rest_of event step) it.uses_them it.apart (all-among (λ s. HoldsFor (holding_at s.place acts w) s.number) it.ss needed may it.were_needed)

  rests-well : (acts : List Act) → Rests step → MayMake acts []
  rests-well acts rests = let quiet : _ = rests-rest event step rests in rw quiet tt

  -- the next number of a lot
  left-may : (acts : List Act) (need : LotNeed) (h : Holding) → AreLots acts → lots_of past member need.pool ≡ Some h → h.next < h.high → need.number ≡ h.next → HoldsFor (holding_at (Pooled need.pool) acts w) need.number
  left-may acts need h lots holds below is =
      let order : IsInOrder h = lots-ordered (acts_of past) need.pool w h holds in
      subst (λ n. HoldsFor (holding_at (Pooled need.pool) acts w) n) (sym is) (record {
        holding = h;
        holds = lots need.pool ∙ holds;
        may = record { from_base = order.from_base; below_high = below; unused = all-weaker h.numbers (λ k less same. absurd (let a : k < h.next = less in omega (arith, same))) order.above_used };
      })

  -- and the first one of a range that was leased
  leased-may : (acts : List Act) (need : LotNeed) (call : Call) → call.asked ≡ ask.Lease need.pool LEASED_NUMBERS → seen call ≡ answer.First need.number → HoldsFor (holding_at (Pooled need.pool) (act_by w (Calls call) ∷ acts) w) need.number
  leased-may acts need call asked sees = record {
    holding = lot_begun (length (begun_at (Pooled need.pool) acts).bases) need.pool need.number LEASED_NUMBERS;
    holds = lease-lot acts w need.pool need.number LEASED_NUMBERS call asked sees;
    may = record { from_base = omega arith; below_high = omega arith; unused = tt };
  }

  lot-well : (needs : List (Need past member)) (lot : Option LotNeed) (acts : List Act) → AreLots acts → AllByRecursion (λ n. IsUsable n acts) needs → (calls : List Call)
      → IsLotReady lot (lots_of past member) calls (Rests step ⊎ UsesIt (map spent_by needs) event step) (UsesIt (with_lot lot (map spent_by needs)) event step) → MayMake acts calls
  lot-well needs None acts lots usable calls last = subst (λ calls. MayMake acts calls) (sym last.ended) (it-well acts (map spent_by needs) (usable-holds acts needs usable) last.is)
  lot-well needs (Some need) acts lots usable calls (Left h holds below is ended it) = subst (λ calls. MayMake acts calls) (sym ended)
      (it-well acts (with_lot (Some need) (map spent_by needs)) (left-may acts need h lots holds below is, usable-holds acts needs usable) it)
  lot-well needs (Some need) acts lots usable calls (Leased call one asked sees it) =
      let lease : IsLease call = record { pool = need.pool; asked = asked } in
      subst (λ calls. MayMake acts calls) (sym one) (
        may-lease acts call lease,
        it-well (act_by w (Calls call) ∷ acts) (with_lot (Some need) (map spent_by needs)) (leased-may acts need call asked sees, usable-holds (act_by w (Calls call) ∷ acts) needs (leased-usable acts call lease needs usable)) it,
      )
  lot-well needs (Some need) acts lots usable calls (InVain call why one asked sees so) =
      let lease : IsLease call = record { pool = need.pool; asked = asked } in
      subst (λ calls. MayMake acts calls) (sym one) (
        may-lease acts call lease,
        ⊎_elim (λ rests. rests-well (act_by w (Calls call) ∷ acts) rests)
            (λ it. it-well (act_by w (Calls call) ∷ acts) (map spent_by needs) (usable-holds (act_by w (Calls call) ∷ acts) needs (leased-usable acts call lease needs usable)) it) so,
      )

  -- a member uses the numbers that it needs
  pub uses-well : (acts : List Act) → AreAnswering (own (Member member) past) → ((spir : ℕ) (c : Counter) → told spir c (own (Member member) past) ≡ holding_at (Ours spir c) acts w) → AreLots acts → (needs : List (Need past member)) (lot : Option LotNeed) (calls : List Call)
      → AreReady needs calls (Rests step) (λ rest. IsLotReady lot (lots_of past member) rest (Rests step ⊎ UsesIt (map spent_by needs) event step) (UsesIt (with_lot lot (map spent_by needs)) event step)) → MayMake acts calls
  uses-well acts answering agrees lots needs lot calls ready = ready-well (Rests step) _
      rests-well
      needs AreLots lots-later
      (λ acts lots usable calls so. lot-well needs lot acts lots usable calls so)
      acts lots (told-kept acts answering agrees needs) calls ready

-- the peer may use what is open to it
abbrev pub PeerMayUse : List Turn → List Act → Type 0
PeerMayUse past acts = (test : Slot → Bool) (slot : Slot) → first_slot test (slots_by (window_by past) (own Peer past)) ≡ Some slot → (c : Counter) (n : ℕ) → IsOpenTo slot c n → HoldsFor (holding_at (Theirs (peer_counter slot.sa c)) acts (End Peer)) n

module _ (past : List Turn) (acts : List Act) (answering : AreAnswering past) (agrees : (member spir : ℕ) (c : Counter) → told spir c (own (Member member) past) ≡ holding_at (Ours spir c) acts (End (Member member))) (peer_may : PeerMayUse past acts) (none_started : NoneStarted acts)
    (lots : (member : ℕ) (pool : Pool) → holding_at (Pooled pool) acts (End (Member member)) ≡ lots_of past member pool) (event : Event) (calls : List Call) (step : Step) where
  -- the moves of a deed may be made
  pub deed-well : Deed past event calls step → MayDoMoves acts (actor_as (performer_at event step.verdict)) (map Calls calls ++ rest_of event step)
  deed-well (Rested none rests no_entry) = let quiet : _ = rests-rest event step rests in rw (none, quiet) tt
  deed-well (Asked asks) = let quiet : _ = rests-rest event step asks.rests in let one : _ = asks.one in rw (one, quiet) (asks.may acts (actor_as (performer_at event step.verdict)) none_started, tt)
  deed-well (Ended member by none said ends quiet) = let over : _ = over-rest event step member said ends quiet in rw (none, over) (tt, tt)
  deed-well (Used u) =
      subst (λ v. MayDoMoves acts v (map Calls calls ++ rest_of event step)) (sym (ap actor_as u.by_it))
      (uses-well past u.member event step acts (all-filter (λ (turn : Turn). IsAnswering turn.step) (is_by (Member u.member)) past answering) (λ spir c. agrees u.member spir c) (lots u.member) u.needs u.lot calls u.ready)
  deed-well (Used_theirs u) =
      subst (λ v. MayDoMoves acts v (map Calls calls ++ rest_of event step)) (sym (ap actor_as u.by_it))
      (let none : _ = u.no_calls in rw none
      (may-use (End Peer) acts (map spent_theirs u.needs) (rest_of event step) u.uses_them u.apart (each u.needs)))
    where
      each : (needs : List (PeerNeed past)) → AllByRecursion (λ s. HoldsFor (holding_at s.place acts (End Peer)) s.number) (map spent_theirs needs)
      each [] = tt
      each (need ∷ needs) = (peer_may need.test need.slot need.is_first need.c need.number need.is_open, each needs)
