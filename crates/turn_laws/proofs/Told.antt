-- What an end's own turns say that it holds of a counter is what the acts of all turns make of it.
use Rattle.std.proofs.Common.{◌≡◌, ℕ, ◌+◌, ◌⊎◌, inl, inr, Bool, true, false, Option, Some, None, List, [], ◌∷◌, ◌++◌, map, ⊎_elim, refl, ap, sym, ◌∙◌, subst, if◌then◌else◌, option_to_list}
use Rattle.std.specs.Prelude.{is_some, reverse}
use Rattle.std.specs.List.{AllByRecursion, cons_option, filter_map, flat_map}
use Rattle.std.specs.Option.{option_map}
use Rattle.events.specs.declared.event.Event.{Event}
use Rattle.events.specs.declared.turn.Step.{Step}
use Rattle.events.specs.declared.turn.Turn.{Turn}
use Rattle.keeper_book.specs.CounterEnds.{end_of}
use Rattle.keeper_book.specs.Counters.{five_at}
use Rattle.keeper_book.specs.Told.{seen}
use Rattle.keeper_book.specs.declared.calls.Call.{Call}
use Rattle.keeper_book.specs.declared.counters.Counter.{Counter}
use Rattle.keeper_book.specs.declared.records.Taken.{Taken}
use Rattle.turn_laws.specs.PeerTurns.{having_used}
use Rattle.turn_laws.proofs.Listed.{moved}
use Rattle.turn_laws.proofs.Moved.{moved-holds, rest-using}
use Rattle.turn_laws.proofs.Uses.{uses-moved}
use Rattle.turn_laws.proofs.Covers.{used-calls}
use Rattle.turn_laws.proofs.Acting.{moves_onto}
use Rattle.turn_laws.proofs.Deeds.{Asked, Deed, Ended, Rested, Used, Used_theirs, rest_of}
use Rattle.turn_laws.proofs.Outcomes.{Idle, Ours_used, Outcome, Over, Theirs_used, idle-taken, outcome-of, over-rest, over-taken, rests-rest}
use Rattle.turn_laws.proofs.Members.{is_end-false, is_end-true}
use Rattle.turn_laws.proofs.Records.{deed-of}
use Rattle.turn_laws.proofs.Runs.{covered_by, held-call, held-covers, onto-append, others-hold}
use Rattle.turn_laws.specs.Acts.{Act, Calls, holding_begun, holding_at, settled_as}
use Rattle.turn_laws.specs.Holdings.{Actor, End, Holding}
use Rattle.turn_laws.specs.Places.{Ours}
use Rattle.turn_laws.specs.Turns.{actor_as, actor_of, acts_of, moves_of, number_taken, turn_taken, told}
use Rattle.turn_rules.proofs.Ties.{greatest-append}
use Rattle.turn_rules.specs.Ends.{Member, Peer, is_by, own, performer, performer_at}
use Rattle.turn_rules.specs.Held.{after_number, covers_in, covers_of, first_some, found, grant_in, grant_of, granted, greatest, since}
use Rattle.turn_rules.specs.Local.{Explained}

-- what a turn makes of what is held, where it grants nothing
abbrev pub told_more : ℕ → Counter → Event → List Call → Step → Holding → Holding
told_more spir c event calls step h = record h { next = after_number (number_taken spir c event step) h.next; high = greatest h.high (covers_in spir c calls); numbers = cons_option (number_taken spir c event step) h.numbers }

-- what is held after one more turn of its own
abbrev pub told_after : ℕ → Counter → Event → List Call → Step → Option Holding → Option Holding
told_after spir c event calls step held = first_some (option_map (holding_begun c) (grant_in spir calls)) (option_map (told_more spir c event calls step) held)

-- the greatest number with one more, or none
greatest-cons : (least : ℕ) (x : Option ℕ) (ns : List ℕ) → greatest least (map (λ n. n + 1) (cons_option x ns)) ≡ after_number x (greatest least (map (λ n. n + 1) ns))
greatest-cons least None ns = refl
greatest-cons least (Some n) ns = refl

module _ (spir : ℕ) (c : Counter) (turn : Turn) (past : List Turn) where
  abbrev turns_since : Option Taken → List Turn
  turns_since grant = if is_some grant then [] else turn ∷ since spir past

  abbrev told_as : List Turn → Taken → Holding
  told_as turns taken = record {
    epoch = taken.epoch;
    base = five_at taken.bases c;
    next = greatest (five_at taken.bases c) (map (λ n. n + 1) (filter_map (turn_taken spir c) turns));
    high = greatest (five_at taken.bases c) (flat_map (covers_of spir c) turns);
    end = end_of taken.sa c;
    numbers = filter_map (turn_taken spir c) turns;
  }

  told_later : (taken : Taken) → told_as (turn ∷ since spir past) taken ≡ told_more spir c turn.event turn.calls turn.step (told_as (since spir past) taken)
  told_later taken i = record {
    epoch = taken.epoch;
    base = five_at taken.bases c;
    next = greatest-cons (five_at taken.bases c) (turn_taken spir c turn) (filter_map (turn_taken spir c) (since spir past)) i;
    high = greatest-append (five_at taken.bases c) (covers_of spir c turn) (flat_map (covers_of spir c) (since spir past)) i;
    end = end_of taken.sa c;
    numbers = filter_map (turn_taken spir c) (turn ∷ since spir past);
  }

  told_found : (taken : Option Taken) → option_map (told_as (turn ∷ since spir past)) taken ≡ option_map (told_more spir c turn.event turn.calls turn.step) (option_map (told_as (since spir past)) taken)
  told_found None = refl
  told_found (Some taken) = ap Some (told_later taken)

  told_first : (grant : Option Taken) → option_map (told_as (turns_since grant)) (first_some grant (found (grant_of spir) past)) ≡ first_some (option_map (holding_begun c) grant) (option_map (told_more spir c turn.event turn.calls turn.step) (told spir c past))
  told_first None = told_found (found (grant_of spir) past)
  told_first (Some taken) = refl

  pub told-cons : told spir c (turn ∷ past) ≡ told_after spir c turn.event turn.calls turn.step (told spir c past)
  told-cons = told_first (grant_of spir turn)

-- a holding with one number more, or none
abbrev noted : Option ℕ → Holding → Holding
noted number h = record h { next = after_number number h.next; numbers = cons_option number h.numbers }

-- what the moves of a turn beside its calls make of what its end holds
abbrev Notes : ℕ → Counter → Actor → Event → Step → Type 0
Notes spir c w event step = (acts : List Act) → holding_at (Ours spir c) (moves_onto w (rest_of event step) acts) w ≡ option_map (noted (number_taken spir c event step)) (holding_at (Ours spir c) acts w)

-- the numbers that a turn of a member uses are those that it tells
pub member-moved : (spir : ℕ) (c : Counter) (member : ℕ) (past : List Turn) (event : Event) (calls : List Call) (step : Step) → performer_at event step.verdict ≡ Some (Member member) → Outcome past event calls step → moved (Ours spir c) (rest_of event step) ≡ option_to_list (number_taken spir c event step)
member-moved spir c member past event calls step by (Idle rests) = ap (moved (Ours spir c)) (rests-rest event step rests) ∙ ap option_to_list (sym (idle-taken spir c event step rests))
member-moved spir c member past event calls step by (Over ended said ends quiet) = ap (moved (Ours spir c)) (over-rest event step ended said ends quiet) ∙ ap option_to_list (sym (over-taken spir c event step said quiet))
member-moved spir c member past event calls step by (Ours_used u needed it) = uses-moved (Ours spir c) it.ss (rest_of event step) it.uses_them ∙ it.told spir c
member-moved spir c member past event calls step by (Theirs_used u) = absurd (apart (sym u.by_it ∙ by))
  where
    apart : Some Peer ≡ Some (Member member) → ⊥
    apart same = absurd (cc)

noted-option : (y : Option ℕ) (x : Option Holding) → option_map (having_used (reverse (option_to_list y))) x ≡ option_map (noted y) x
noted-option None None = refl
noted-option None (Some h) = refl
noted-option (Some n) None = refl
noted-option (Some n) (Some h) = refl

-- so it is in each turn of a member
member-notes : (spir : ℕ) (c : Counter) (w : Actor) (member : ℕ) (past : List Turn) (event : Event) (calls : List Call) (step : Step) → performer_at event step.verdict ≡ Some (Member member) → Outcome past event calls step → Notes spir c w event step
member-notes spir c w member past event calls step by o acts =
    moved-holds (Ours spir c) w (rest_of event step) (rest-using event step) acts
    ∙ (ap (λ ns. option_map (having_used (reverse ns)) (holding_at (Ours spir c) acts w)) (member-moved spir c member past event calls step by o)
    ∙ noted-option (number_taken spir c event step) (holding_at (Ours spir c) acts w))

-- none of the calls grants the association, or settles it
abbrev GrantNone : ℕ → List Call → Type 0
GrantNone spir calls = AllByRecursion (λ call. (granted spir call.asked (seen call) ≡ None) × (settled_as spir call.asked (seen call) ≡ None)) calls

grants-none : (spir : ℕ) (calls : List Call) → GrantNone spir calls → grant_in spir calls ≡ None
grants-none spir [] none = refl
grants-none spir (call ∷ calls) none = ap (λ g. first_some g (grant_in spir calls)) none.0.0 ∙ grants-none spir calls none.1

-- the calls of a turn grant nothing, or there is one call, which settles nothing, and nothing is used
abbrev IsPlain : ℕ → Counter → Event → List Call → Step → Type 0
IsPlain spir c event calls step = GrantNone spir calls ⊎ ((call : Call) × (calls ≡ call ∷ []) × (number_taken spir c event step ≡ None) × (settled_as spir call.asked (seen call) ≡ None))

none-made : (spir : ℕ) (calls : List Call) → calls ≡ [] → GrantNone spir calls
none-made spir calls none = subst (λ cs. GrantNone spir cs) (sym none) tt

deed-plain : (spir : ℕ) (c : Counter) (past : List Turn) (event : Event) (calls : List Call) (step : Step) → Deed past event calls step → IsPlain spir c event calls step
deed-plain spir c past event calls step (Rested none rests no_entry) = inl (none-made spir calls none)
deed-plain spir c past event calls step (Asked asks) = inr (asks.call, asks.one, idle-taken spir c event step asks.rests, asks.unsettled spir)
deed-plain spir c past event calls step (Ended member by none said ends quiet) = inl (none-made spir calls none)
deed-plain spir c past event calls step (Used_theirs u) = inl (none-made spir calls u.no_calls)
deed-plain spir c past event calls step (Used u) = inl (used-calls (GrantNone spir)
    (λ call rest cover none. ((let asked : _ = cover.asked in rw asked (refl, refl)), none))
    (λ call lease. ((let asked : _ = lease.asked in rw asked (refl, refl)), tt))
    tt calls u)

module _ (spir : ℕ) (c : Counter) (w : Actor) (event : Event) (calls : List Call) (step : Step) where
  told_none : (x : Option Holding) → GrantNone spir calls → option_map (noted (number_taken spir c event step)) (option_map (covered_by spir c w calls) x) ≡ told_after spir c event calls step x
  told_none x none = go x ∙ sym (ap (λ g. first_some (option_map (holding_begun c) g) (option_map (told_more spir c event calls step) x)) (grants-none spir calls none))
    where
      go : (x : Option Holding) → option_map (noted (number_taken spir c event step)) (option_map (covered_by spir c w calls) x) ≡ option_map (told_more spir c event calls step) x
      go None = refl
      go (Some h) = refl

  told_once : (x : Option Holding) → number_taken spir c event step ≡ None → option_map (noted (number_taken spir c event step)) (first_some (option_map (holding_begun c) (grant_in spir calls)) (option_map (covered_by spir c w calls) x)) ≡ told_after spir c event calls step x
  told_once x none = go (grant_in spir calls) x
    where
      go : (g : Option Taken) (x : Option Holding) → option_map (noted (number_taken spir c event step)) (first_some (option_map (holding_begun c) g) (option_map (covered_by spir c w calls) x)) ≡ first_some (option_map (holding_begun c) g) (option_map (told_more spir c event calls step) x)
      go (Some taken) x = rw none
      go None None = refl
      go None (Some h) = refl

  -- what an end holds after a turn of its own
  held-turn : (acts : List Act) → Notes spir c w event step → IsPlain spir c event calls step → holding_at (Ours spir c) (moves_onto w (map Calls calls ++ rest_of event step) acts) w ≡ told_after spir c event calls step (holding_at (Ours spir c) acts w)
  held-turn acts notes plain =
      ap (λ more. holding_at (Ours spir c) more w) (onto-append w (map Calls calls) (rest_of event step) acts)
      ∙ (notes (moves_onto w (map Calls calls) acts)
      ∙ ⊎_elim several one plain)
    where
      several : GrantNone spir calls → option_map (noted (number_taken spir c event step)) (holding_at (Ours spir c) (moves_onto w (map Calls calls) acts) w) ≡ told_after spir c event calls step (holding_at (Ours spir c) acts w)
      several none = ap (option_map (noted (number_taken spir c event step))) (held-covers spir c w calls acts none) ∙ told_none (holding_at (Ours spir c) acts w) none

      one : (call : Call) × (calls ≡ call ∷ []) × (number_taken spir c event step ≡ None) × (settled_as spir call.asked (seen call) ≡ None) → option_map (noted (number_taken spir c event step)) (holding_at (Ours spir c) (moves_onto w (map Calls calls) acts) w) ≡ told_after spir c event calls step (holding_at (Ours spir c) acts w)
      one is =
          ap (option_map (noted (number_taken spir c event step)))
          (subst (λ cs. holding_at (Ours spir c) (moves_onto w (map Calls cs) acts) w ≡ first_some (option_map (holding_begun c) (grant_in spir cs)) (option_map (covered_by spir c w cs) (holding_at (Ours spir c) acts w))) (sym is.1) (held-call spir c w is.0 acts is.3))
          ∙ told_once (holding_at (Ours spir c) acts w) is.2

-- what a member's own turns say that it holds is what the acts of all turns make of it
pub told-held : (boxes : ℕ) (past : List Turn) → Explained boxes past → (member spir : ℕ) (c : Counter) → told spir c (own (Member member) past) ≡ holding_at (Ours spir c) (acts_of past) (End (Member member))
told-held boxes [] local member spir c = refl
told-held boxes (turn ∷ past) local member spir c = by_test (told-held boxes past local.1 member spir c) (is_by (Member member) turn) refl
  where
    deed : Deed past turn.event turn.calls turn.step
    deed = deed-of boxes past turn local.0 local.1

    mine : performer turn ≡ Some (Member member) → holding_at (Ours spir c) (moves_onto (actor_of turn) (moves_of turn) (acts_of past)) (actor_of turn) ≡ told_after spir c turn.event turn.calls turn.step (holding_at (Ours spir c) (acts_of past) (actor_of turn))
    mine by = held-turn spir c (actor_of turn) turn.event turn.calls turn.step (acts_of past)
        (member-notes spir c (actor_of turn) member past turn.event turn.calls turn.step by (outcome-of past turn.event turn.calls turn.step deed))
        (deed-plain spir c past turn.event turn.calls turn.step deed)

    by_test : told spir c (own (Member member) past) ≡ holding_at (Ours spir c) (acts_of past) (End (Member member)) → (b : Bool) → is_by (Member member) turn ≡ b → told spir c (own (Member member) (turn ∷ past)) ≡ holding_at (Ours spir c) (acts_of (turn ∷ past)) (End (Member member))
    by_test before true t =
        let by : performer turn ≡ Some (Member member) = is_end-true (Member member) (performer turn) t in
        let is : actor_of turn ≡ End (Member member) = ap actor_as by in
        let more : own (Member member) (turn ∷ past) ≡ turn ∷ own (Member member) past = ap (λ b. if b then turn ∷ own (Member member) past else own (Member member) past) t in
        ap (told spir c) more
        ∙ (told-cons spir c turn (own (Member member) past)
        ∙ (ap (told_after spir c turn.event turn.calls turn.step) before
        ∙ sym (subst (λ w. holding_at (Ours spir c) (moves_onto (actor_of turn) (moves_of turn) (acts_of past)) w ≡ told_after spir c turn.event turn.calls turn.step (holding_at (Ours spir c) (acts_of past) w)) is (mine by))))
    by_test before false t =
        let same : own (Member member) (turn ∷ past) ≡ own (Member member) past = ap (λ b. if b then turn ∷ own (Member member) past else own (Member member) past) t in
        ap (told spir c) same
        ∙ (before
        ∙ sym (others-hold (Ours spir c) (actor_of turn) (Member member) (is_end-false (Member member) (performer turn) t) (moves_of turn) (acts_of past)))
