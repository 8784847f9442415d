-- What the peer's own turns say that it holds of a counter is what the acts of all turns make of it.
use Rattle.std.proofs.Common.{◌≡◌, ◌⊎◌, inl, inr, ℕ, Bool, true, false, Option, Some, None, List, [], ◌∷◌, map, ⊎_elim, refl, ap, sym, ◌∙◌, subst, if◌then◌else◌}
use Rattle.std.specs.Prelude.{is_some, reverse}
use Rattle.std.specs.List.{flat_map}
use Rattle.std.specs.Option.{option_map}
use Rattle.events.specs.declared.turn.Turn.{Turn}
use Rattle.ha_base.specs.declared.counter_names.CounterName.{CounterName}
use Rattle.keeper_book.specs.Told.{seen}
use Rattle.keeper_book.specs.declared.calls.Call.{Call}
use Rattle.turn_laws.proofs.Acting.{moves_onto}
use Rattle.turn_laws.proofs.Deeds.{Asked, Deed, Ended, Rested, Used, Used_theirs, rest_of}
use Rattle.turn_laws.proofs.Holdings.{is_actor-same}
use Rattle.turn_laws.proofs.Listed.{moved}
use Rattle.turn_laws.proofs.Moved.{having-more, moved-holds, rest-listed, rest-using}
use Rattle.turn_laws.proofs.Outcomes.{rests-rest}
use Rattle.turn_laws.proofs.Records.{deed-of}
use Rattle.turn_laws.proofs.Runs.{onto-append, others-hold}
use Rattle.turn_laws.proofs.Members.{is_end-false, is_end-true}
use Rattle.turn_laws.specs.Acts.{Act, Calls, act_by, begun_by, effect_begun, entered_as, holding_at}
use Rattle.turn_laws.specs.Holdings.{Actor, End, Holding, holding_after, is_actor}
use Rattle.turn_laws.specs.Listed.{listed_at}
use Rattle.turn_laws.specs.PeerTurns.{begun_in, having_used, since_begun, told_theirs}
use Rattle.turn_laws.specs.Places.{Theirs}
use Rattle.turn_laws.specs.Turns.{actor_as, actor_of, acts_of, moves_of}
use Rattle.turn_rules.specs.Ends.{Member, Peer, Performer, is_by, own, performer}
use Rattle.turn_rules.specs.Held.{first_some, found}
use Rattle.turn_rules.specs.Local.{Explained}
use Rattle.turn_rules.specs.Peers.{record_entered}

-- a turn of the peer is no turn of a member
pub not-both : {X : Type 0} (member : ℕ) (x : Option Performer) → x ≡ Some (Member member) → x ≡ Some Peer → X
not-both member x by_member by_peer = absurd (cc)

pub no-packet : {X : Type 0} (x : X) → None ≡ Some x → ⊥
no-packet x is = absurd (cc)

module _ (name : CounterName) (turn : Turn) (past : List Turn) where
  abbrev its_numbers : List ℕ
  its_numbers = listed_at (Theirs name) turn

  -- what the peer's own turns say after one more of them, which begins nothing or uses nothing
  pub told_theirs-cons : (begun_in name turn ≡ None) ⊎ (its_numbers ≡ []) → told_theirs name (turn ∷ past) ≡ option_map (having_used its_numbers) (first_some (begun_in name turn) (told_theirs name past))
  told_theirs-cons either = by_case (begun_in name turn) either
    where
      by_case : (x : Option Holding) → (x ≡ None) ⊎ (its_numbers ≡ []) →
          option_map (having_used (flat_map (listed_at (Theirs name)) (if is_some x then [] else turn ∷ since_begun name past))) (first_some x (found (begun_in name) past))
          ≡ option_map (having_used its_numbers) (first_some x (told_theirs name past))
      by_case None either = sym (having-more its_numbers (flat_map (listed_at (Theirs name)) (since_begun name past)) (found (begun_in name) past))
      by_case (Some h) either = ⊎_elim (λ none. absurd (cc)) (λ none. ap (λ ns. option_map (having_used ns) (Some h)) (sym none)) either

  module _ (w : Actor) (acts : List Act) where
    called-holds : (call : Call) → entered_as call.asked (seen call) ≡ record_entered turn.event turn.step.verdict → holding_at (Theirs name) (act_by w (Calls call) ∷ acts) w ≡ first_some (begun_in name turn) (holding_at (Theirs name) acts w)
    called-holds call same = go (begun_by name (entered_as call.asked (seen call))) ∙ ap (λ x. first_some (begun_by name x) (holding_at (Theirs name) acts w)) same
      where
        go : (x : Option Holding) → holding_after (effect_begun w x) (holding_at (Theirs name) acts) w ≡ first_some x (holding_at (Theirs name) acts w)
        go None = refl
        go (Some h) = let here : is_actor w w ≡ true = is_actor-same w in rw here refl

    no_calls : turn.calls ≡ [] → record_entered turn.event turn.step.verdict ≡ None → holding_at (Theirs name) (moves_onto w (map Calls turn.calls) acts) w ≡ first_some (begun_in name turn) (holding_at (Theirs name) acts w)
    no_calls none no_entry = ap (λ calls. holding_at (Theirs name) (moves_onto w (map Calls calls) acts) w) none ∙ ap (λ x. first_some (begun_by name x) (holding_at (Theirs name) acts w)) (sym no_entry)

    -- what the peer holds after a turn of its own
    abbrev AfterCalls : Type 0
    AfterCalls = (holding_at (Theirs name) (moves_onto w (map Calls turn.calls) acts) w ≡ first_some (begun_in name turn) (holding_at (Theirs name) acts w)) × ((begun_in name turn ≡ None) ⊎ (its_numbers ≡ []))

    peer-calls : {past : List Turn} → Deed past turn.event turn.calls turn.step → performer turn ≡ Some Peer → AfterCalls
    peer-calls (Rested none rests no_entry) by = (no_calls none no_entry, inl (ap (begun_by name) no_entry))
    peer-calls (Asked asks) by = (
      subst (λ calls. holding_at (Theirs name) (moves_onto w (map Calls calls) acts) w ≡ first_some (begun_in name turn) (holding_at (Theirs name) acts w)) (sym asks.one) (called-holds asks.call asks.entry),
      inr (sym (rest-listed (Theirs name) turn) ∙ ap (λ moves. reverse (moved (Theirs name) moves)) (rests-rest turn.event turn.step asks.rests)),
    )
    peer-calls (Ended member by_it none said ends quiet) by = not-both member (performer turn) by_it by
    peer-calls (Used u) by = not-both u.member (performer turn) u.by_it by
    peer-calls (Used_theirs u) by = (no_calls u.no_calls u.no_entry, inl (ap (begun_by name) u.no_entry))

    peer-holds : {past : List Turn} → Deed past turn.event turn.calls turn.step → performer turn ≡ Some Peer
        → holding_at (Theirs name) (moves_onto w (moves_of turn) acts) w ≡ option_map (having_used its_numbers) (first_some (begun_in name turn) (holding_at (Theirs name) acts w))
    peer-holds deed by =
        ap (λ acts. holding_at (Theirs name) acts w) (onto-append w (map Calls turn.calls) (rest_of turn.event turn.step) acts)
        ∙ (moved-holds (Theirs name) w (rest_of turn.event turn.step) (rest-using turn.event turn.step) (moves_onto w (map Calls turn.calls) acts)
        ∙ (ap (λ ns. option_map (having_used ns) (holding_at (Theirs name) (moves_onto w (map Calls turn.calls) acts) w)) (rest-listed (Theirs name) turn)
        ∙ ap (option_map (having_used its_numbers)) (peer-calls deed by).0))

-- what the peer's own turns say that it holds is what the acts of all turns make of it
pub told_theirs-held : (boxes : ℕ) (past : List Turn) → Explained boxes past → (name : CounterName) → told_theirs name (own Peer past) ≡ holding_at (Theirs name) (acts_of past) (End Peer)
told_theirs-held boxes [] local name = refl
told_theirs-held boxes (turn ∷ past) local name = by_test (told_theirs-held boxes past local.1 name) (is_by Peer turn) refl
  where
    by_test : told_theirs name (own Peer past) ≡ holding_at (Theirs name) (acts_of past) (End Peer) → (b : Bool) → is_by Peer turn ≡ b
        → told_theirs name (own Peer (turn ∷ past)) ≡ holding_at (Theirs name) (acts_of (turn ∷ past)) (End Peer)
    by_test before true t =
        let by : performer turn ≡ Some Peer = is_end-true Peer (performer turn) t in
        let deed : Deed past turn.event turn.calls turn.step = deed-of boxes past turn local.0 local.1 in
        ap (λ b. told_theirs name (if b then turn ∷ own Peer past else own Peer past)) t
        ∙ (told_theirs-cons name turn (own Peer past) (peer-calls name turn (own Peer past) (End Peer) (acts_of past) deed by).1
        ∙ (ap (λ x. option_map (having_used (listed_at (Theirs name) turn)) (first_some (begun_in name turn) x)) before
        ∙ sym (subst (λ w. holding_at (Theirs name) (moves_onto w (moves_of turn) (acts_of past)) (End Peer) ≡ option_map (having_used (listed_at (Theirs name) turn)) (first_some (begun_in name turn) (holding_at (Theirs name) (acts_of past) (End Peer)))) (sym (ap actor_as by))
        (peer-holds name turn (own Peer past) (End Peer) (acts_of past) deed by))))
    by_test before false t =
        ap (λ b. told_theirs name (if b then turn ∷ own Peer past else own Peer past)) t
        ∙ (before
        ∙ sym (others-hold (Theirs name) (actor_of turn) Peer (is_end-false Peer (performer turn) t) (moves_of turn) (acts_of past)))
