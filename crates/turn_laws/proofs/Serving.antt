-- What is executed is executed by the service of an end that is there.
use Rattle.std.proofs.Common.{◌≡◌, ℕ, ◌+◌, Bool, true, false, not, Option, Some, None, MatchOption, IsSome, List, ◌∷◌, refl, ap, ◌∙◌, subst}
use Rattle.std.specs.Prelude.{is_some, nat_le, nat_lt}
use Rattle.std.proofs.lemmas.Bool.{and_parts, leb-true, ltb-true, not-false}
use Rattle.events.specs.declared.event.Event.{Event}
use Rattle.events.specs.declared.event.Event.TheVariants as event
use Rattle.events.specs.declared.event.Party.{Party}
use Rattle.events.specs.declared.event.Party.TheVariants as parties
use Rattle.events.specs.declared.turn.Step.{Step}
use Rattle.events.specs.declared.turn.Turn.{Turn}
use Rattle.events.specs.declared.verdict.Refusal.{Refusal}
use Rattle.events.specs.declared.verdict.Refusal.TheVariants as refusal
use Rattle.events.specs.declared.verdict.Verdict.{Verdict}
use Rattle.events.specs.declared.verdict.Verdict.TheVariants as out
use Rattle.ha_base.specs.declared.outside.Moment.{Moment}
use Rattle.keeper_book.specs.declared.calls.Call.{Call}
use Rattle.turn_laws.proofs.Records.{answering-run}
use Rattle.turn_laws.specs.Serving.{ServesNamed, end_named}
use Rattle.turn_rules.proofs.StateLaws.{does-told}
use Rattle.turn_rules.specs.Ends.{Member, end_of_party, is_refused_by_run, performer_at, performer_of}
use Rattle.turn_rules.specs.Fits.{Does, Performs, Refuses, Yields, has_joined, member_of, named_in, refused_absent, refused_besides, refused_where, run_refusal}
use Rattle.turn_rules.specs.Genuine.{IsUp}
use Rattle.turn_rules.specs.Local.{Explained}
use Rattle.turn_rules.specs.Safe.{Request, taken_as}
use Rattle.turn_rules.specs.States.{RunState, ended_by, joins, told_state}

-- a request is taken by no event that the run refuses
taken-unrefused : (verdict : Verdict) → IsSome (taken_as verdict) → is_refused_by_run verdict ≡ false
taken-unrefused (out.Executed name id mark) taken = refl
taken-unrefused (out.Refusing name id notify) taken = refl
taken-unrefused (out.Refused why) taken = absurd (cc)
taken-unrefused verdict taken = refl

-- and by no turn in which a member ends
taken-stays : (at : Event) (verdict : Verdict) → IsSome (taken_as verdict) → ended_by at verdict ≡ None
taken-stays (event.Crash member) out.Down taken = absurd (cc)
taken-stays at verdict taken = refl

where-none : (test : Bool) (why : Refusal) (otherwise : Option Refusal) → refused_where test why otherwise ≡ None → (test ≡ false) × (otherwise ≡ None)
where-none true why otherwise none = absurd (cc)
where-none false why otherwise none = (refl, none)

-- a member that the run does not refuse is up
absent-up : (boxes : ℕ) (past : List Turn) (member : ℕ) (besides : Option Refusal) → refused_absent (told_state boxes past) (Some member) besides ≡ None → IsUp past (Member member)
absent-up boxes past member besides none =
    let joined = where-none (not (has_joined member (told_state boxes past))) refusal.NoMember _ none in
    let parts = and_parts (nat_lt 0 member) (nat_le member (joins past)) (not-false (has_joined member (told_state boxes past)) joined.0) in
    let up = where-none ((told_state boxes past).ended member) refusal.Down besides joined.1 in
    (ltb-true 0 member parts.0, leb-true member (joins past) parts.1, up.0)

yields-untaken : (verdict : Verdict) (calls : List Call) (step : Step) → taken_as verdict ≡ None → IsSome (taken_as step.verdict) → Yields verdict calls step → ⊥
yields-untaken verdict calls step none taken yields =
    let no : is_some {T = Request} None ≡ true = subst (λ o. is_some o ≡ true) (ap taken_as yields.says.said ∙ none) taken in
    absurd (cc)

party-named : (to : Party) → end_of_party to ≡ end_named (member_of to)
party-named parties.Peer = refl
party-named (parties.Member member) = refl

module _ (boxes : ℕ) (past : List Turn) (now : Moment) (calls : List Call) (step : Step) (taken : IsSome (taken_as step.verdict)) where
  abbrev state : RunState
  state = told_state boxes past

  goes : (x : Option Refusal) (P : Type 0) → MatchOption x P (λ why. Refuses why calls step) → (x ≡ None) × P
  goes None P performs = (refl, performs)
  goes (Some why) P refuses = absurd (yields-untaken (out.Refused why) calls step refl taken refuses)

  -- an event that takes a request is performed by the end that it names
  named-of : (at : Event) → Performs state now at calls step → performer_of at step.verdict ≡ Some (end_named (named_in at))
  named-of (event.Cluster identity lifetime window ticket_key) does = absurd (yields-untaken out.Configured calls step refl taken does)
  named-of (event.Import sa) does = refl
  named-of (event.Join fresh) does = absurd (yields-untaken (out.Member (state.joined + 1)) calls step refl taken does)
  named-of (event.Own member spir) does = refl
  named-of (event.Draw member spir) does = refl
  named-of (event.Crash member) does = refl
  named-of (event.Send from spir payload) does = ap Some (party-named from)
  named-of (event.Ask from spir request) does = ap Some (party-named from)
  named-of (event.Again from spir id) does = ap Some (party-named from)
  named-of (event.Sync member spir) does = refl
  named-of (event.Ticket spir) does = refl
  named-of (event.Forget spir) does = refl
  named-of (event.Deliver which to) does = ap Some (party-named to)
  named-of (event.Alter which to place octet) does = ap Some (party-named to)
  named-of (event.Cut which to keep) does = ap Some (party-named to)
  named-of (event.Inject to medium octets) does = ap Some (party-named to)

  up-named : (named : Option ℕ) (besides : Option Refusal) → refused_absent state named besides ≡ None → IsUp past (end_named named)
  up-named None besides none = tt
  up-named (Some member) besides none = absent-up boxes past member besides none

  by-named : (at : Event) → Does state now at calls step → (performer_at at step.verdict ≡ Some (end_named (named_in at))) × IsUp past (end_named (named_in at))
  by-named at does =
      let performs = goes (run_refusal state at) (Performs state now at calls step) does in
      let heard : _ = taken-unrefused step.verdict taken in
      let free = (where-none _ refusal.DatagramsFull _ performs.0).1 in
      ((rw heard (named-of at performs.1)), up-named (named_in at) (refused_besides state at) free)

-- where each turn is explained, what one executes is executed for the end that it names
pub serves-named : (boxes : ℕ) (past : List Turn) (turn : Turn) → Explained boxes (turn ∷ past) → IsSome turn.step.served → ServesNamed past turn
serves-named boxes past turn local served =
    let taken = (answering-run boxes (turn ∷ past) local).0.takes served in
    let it = by-named boxes past turn.moment turn.calls turn.step taken turn.event (does-told boxes past turn local.0 local.1) in
    record { by = it.0; up = it.1; stays = taken-stays turn.event turn.step.verdict taken }
