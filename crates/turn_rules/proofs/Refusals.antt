-- What the run itself refuses, and what it does not.
use Rattle.std.proofs.Common.{◌≡◌, ℕ, ◌&&◌, ◌||◌, Bool, true, false, not, Option, Some, None, Result, Ok, Err, List, refl, ap, sym, ◌∙◌, subst}
use Rattle.std.specs.Prelude.{nat_le, length}
use Rattle.std.proofs.lemmas.Option.{same_Some}
use Rattle.events.specs.declared.event.Event.{Event}
use Rattle.events.specs.declared.event.Event.TheVariants as event
use Rattle.events.specs.declared.verdict.Refusal.{Refusal}
use Rattle.events.specs.declared.verdict.Refusal.TheVariants as refusal
use Rattle.horizons.specs.declared.stop.Stop.{Stop}
use Rattle.horizons.specs.declared.stop.Stop.TheVariants as stop
use Rattle.ha_base.specs.declared.limits.TheConstants.{MAX_DATAGRAMS}
use Rattle.turn_rules.specs.Datagrams.{PlainDatagram, altered, changed, cut, datagram_at}
use Rattle.turn_rules.specs.Draws.{refusal_of_stop}
use Rattle.turn_rules.specs.Ends.{is_of_run}
use Rattle.turn_rules.specs.Fits.{MAX_MEMBERS, has_joined, is_importable, is_of_datagrams, named_in, refused_absent, refused_arrival, refused_besides, refused_where, run_refusal}
use Rattle.turn_rules.specs.States.{RunState}

-- a stop is no refusal of the run's
pub stop-own : (why : Stop) → is_of_run (refusal_of_stop why) ≡ false
stop-own stop.Keeper = refl
stop-own (stop.Replaced epoch) = refl
stop-own stop.Exhausted = refl
stop-own stop.Closed = refl
stop-own stop.Unknown = refl

abbrev AreOfRun : Option Refusal → Type 0
AreOfRun x = (why : Refusal) → x ≡ Some why → is_of_run why ≡ true

where-run : (test : Bool) (why : Refusal) (otherwise : Option Refusal) → is_of_run why ≡ true → AreOfRun otherwise → AreOfRun (refused_where test why otherwise)
where-run true why otherwise own others is e = subst (λ r. is_of_run r ≡ true) (same_Some why is e) own
where-run false why otherwise own others is e = others is e

none-run : AreOfRun None
none-run why e = absurd (cc)

abbrev Found : Type 0
Found = Result PlainDatagram Refusal

abbrev err_run : Found → Bool
err_run (Ok datagram) = true
err_run (Err why) = is_of_run why

changed-run : (given : Option PlainDatagram) (change : List ℕ → Option (List ℕ)) (why : Refusal) → changed given change ≡ Err why → is_of_run why ≡ true
changed-run None change why e = ap err_run (sym e)
changed-run (Some given) change why e = go (change given.octets) refl
  where
    go : (made : Option (List ℕ)) → change given.octets ≡ made → is_of_run why ≡ true
    go None m = let is : changed (Some given) change ≡ Err refusal.NoOctet = rw m in ap err_run (sym e ∙ is)
    go (Some made) m = let is : changed (Some given) change ≡ Ok (record { medium = given.medium; octets = made }) = rw m in ap err_run (sym e ∙ is)

arrival-run : (found : Found) → ((why : Refusal) → found ≡ Err why → is_of_run why ≡ true) → AreOfRun (refused_arrival found)
arrival-run (Err why) own is e = subst (λ r. is_of_run r ≡ true) (same_Some why is e) (own why refl)
arrival-run (Ok datagram) own is e = none-run is e

absent-run : (state : RunState) (member : Option ℕ) (otherwise : Option Refusal) → AreOfRun otherwise → AreOfRun (refused_absent state member otherwise)
absent-run state None otherwise others = others
absent-run state (Some member) otherwise others =
    where-run (not (has_joined member state)) refusal.NoMember (refused_where (state.ended member) refusal.Down otherwise) refl
    (where-run (state.ended member) refusal.Down otherwise refl others)

besides-run : (state : RunState) (event : Event) → AreOfRun (refused_besides state event)
besides-run state (event.Cluster identity lifetime window ticket_key) = where-run state.started refusal.Late None refl none-run
besides-run state (event.Import sa) = where-run (not (is_importable sa)) refusal.SpiRange None refl none-run
besides-run state (event.Join fresh) = where-run (nat_le MAX_MEMBERS state.joined || nat_le state.boxes state.joined) (refusal.NoRoom state.joined) None refl none-run
besides-run state (event.Deliver which to) = arrival-run (changed (datagram_at which state.datagrams) Some) (changed-run (datagram_at which state.datagrams) Some)
besides-run state (event.Alter which to place octet) = arrival-run (changed (datagram_at which state.datagrams) (altered place octet)) (changed-run (datagram_at which state.datagrams) (altered place octet))
besides-run state (event.Cut which to keep) = arrival-run (changed (datagram_at which state.datagrams) (cut keep)) (changed-run (datagram_at which state.datagrams) (cut keep))
besides-run state event = none-run

-- the run refuses with refusals of its own
pub refusal-of_run : (state : RunState) (event : Event) (why : Refusal) → run_refusal state event ≡ Some why → is_of_run why ≡ true
refusal-of_run state event = where-run (is_of_datagrams event && nat_le MAX_DATAGRAMS (length state.datagrams)) refusal.DatagramsFull
    (refused_absent state (named_in event) (refused_besides state event)) refl (absent-run state (named_in event) (refused_besides state event) (besides-run state event))
