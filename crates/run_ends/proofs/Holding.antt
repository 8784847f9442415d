-- What the ends hold after an event is what the turn makes of what they held.
use Rattle.std.proofs.Common.{◌≡◌, ℕ, suc, ◌<◌, ◌==◌, ◌||◌, unwrap_or, Bool, true, false, Option, Some, None, List, [], ◌∷◌, ◌++◌, length, map, append-nil, option_to_list, refl, ap, ap₂, arith, sym, ◌∙◌, subst, if◌then◌else◌}
use Rattle.std.proofs.Math.ListN.{set}
use Rattle.std.proofs.lemmas.Bool.{eq-eqb, eqb-true, ne_eqb, eqb-false}
use Rattle.std.proofs.lemmas.List.{get_or_past, length-set}
use Rattle.std.specs.Option.{option_map}
use Rattle.std.specs.Prelude.{is_none}
use Rattle.events.specs.declared.event.Event.{Event}
use Rattle.events.specs.declared.event.Event.TheVariants as event
use Rattle.events.specs.declared.turn.Step.{Step}
use Rattle.events.specs.declared.turn.Turn.{Turn}
use Rattle.events.specs.declared.verdict.Refusal.{Refusal}
use Rattle.events.specs.declared.verdict.Verdict.{Verdict}
use Rattle.events.specs.declared.verdict.Verdict.TheVariants as out
use Rattle.ha_base.specs.declared.counter_names.End.TheVariants as end
use Rattle.ha_base.specs.declared.outside.Moment.{Moment}
use Rattle.keeper_book.specs.declared.calls.Call.{Call}
use Rattle.keeper_book.specs.declared.records.Record.{Record}
use Rattle.turn_rules.specs.Configurations.{Configuration, configured_in, first_ticket_key, fresh_in, gateway_of, membership}
use Rattle.turn_rules.specs.Ends.{Member, Peer, Performer, is_end, is_of_run, is_refused_by_run, performer_at, performer_of}
use Rattle.turn_rules.specs.Held.{Held, after_number, first_some, held_after, held_at, iv_in}
use Rattle.turn_rules.specs.Peers.{entered_at_task}
use Rattle.turn_rules.specs.PeerStates.{PeerHeld, peer_after, peer_configured}
use Rattle.turn_rules.specs.Slots.{Slot, entered_slot, slot_after, slots_after}
use Rattle.turn_rules.specs.MemberStates.{MemberHeld, member_after, member_unless, no_member}
use Rattle.turn_rules.specs.States.{ended_by, ends, is_join, is_number, joined_after, state_after}
use Rattle.turn_rules.specs.TicketNumbers.{after_lease, after_ticket, lease_in, no_ticket_numbers, numbers_after, ticket_number}
use Rattle.spend_once.specs.Lot.{Remaining}
use Rattle.turn_rules.specs.Tasks as task
use Rattle.turn_rules.specs.Tasks.{member_task, peer_task}
use Rattle.cluster_member.specs.Members.{Holder, IsAfter}
use Rattle.run_ends.proofs.Seats.{more-gone, more-length, more-seen_here, more-seen_there, seat-any, seat-other, seat-same, seat_here, seat_there, unless-seen}
use Rattle.run_ends.specs.Acting.{IsOfEnd}
use Rattle.run_ends.specs.Parties.{EndsHeld, given_to, holder_of, member_at, member_seen, nobody, state_of, state_then}

abbrev pub Holds : List Turn → EndsHeld → Moment → Event → List Call → Step → EndsHeld → Type 0
Holds past old moment at calls step new = state_then past step new ≡ state_after moment at calls step (state_of past old)

-- what is refused configures nothing, ends nobody, and is performed by nobody
pub refused-unset : (at : Event) (why : Refusal) → configured_in at (out.Refused why) ≡ None
refused-unset (event.Cluster identity lifetime window ticket_key) why = refl
refused-unset at why = refl

pub refused-up : (at : Event) (why : Refusal) → ended_by at (out.Refused why) ≡ None
refused-up (event.Crash member) why = refl
refused-up at why = refl

-- nor does a member join where no verdict says so
no-fresh : (at : Event) (verdict : Verdict) → is_join verdict ≡ false → fresh_in at verdict ≡ None
no-fresh (event.Join fresh) (out.Member number) none = absurd (cc)
no-fresh (event.Join fresh) verdict none = refl
no-fresh at verdict none = refl

module _ (past : List Turn) (old : EndsHeld) (moment : Moment) (at : Event) (calls : List Call) (step : Step) where
  abbrev by : Option Performer
  by = performer_at at step.verdict

  abbrev is_gone : ℕ → Bool
  is_gone k = ends k at step.verdict || is_none (holder_of old.members k)

  abbrev acts : ℕ → MemberHeld
  acts k = member_after old.config moment (fresh_in at step.verdict) (member_task at) calls step (member_at old.members k)

  abbrev peer_then : Option Performer → PeerHeld
  peer_then performer = if is_end Peer performer then peer_after old.config.window moment (peer_task at) step old.peer else old.peer

  -- what the peer has, by who performs the event and what it configures
  peer-then : (performer : Option Performer) (sets : Option Configuration) → performer_at at step.verdict ≡ performer → configured_in at step.verdict ≡ sets
      → peer_configured sets (peer_then performer) ≡ peer_configured (configured_in at step.verdict) (peer_then (performer_at at step.verdict))
  peer-then performer sets by_is sets_is = sym (ap₂ (λ c y. peer_configured c (peer_then y)) sets_is by_is)

  -- where no member acts, joins or ends
  record MembersStay : Type 0 where
    pub no_join : is_join step.verdict ≡ false
    pub no_end : ended_by at step.verdict ≡ None
    pub nobody_acts : (k : ℕ) → is_end (Member k) by ≡ false

  module _ (stay : MembersStay) where
    stay-gone : (k : ℕ) → is_gone k ≡ is_none (holder_of old.members k)
    stay-gone k = ap (λ x. is_number k x || is_none (holder_of old.members k)) stay.no_end

    stay-member : (k : ℕ) → member_at old.members k ≡ member_unless (is_gone k) (if is_end (Member k) by then acts k else member_at old.members k)
    stay-member k =
        unless-seen old.members k
        ∙ ap (λ b. member_unless b (member_at old.members k)) (sym (stay-gone k))
        ∙ ap (λ b. member_unless (is_gone k) (if b then acts k else member_at old.members k)) (sym (stay.nobody_acts k))

    -- the configuration, and what the peer has, may change
    stay-holds : (config : Configuration) (peer : PeerHeld) → config ≡ unwrap_or (configured_in at step.verdict) old.config → peer ≡ peer_configured (configured_in at step.verdict) (peer_then by)
        → Holds past old moment at calls step (record old { config = config; peer = peer })
    stay-holds config peer of_config of_peer i = record {
      boxes = old.boxes;
      started = true;
      config = of_config i;
      joined = ap (λ b. joined_after b (length old.members)) (sym stay.no_join) i;
      ended = λ k. sym (stay-gone k) i;
      datagrams = (state_then past step old).datagrams;
      peer = of_peer i;
      members = λ k. stay-member k i;
    }

-- what the run refuses changes nothing
pub refused-holds : (past : List Turn) (old : EndsHeld) (moment : Moment) (at : Event) (calls : List Call) (step : Step) (why : Refusal) → is_of_run why ≡ true → step.verdict ≡ out.Refused why → Holds past old moment at calls step old
refused-holds past old moment at calls step why run said =
    let no_end : performer_at at step.verdict ≡ None = ap (λ b. if b then None else performer_of at step.verdict) (ap is_refused_by_run said ∙ run) in
    let no_config : configured_in at step.verdict ≡ None = ap (configured_in at) said ∙ refused-unset at why in
    stay-holds past old moment at calls step (record {
      no_join = ap is_join said;
      no_end = ap (ended_by at) said ∙ refused-up at why;
      nobody_acts = λ k. ap (is_end (Member k)) no_end;
    })
    old.config old.peer
    (sym (ap (λ c. unwrap_or c old.config) no_config))
    (peer-then past old moment at calls step None None no_end no_config)

pub of-end : (at : Event) (verdict : Verdict) (end : Performer) → IsOfEnd verdict → performer_of at verdict ≡ Some end → performer_at at verdict ≡ Some end
of-end at verdict end said by = ap (λ b. if b then None else performer_of at verdict) said.heard ∙ by

-- the peer acts, and the members stay
pub peer-holds : (past : List Turn) (old : EndsHeld) (moment : Moment) (at : Event) (calls : List Call) (step : Step) (peer : PeerHeld) → IsOfEnd step.verdict → performer_of at step.verdict ≡ Some Peer → ended_by at step.verdict ≡ None → configured_in at step.verdict ≡ None
    → peer ≡ peer_after old.config.window moment (peer_task at) step old.peer → Holds past old moment at calls step (record old { peer = peer })
peer-holds past old moment at calls step peer said by no_end no_config same =
    let performs : performer_at at step.verdict ≡ Some Peer = of-end at step.verdict Peer said by in
    stay-holds past old moment at calls step (record { no_join = said.no_join; no_end = no_end; nobody_acts = λ k. ap (is_end (Member k)) performs })
    old.config peer
    (sym (ap (λ c. unwrap_or c old.config) no_config))
    (same ∙ peer-then past old moment at calls step (Some Peer) None performs no_config)

-- an event of a member
pub record IsOf (at : Event) (member : ℕ) : Type 0 where
  pub by : (verdict : Verdict) → performer_of at verdict ≡ Some (Member member)
  pub no_config : (verdict : Verdict) → configured_in at verdict ≡ None

module _ (past : List Turn) (old : EndsHeld) (moment : Moment) (at : Event) (calls : List Call) (step : Step) (place : ℕ) (within : place < length old.members) (of : IsOf at (suc place)) (said : IsOfEnd step.verdict) (x : Option Holder) where
  abbrev now : EndsHeld
  now = record old { members = set old.members place x }

  performs : performer_at at step.verdict ≡ Some (Member (suc place))
  performs = of-end at step.verdict (Member (suc place)) said (of.by step.verdict)

  -- a member's own turn, which changes what is in its place
  seat-holds : ((k : ℕ) → is_none (holder_of (set old.members place x) k) ≡ (ends k at step.verdict || is_none (holder_of old.members k)))
      → ((k : ℕ) → member_at (set old.members place x) k
      ≡ member_unless (ends k at step.verdict || is_none (holder_of old.members k)) (if k == suc place then acts past old moment at calls step k else member_at old.members k))
      → Holds past old moment at calls step now
  seat-holds gone member i = record {
    boxes = old.boxes;
    started = true;
    config = sym (ap (λ c. unwrap_or c old.config) (of.no_config step.verdict)) i;
    joined = (length-set old.members place x ∙ ap (λ b. joined_after b (length old.members)) (sym said.no_join)) i;
    ended = λ k. gone k i;
    datagrams = (state_then past step old).datagrams;
    peer = peer-then past old moment at calls step (Some (Member (suc place))) None performs (of.no_config step.verdict) i;
    members = λ k. (member k
        ∙ ap (λ y. member_unless (ends k at step.verdict || is_none (holder_of old.members k)) (if is_end (Member k) y then acts past old moment at calls step k else member_at old.members k)) (sym performs)) i;
  }

-- a member that is up acts, and stays up
module _ (past : List Turn) (old : EndsHeld) (moment : Moment) (at : Event) (calls : List Call) (step : Step) (place : ℕ) (within : place < length old.members) (of : IsOf at (suc place)) (said : IsOfEnd step.verdict)
    (no_end : ended_by at step.verdict ≡ None) (was now : Holder) (sits : holder_of old.members (suc place) ≡ Some was) (config : was.config ≡ old.config) (after : IsAfter (member_task at) calls step was now) where
  abbrev acted : List (Option Holder)
  acted = set old.members place (Some now)

  here_is : (k : ℕ) → (k == suc place) ≡ true → holder_of acted k ≡ Some now
  here_is k e = ap (holder_of acted) (eqb-true k (suc place) e) ∙ seat_here old.members place within (Some now)

  was_is : (k : ℕ) → (k == suc place) ≡ true → holder_of old.members k ≡ Some was
  was_is k e = ap (holder_of old.members) (eqb-true k (suc place) e) ∙ sits

  gone-same : (k : ℕ) (b : Bool) → (k == suc place) ≡ b → is_none (holder_of acted k) ≡ is_none (holder_of old.members k)
  gone-same k true e = ap is_none (here_is k e) ∙ sym (ap is_none (was_is k e))
  gone-same k false e = ap is_none (seat_there old.members place within (Some now) k e)

  not_ended : (k : ℕ) → is_none (holder_of old.members k) ≡ (ends k at step.verdict || is_none (holder_of old.members k))
  not_ended k = ap (λ y. is_number k y || is_none (holder_of old.members k)) (sym no_end)

  -- it holds what the turn makes of what it held
  given : Some (given_to now) ≡ first_some (option_map (membership old.config) (fresh_in at step.verdict)) (Some (given_to was))
  given =
      ap Some (ap₂ membership after.config after.fresh)
      ∙ ap (λ fresh. first_some (option_map (membership old.config) fresh) (Some (given_to was))) (sym (no-fresh at step.verdict said.no_join))

  now-seen : member_seen (Some now) ≡ member_after old.config moment (fresh_in at step.verdict) (member_task at) calls step (member_seen (Some was))
  now-seen i = record {
    given = given i;
    held = λ spir. (after.holds spir ∙ ap (λ (c : Configuration). held_after c.window spir (member_task at) calls step (held_at was.held spir)) config) i;
    numbers = after.numbers i;
  }

  member-same : (k : ℕ) (b : Bool) → (k == suc place) ≡ b → member_at acted k ≡ member_unless (is_none (holder_of old.members k)) (if b then acts past old moment at calls step k else member_at old.members k)
  member-same k true e =
      ap (member_at acted) (eqb-true k (suc place) e)
      ∙ ap member_seen (seat-same None old.members place within (Some now))
      ∙ now-seen
      ∙ sym (ap (λ n. member_unless (is_none (holder_of old.members n)) (acts past old moment at calls step n)) (eqb-true k (suc place) e)
      ∙ ap (λ y. member_unless (is_none y) (acts past old moment at calls step (suc place))) sits
      ∙ ap (λ y. member_after old.config moment (fresh_in at step.verdict) (member_task at) calls step (member_seen y)) (seat-any None old.members place within (Some nobody) ∙ sits))
  member-same k false e = ap member_seen (seat-other None old.members place within (Some now) k e) ∙ unless-seen old.members k

  pub member-holds : Holds past old moment at calls step (record old { members = acted })
  member-holds = seat-holds past old moment at calls step place within of said (Some now)
      (λ k. gone-same k (k == suc place) refl ∙ not_ended k)
      (λ k. member-same k (k == suc place) refl ∙ ap (λ b. member_unless b (if k == suc place then acts past old moment at calls step k else member_at old.members k)) (not_ended k))

-- a task that asks nothing makes nothing of what is held
pub idle-held : (size spir : ℕ) (calls : List Call) (step : Step) (x : Option Held) → calls ≡ [] → step.seals ≡ [] → held_after size spir task.Nothing calls step x ≡ x
idle-held size spir calls step x none unsealed = subst (λ cs. held_after size spir task.Nothing cs step x ≡ x) (sym none) (go x)
  where
    go : (x : Option Held) → held_after size spir task.Nothing [] step x ≡ x
    go None = refl
    go (Some held) = ap (λ seals. Some (record held { nexts = record held.nexts { iv = after_number (iv_in end.Cluster spir seals) held.nexts.iv } })) unsealed

idle-numbers : (calls : List Call) (step : Step) (numbers : Remaining) → calls ≡ [] → ticket_number step.verdict ≡ None → numbers_after calls step numbers ≡ numbers
idle-numbers calls step numbers none untold =
    ap (λ cs. after_ticket (ticket_number step.verdict) (after_lease (lease_in cs) numbers)) none ∙ ap (λ n. after_ticket n numbers) untold

either-member : (b : Bool) (config : Configuration) (moment : Moment) (calls : List Call) (step : Step) (m : MemberHeld) → calls ≡ [] → step.seals ≡ [] → ticket_number step.verdict ≡ None → (if b then member_after config moment None task.Nothing calls step m else m) ≡ m
either-member true config moment calls step m none unsealed untold = λ i. record {
  given = m.given;
  held = λ spir. idle-held config.window spir calls step (m.held spir) none unsealed i;
  numbers = idle-numbers calls step m.numbers none untold i;
}
either-member false config moment calls step m none unsealed untold = refl

-- nobody is in the place of a member that ended
module _ (past : List Turn) (old : EndsHeld) (moment : Moment) (calls : List Call) (step : Step) (place : ℕ) (within : place < length old.members) (none : calls ≡ []) (said : step.verdict ≡ out.Down) (unsealed : step.seals ≡ []) where
  abbrev gone : List (Option Holder)
  gone = set old.members place None

  abbrev crash : Event
  crash = event.Crash (suc place)

  is_ended : (k : ℕ) (b : Bool) → (k == suc place) ≡ b → ends k crash step.verdict ≡ b
  is_ended k true e = ap (λ v. is_number k (ended_by crash v)) said ∙ eq-eqb (suc place) k (sym (eqb-true k (suc place) e))
  is_ended k false e = ap (λ v. is_number k (ended_by crash v)) said ∙ ne_eqb (suc place) k (λ same. eqb-false k (suc place) e (sym same))

  crash-gone : (k : ℕ) (b : Bool) → (k == suc place) ≡ b → is_none (holder_of gone k) ≡ (b || is_none (holder_of old.members k))
  crash-gone k true e = ap (λ n. is_none (holder_of gone n)) (eqb-true k (suc place) e) ∙ ap is_none (seat_here old.members place within None)
  crash-gone k false e = ap is_none (seat_there old.members place within None k e)

  crash-member : (k : ℕ) (b : Bool) → (k == suc place) ≡ b → member_at gone k ≡ member_unless (b || is_none (holder_of old.members k)) (member_at old.members k)
  crash-member k true e = ap (member_at gone) (eqb-true k (suc place) e) ∙ ap member_seen (seat-same None old.members place within None)
  crash-member k false e = ap member_seen (seat-other None old.members place within None k e) ∙ unless-seen old.members k

  pub crash-holds : Holds past old moment crash calls step (record old { members = gone })
  crash-holds = seat-holds past old moment crash calls step place within (record { by = λ v. refl; no_config = λ v. refl }) (record { no_join = ap is_join said; heard = ap is_refused_by_run said }) None
      (λ k. crash-gone k (k == suc place) refl ∙ ap (λ b. b || is_none (holder_of old.members k)) (sym (is_ended k (k == suc place) refl)))
      (λ k.
      crash-member k (k == suc place) refl
      ∙ ap (λ b. member_unless (b || is_none (holder_of old.members k)) (member_at old.members k)) (sym (is_ended k (k == suc place) refl))
      ∙ ap (member_unless (ends k crash step.verdict || is_none (holder_of old.members k))) (sym (either-member (k == suc place) old.config moment calls step (member_at old.members k) none unsealed (ap ticket_number said))))

-- a member that joined is the newest, and holds nothing
module _ (past : List Turn) (old : EndsHeld) (moment : Moment) (fresh : List ℕ) (calls : List Call) (step : Step) (x : Holder) (empty : x.held ≡ []) (new : x.numbers ≡ no_ticket_numbers) (given : given_to x ≡ membership old.config fresh)
    (none : calls ≡ []) (number : ℕ) (last : number ≡ suc (length old.members)) (said : step.verdict ≡ out.Member number) (unsealed : step.seals ≡ []) where
  abbrev join : Event
  join = event.Join fresh

  abbrev joined : List (Option Holder)
  joined = old.members ++ Some x ∷ []

  no_end : ended_by join step.verdict ≡ None
  no_end = refl

  by_new : performer_at join step.verdict ≡ Some (Member number)
  by_new = ap (performer_at join) said

  -- it is given the configuration, and fresh octets of its own
  abbrev acts_as : ℕ → MemberHeld
  acts_as k = member_after old.config moment (Some fresh) task.Nothing calls step (member_at old.members k)

  new-seen : member_seen (Some x) ≡ member_after old.config moment (Some fresh) task.Nothing calls step no_member
  new-seen i = record {
    given = ap Some given i;
    held = λ spir. (ap (λ hs. held_at hs spir) empty ∙ sym (idle-held old.config.window spir calls step None none unsealed)) i;
    numbers = (new ∙ sym (idle-numbers calls step no_ticket_numbers none (ap ticket_number said))) i;
  }

  free : is_none (holder_of old.members (suc (length old.members))) ≡ false
  free = ap is_none (get_or_past old.members (length old.members) (Some nobody) (omega arith))

  member-more : (k : ℕ) (b : Bool) → (k == suc (length old.members)) ≡ b → member_at joined k ≡ member_unless (is_none (holder_of old.members k)) (if b then acts_as k else member_at old.members k)
  member-more k true e =
      ap (member_at joined) (eqb-true k (suc (length old.members)) e)
      ∙ more-seen_here old.members x
      ∙ new-seen
      ∙ sym (ap (λ n. member_unless (is_none (holder_of old.members n)) (acts_as n)) (eqb-true k (suc (length old.members)) e)
      ∙ ap (λ b. member_unless b (acts_as (suc (length old.members)))) free
      ∙ ap (λ y. member_after old.config moment (Some fresh) task.Nothing calls step (member_seen y)) (get_or_past old.members (length old.members) None (omega arith)))
  member-more k false e = more-seen_there old.members x k e ∙ unless-seen old.members k

  join-member : (k : ℕ) → member_at joined k ≡ member_unless (is_none (holder_of old.members k)) (if is_end (Member k) (performer_at join step.verdict) then acts past old moment join calls step k else member_at old.members k)
  join-member k =
      member-more k (k == suc (length old.members)) refl
      ∙ ap (λ n. member_unless (is_none (holder_of old.members k)) (if k == n then acts_as k else member_at old.members k)) (sym last)
      ∙ sym (ap (λ v. member_unless (is_none (holder_of old.members k))
      (if is_end (Member k) (performer_at join v) then member_after old.config moment (fresh_in join v) task.Nothing calls step (member_at old.members k) else member_at old.members k)) said)

  pub join-holds : Holds past old moment join calls step (record old { members = joined })
  join-holds i = record {
    boxes = old.boxes;
    started = true;
    config = old.config;
    joined = (more-length old.members x ∙ ap (λ v. joined_after (is_join v) (length old.members)) (sym said)) i;
    ended = λ k. more-gone old.members x k i;
    datagrams = (state_then past step old).datagrams;
    peer = peer-then past old moment join calls step (Some (Member number)) None by_new refl i;
    members = λ k. join-member k i;
  }

-- an association that was entered is the peer's newest
entered-slot : (moment : Moment) (sa : Record) (step : Step) (slot : Slot) → step.seals ≡ [] → slot_after moment (task.Enter sa) step slot ≡ slot
entered-slot moment sa step slot unsealed = ap (λ seals. record slot { iv = after_number (iv_in end.Peer slot.sa.spir seals) slot.iv }) unsealed

entered-slots : (moment : Moment) (sa : Record) (step : Step) (slots : List Slot) → step.seals ≡ [] → map (slot_after moment (task.Enter sa) step) slots ≡ slots
entered-slots moment sa step [] unsealed = refl
entered-slots moment sa step (slot ∷ slots) unsealed = ap₂ (λ first rest. first ∷ rest) (entered-slot moment sa step slot unsealed) (entered-slots moment sa step slots unsealed)

abbrev with_entry : ℕ → Moment → Record → Step → List Slot → Verdict → List Slot
with_entry size moment sa step slots verdict = map (slot_after moment (task.Enter sa) step) slots ++ option_to_list (option_map (entered_slot size) (entered_at_task (task.Enter sa) verdict))

pub entered-after : (size : ℕ) (moment : Moment) (sa : Record) (step : Step) (slots : List Slot) → step.verdict ≡ out.Entered → step.seals ≡ [] → slots ++ entered_slot size sa ∷ [] ≡ slots_after size moment (task.Enter sa) step slots
entered-after size moment sa step slots said unsealed =
    ap (λ old. old ++ entered_slot size sa ∷ []) (sym (entered-slots moment sa step slots unsealed)) ∙ ap (with_entry size moment sa step slots) (sym said)

pub not_entered-after : (size : ℕ) (moment : Moment) (sa : Record) (step : Step) (slots : List Slot) (why : Refusal) → step.verdict ≡ out.Refused why → step.seals ≡ [] → slots ≡ slots_after size moment (task.Enter sa) step slots
not_entered-after size moment sa step slots why said unsealed =
    sym (append-nil (map (slot_after moment (task.Enter sa) step) slots) ∙ entered-slots moment sa step slots unsealed) ∙ ap (with_entry size moment sa step slots) (sym said)

-- the cluster was configured before anything else
pub configured-holds : (past : List Turn) (old : EndsHeld) (moment : Moment) (config : Configuration) (ticket_key : List ℕ) → config.ticket_key ≡ first_ticket_key ticket_key → (calls : List Call) (step : Step) → step.verdict ≡ out.Configured
    → Holds past old moment (event.Cluster config.identity config.lifetime config.window ticket_key) calls step (record old { config = config; peer = record old.peer { gateway = gateway_of config } })
configured-holds past old moment config ticket_key same calls step said =
    let cluster : Event = event.Cluster config.identity config.lifetime config.window ticket_key in
    let no_end : performer_at cluster step.verdict ≡ None = ap (performer_at cluster) said in
    let sets : configured_in cluster step.verdict ≡ Some config = ap (configured_in cluster) said ∙ ap (λ key. Some (record config { ticket_key = key })) (sym same) in
    stay-holds past old moment cluster calls step
    (record { no_join = ap is_join said; no_end = refl; nobody_acts = λ k. ap (is_end (Member k)) no_end })
    config (record old.peer { gateway = gateway_of config })
    (sym (ap (λ c. unwrap_or c old.config) sets))
    (peer-then past old moment cluster calls step None (Some config) no_end sets)
