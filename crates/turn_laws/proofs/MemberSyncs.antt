-- What a synchronisation whose response a member takes leaves it.
use Rattle.std.proofs.Common.{◌≡◌, ℕ, ◌==◌, ◌||◌, max, unwrap_or, Bool, true, false, Option, Some, None, List, [], ◌∷◌, refl, ap, sym, ◌∙◌, subst, arith, if◌then◌else◌}
use Rattle.std.proofs.lemmas.Bool.{eq-eqb}
use Rattle.std.specs.Prelude.{is_some}
use Rattle.std.specs.Option.{option_map}
use Rattle.events.specs.declared.event.Party.TheVariants as parties
use Rattle.events.specs.declared.turn.Step.{Step}
use Rattle.events.specs.declared.turn.Turn.{Turn}
use Rattle.events.specs.declared.verdict.Verdict.TheVariants as out
use Rattle.ha_base.specs.declared.counter_names.CounterName.{CounterName}
use Rattle.keeper_book.specs.Counters.{five_at}
use Rattle.keeper_book.specs.declared.calls.Call.{Call}
use Rattle.keeper_book.specs.declared.counters.Counter.TheVariants as counter
use Rattle.sync_exchange.specs.declared.message_ids.MessageIds.{MessageIds}
use Rattle.turn_laws.proofs.Members.{own-held}
use Rattle.turn_laws.proofs.PeerSyncs.{its-counter, taken-floor}
use Rattle.turn_laws.proofs.Receiving.{Brings}
use Rattle.turn_laws.proofs.Records.{lots-told, local-records, own-spir}
use Rattle.turn_laws.proofs.SyncMessages.{TakenBy}
use Rattle.turn_laws.proofs.SyncTurns.{Accepted_here, Announced, Arrives, Other, SyncTurn, Taken_here, does-sync}
use Rattle.turn_laws.specs.Synchronising.{MemberHolds, MemberSynchronised}
use Rattle.turn_rules.proofs.NoSynchronisation.{is_of_sync}
use Rattle.turn_rules.proofs.SlotTies.{DoesTold, own-config}
use Rattle.turn_rules.proofs.StateLaws.{does-told}
use Rattle.turn_rules.proofs.Ties.{held_by-cons}
use Rattle.turn_rules.specs.Configurations.{Configuration, fresh_octets, membership}
use Rattle.turn_rules.specs.Draws.{counter_name}
use Rattle.turn_rules.specs.Ends.{Member, is_by, is_end, is_refused_by_run, own, performer}
use Rattle.turn_rules.specs.Held.{Held, advanced, config_by, first_some, found, grant_in, held_after, held_begun, held_by, window_by}
use Rattle.turn_rules.specs.IkeState.{response_in}
use Rattle.turn_rules.specs.Local.{Explained}
use Rattle.turn_rules.specs.MemberMessages.{awaits_sync, of_spii, sync_nonce}
use Rattle.turn_rules.specs.MemberStates.{fresh_at, held_unless}
use Rattle.turn_rules.specs.States.{has_ended, told_state}
use Rattle.turn_rules.specs.Synchronised.{Agreed, after_floor, after_jump, agreed_in, next_in}
use Rattle.turn_rules.specs.Tasks as task
use Rattle.turn_rules.specs.Tasks.{Task, member_task}

-- what is held of an association under both SPIs is held under the responder's
of-spii : (spii : ℕ) (x : Option Held) (held : Held) → of_spii spii x ≡ Some held → x ≡ Some held
of-spii spii None held is = absurd (cc)
of-spii spii (Some other) held is = by_test (other.sa.spii == spii) is
  where
    by_test : (b : Bool) → (if b then Some other else None) ≡ Some held → Some other ≡ Some held
    by_test true is = is
    by_test false is = absurd (cc)

-- a member that holds something was given the fresh octets that its turns tell
fresh-told : (config : Configuration) (given : Option (List ℕ)) (x : Option Held) (held : Held) (ended : Bool) → held_unless ended x ≡ Some held
    → fresh_octets (held_unless ended (option_map (membership config) given)) ≡ unwrap_or given []
fresh-told config given x held true is = absurd (cc)
fresh-told config None x held false is = refl
fresh-told config (Some fresh) x held false is = refl

-- what is awaited is the last attempt of what is not synchronised
awaiting : (held : Held) (attempt : ℕ) → awaits_sync held ≡ Some attempt → (held.synced ≡ false) × (held.attempt ≡ Some attempt)
awaiting held attempt is = go held.synced refl is
  where
    go : (b : Bool) → held.synced ≡ b → (if b then None else held.attempt) ≡ Some attempt → (held.synced ≡ false) × (held.attempt ≡ Some attempt)
    go true e is = absurd (cc)
    go false e is = (e, is)

-- what a member holds after a turn of its own without a call
pub held-own : (past : List Turn) (turn : Turn) (member spir : ℕ) (held : Held) → is_by (Member member) turn ≡ true → grant_in spir turn.calls ≡ None
    → MemberHolds past member spir held
    → MemberHolds (turn ∷ past) member spir (advanced spir (member_task turn.event) turn.calls turn.step held)
held-own past turn member spir held mine none is =
    ap (λ (config : Configuration). held_by config.window (own (Member member) (turn ∷ past)) spir) (own-config (Member member) past turn mine)
    ∙ (ap (λ b. held_by (window_by past) (if b then turn ∷ own (Member member) past else own (Member member) past) spir) mine
    ∙ (held_by-cons (window_by past) spir turn (own (Member member) past)
    ∙ (ap (held_after (window_by past) spir (member_task turn.event) turn.calls turn.step) is
    ∙ ap (λ x. first_some (option_map (held_begun (window_by past)) x) (Some (advanced spir (member_task turn.event) turn.calls turn.step held))) none)))

module _ (fresh : List ℕ) (held_of : ℕ → Option Held) (octets : List ℕ) (calls : List Call) (step : Step) (t : TakenBy fresh held_of octets calls step) where
  abbrev held : Held
  held = t.held

  abbrev spir : ℕ
  spir = held.sa.spir

  abbrev ids : MessageIds
  ids = t.is.0

  abbrev agreed : Agreed
  agreed = record { next = t.counters.0; floor = t.counters.1; delta = 0; ends_requests = false }

  pub member-agreed : agreed_in spir task.Receive step.verdict ≡ Some agreed
  member-agreed = ap (agreed_in spir task.Receive) t.says.said ∙ ap (λ b. if b then Some agreed else None)
      (its-counter held.sa (counter_name held.sa counter.Answer) refl)

  abbrev after : Held
  after = advanced spir task.Receive calls step held

  counters-next : t.counters.0 ≡ max (five_at held.nexts counter.Ask) ids.receive
  counters-next = ap (λ (c : ℕ × ℕ). c.0) t.is.3

  counters-floor : t.counters.1 ≡ max held.answered.floor ids.send
  counters-floor = ap (λ (c : ℕ × ℕ). c.1) t.is.3

  next-greater : five_at after.nexts counter.Ask ≡ t.counters.0
  next-greater =
      let jumps : five_at after.nexts counter.Ask ≡ max t.counters.0 (five_at held.nexts counter.Ask) =
      ap (λ x. after_jump (next_in x) (five_at held.nexts counter.Ask)) member-agreed in
      let is : t.counters.0 ≡ max (five_at held.nexts counter.Ask) ids.receive = counters-next in
      omega (arith, jumps, is)

  floor-greater : after.answered.floor ≡ t.counters.1
  floor-greater =
      let raised : after.answered.floor ≡ max held.answered.floor t.counters.1 =
      taken-floor (response_in spir task.Receive step) (after_floor (agreed_in spir task.Receive step.verdict) held.answered) ∙ ap
      (λ x. (after_floor x held.answered).floor) member-agreed in
      let is : t.counters.1 ≡ max held.answered.floor ids.send = counters-floor in
      omega (arith, raised, is)

  now-synced : after.synced ≡ true
  now-synced = ap (λ x. is_some x || held.synced) member-agreed

module _ (boxes : ℕ) (past : List Turn) (turn : Turn) (explained : Explained boxes (turn ∷ past)) (name : CounterName) (next floor : ℕ)
    (said : turn.step.verdict ≡ out.Synced name next floor) where
  does : DoesTold boxes past turn
  does = does-told boxes past turn explained.0 explained.1

  module _ (member : ℕ) (octets : List ℕ) (brings : Brings turn.event (parties.Member member))
      (arrived : Arrives (told_state boxes past) turn.event octets) where
    abbrev mine : List Turn
    mine = own (Member member) past

    abbrev fresh_of : List ℕ
    fresh_of = fresh_octets ((told_state boxes past).members member).given

    abbrev Took : Type 0
    Took = TakenBy fresh_of ((told_state boxes past).members member).held octets turn.calls turn.step

    by-it : performer turn ≡ Some (Member member)
    by-it = let run : is_refused_by_run turn.step.verdict ≡ false = ap is_refused_by_run said in rw run (brings.performs turn.step.verdict)

    was-held : (t : Took) → ((told_state boxes past).members member).held t.response.header.spir ≡ Some t.held
    was-held t = of-spii t.response.header.spii (((told_state boxes past).members member).held t.response.header.spir) t.held t.found

    had-it : (t : Took) → MemberHolds past member t.held.sa.spir t.held
    had-it t =
        let spir : ℕ = t.response.header.spir in
        let is_held : held_by (window_by past) mine spir ≡ Some t.held = own-held boxes past member spir t.held (was-held t) in
        subst (λ k. held_by (window_by past) mine k ≡ Some t.held)
        (sym (own-spir (window_by past) past (local-records boxes past explained.1) member spir t.held is_held)) is_held

    has-it : (t : Took) → MemberHolds (turn ∷ past) member t.held.sa.spir (advanced t.held.sa.spir task.Receive turn.calls turn.step t.held)
    has-it t =
        subst (λ asked. MemberHolds (turn ∷ past) member t.held.sa.spir (advanced t.held.sa.spir asked turn.calls turn.step t.held)) brings.member_receives
        (held-own past turn member t.held.sa.spir t.held (ap (is_end (Member member)) by-it ∙ eq-eqb member member refl)
        (ap (grant_in t.held.sa.spir) t.no_calls) (had-it t))

    taken-by : Took → MemberSynchronised past turn name next floor
    taken-by t =
        let awaits = awaiting t.held t.attempt t.awaited in
        let same : out.Synced name next floor ≡ out.Synced (counter_name t.held.sa counter.Answer) t.counters.0 t.counters.1 = sym said ∙ t.says.said in
        record {
          member = member;
          before = t.held;
          after = advanced t.held.sa.spir task.Receive turn.calls turn.step t.held;
          attempt = t.attempt;
          ids = t.is.0;
          payloads = t.payloads;
          by_member = by-it;
          named = cc;
          had = had-it t;
          has = has-it t;
          unsynced = awaits.0;
          awaited = awaits.1;
          came = record { octets = octets; arrived = arrived; message = t.response; opens = t.opens; inner = t.inner };
          answers = t.is.1;
          nonce = t.is.2 ∙ ap (λ fresh. sync_nonce fresh t.attempt)
              (fresh-told (config_by past) (found fresh_at mine) (held_by (window_by past) mine t.response.header.spir) t.held (has_ended member past)
              (was-held t));
          greater_next = next-greater fresh_of ((told_state boxes past).members member).held octets turn.calls turn.step t ∙ counters-next fresh_of
              ((told_state boxes past).members member).held octets turn.calls turn.step t;
          greater_floor = floor-greater fresh_of ((told_state boxes past).members member).held octets turn.calls turn.step t ∙ counters-floor fresh_of
              ((told_state boxes past).members member).held octets turn.calls turn.step t;
          synced = now-synced fresh_of ((told_state boxes past).members member).held octets turn.calls turn.step t;
          next_said = let p : next ≡ t.counters.0 = cc in p ∙ sym
              (next-greater fresh_of ((told_state boxes past).members member).held octets turn.calls turn.step t);
          floor_said = let p : floor ≡ t.counters.1 = cc in p ∙ sym
              (floor-greater fresh_of ((told_state boxes past).members member).held octets turn.calls turn.step t);
        }

  pub member-synchronised : MemberSynchronised past turn name next floor
  member-synchronised = go (does-sync (told_state boxes past) (lots-told boxes past explained.1) turn.moment turn.calls turn.step turn.event does)
    where
      go : SyncTurn (told_state boxes past) turn.event turn.calls turn.step → MemberSynchronised past turn name next floor
      go (Other other) = let both : true ≡ false = ap is_of_sync (sym said) ∙ other in absurd (cc)
      go (Announced member spir held asks is_held sends) = let both : _ = sym said ∙ sends.said in absurd (cc)
      go (Accepted_here octets brings arrived accepted) = let both : _ = sym said ∙ accepted.accepts.said in absurd (cc)
      go (Taken_here member octets brings arrived taken) = taken-by member octets brings arrived taken
