-- What the peer holds after one more turn of its own is what that turn makes of what it held.
use Rattle.std.proofs.Common.{◌≡◌, ◌≢◌, ℕ, ◌+◌, ◌==◌, ◌⊎◌, inl, inr, unwrap_or, Bool, true, false, not, Option, Some, None, MatchOption, List, [], ◌∷◌, ◌++◌, map, option_to_list, ⊎_elim, refl, ap, ap₂, sym, ◌∙◌, subst, if◌then◌else◌}
use Rattle.std.proofs.lemmas.Bool.{eqb-false, eq-eqb, ne_eqb, not-false, not-true, or_parts}
use Rattle.std.proofs.lemmas.List.{map-append}
use Rattle.std.proofs.lemmas.Option.{same_Some}
use Rattle.std.specs.List.{AllByRecursion, cons_option, filter_map, list_any}
use Rattle.std.specs.Option.{option_map}
use Rattle.events.specs.declared.event.Event.{Event}
use Rattle.events.specs.declared.event.Event.TheVariants as event
use Rattle.events.specs.declared.event.Party.TheVariants as parties
use Rattle.events.specs.declared.turn.Step.{Step}
use Rattle.events.specs.declared.turn.Turn.{Turn}
use Rattle.events.specs.declared.verdict.Refusal.{Refusal}
use Rattle.events.specs.declared.verdict.Refusal.TheVariants as refusal
use Rattle.events.specs.declared.verdict.Verdict.{Verdict}
use Rattle.events.specs.declared.verdict.Verdict.TheVariants as out
use Rattle.ha_base.specs.declared.outside.Moment.{Moment}
use Rattle.ike_window.specs.Stored.{window_of_responses}
use Rattle.keeper_book.specs.declared.calls.Call.{Call}
use Rattle.keeper_book.specs.declared.counters.Counter.TheVariants as counter
use Rattle.keeper_book.specs.declared.records.Record.{Record}
use Rattle.replay_set.specs.Window.{window_of}
use Rattle.turn_rules.proofs.Ties.{greatest-cons_option, jumps-cons_option, received-peer, responses-cons_option, window_of-cons_option}
use Rattle.turn_rules.specs.Configurations.{Configuration, configured_in, default_configuration}
use Rattle.turn_rules.specs.Ends.{Peer, Performer, is_by, is_end, own, performer_at}
use Rattle.turn_rules.specs.Fits.{Does, Imports, Refuses, Refusing, run_refusal}
use Rattle.turn_rules.specs.Held.{after_received, first_some, floor_of, found, greatest, received_in, received_of, config_by, configured_at, window_by}
use Rattle.turn_rules.specs.IkeState.{outstanding_of, turn_agreed, turn_response}
use Rattle.turn_rules.specs.PeerTickets.{is_live_after, ticket_of}
use Rattle.turn_rules.specs.Peers.{AreDistinct, Differ, associations_by, record_entered, entered_in}
use Rattle.turn_rules.specs.Slots.{Slot, admits, after_heard, clashes, entered_slot, first_slot, heard_of, highest_of, is_entered, left_of, next_sent, one_below, receives_at, records, since_entered, spent_of, slot_after, slot_by, slots_after, slots_by}
use Rattle.turn_rules.specs.States.{RunState, told_state}
use Rattle.turn_rules.specs.Tasks.{peer_task}

pub all-each : {X : Type 0} {P : X → Type 0} (xs : List X) → ((x : X) → P x) → AllByRecursion P xs
all-each [] each = tt
all-each (x ∷ xs) each = (each x, all-each xs each)

pub all-weaker : {X : Type 0} {P Q : X → Type 0} (xs : List X) → ((x : X) → P x → Q x) → AllByRecursion P xs → AllByRecursion Q xs
all-weaker [] f all = tt
all-weaker (x ∷ xs) f all = (f x all.0, all-weaker xs f all.1)

-- what the peer holds is of the associations that came to it
records-map : (size : ℕ) (past : List Turn) (associations : List Record) → records (map (slot_by size past) associations) ≡ associations
records-map size past [] = refl
records-map size past (sa ∷ more) = ap (λ rest. sa ∷ rest) (records-map size past more)

pub records-slots_by : (size : ℕ) (past : List Turn) → records (slots_by size past) ≡ associations_by past
records-slots_by size past = records-map size past (associations_by past)

-- an association that is admitted differs from those that the peer has
pub admits-differ : (slots : List Slot) (sa : Record) → admits slots sa ≡ true → AllByRecursion (λ slot. Differ slot sa) (records slots)
admits-differ slots sa e = go slots (not-true (list_any (clashes sa) slots) e)
  where
    go : (slots : List Slot) → list_any (clashes sa) slots ≡ false → AllByRecursion (λ slot. Differ slot sa) (records slots)
    go [] e = tt
    go (slot ∷ more) e =
        let parts : (clashes sa slot ≡ false) × (list_any (clashes sa) more ≡ false) = or_parts (clashes sa slot) (list_any (clashes sa) more) e in
        let tests : ((slot.sa.spir == sa.spir) ≡ false) × (receives_at sa.spi_out slot ≡ false) = or_parts (slot.sa.spir == sa.spir) (receives_at sa.spi_out slot) parts.0 in
        (eqb-false slot.sa.spir sa.spir tests.0, go more parts.1)

pub apart-append : (old : List Record) (sa : Record) → AreDistinct old → AllByRecursion (λ slot. Differ slot sa) old → AreDistinct (old ++ sa ∷ [])
apart-append [] sa apart differ = (tt, tt)
apart-append (slot ∷ more) sa apart differ = (with_one more apart.0, apart-append more sa apart.1 differ.1)
  where
    with_one : (more : List Record) → AllByRecursion (Differ slot) more → AllByRecursion (Differ slot) (more ++ sa ∷ [])
    with_one [] all = (differ.0, tt)
    with_one (x ∷ xs) all = (all.0, with_one xs all.1)

module _ (size : ℕ) (turn : Turn) (past : List Turn) where
  abbrev slot_as : Record → List Turn → Slot
  slot_as sa mine = record {
    sa = sa;
    live = is_live_after sa.spir mine;
    next = next_sent sa.spir sa.starts.esp_in mine;
    window = window_of size sa.starts.esp_out (filter_map (received_of sa.spir) mine);
    iv = greatest sa.starts.iv (map (λ n. n + 1) (filter_map (spent_of sa.spir counter.Iv) mine));
    ask = greatest (greatest sa.starts.answer (map (λ n. n + 1) (filter_map (spent_of sa.spir counter.Ask) mine))) (filter_map (left_of sa.spir counter.Ask) mine);
    asked = outstanding_of peer_task sa.spir mine;
    answered = window_of_responses (floor_of sa.starts.ask (filter_map (turn_agreed peer_task sa.spir) mine)) (filter_map (turn_response peer_task sa.spir) mine);
    highest = highest_of (one_below sa.starts.ask) (filter_map (heard_of sa.spir) mine);
    ticket = found (ticket_of sa.spir) mine;
  }

  highest-cons_option : (heard before : Option ℕ) (ids : List ℕ) → highest_of before (cons_option heard ids) ≡ after_heard heard (highest_of before ids)
  highest-cons_option None before ids = refl
  highest-cons_option (Some id) before ids = refl

  window_later : (sa : Record) (mine : List Turn) → window_of size sa.starts.esp_out (filter_map (received_of sa.spir) (turn ∷ mine)) ≡ after_received (received_in sa.spir (peer_task turn.event) turn.step.verdict) (slot_as sa mine).window
  window_later sa mine =
      window_of-cons_option (received_of sa.spir turn) size sa.starts.esp_out (filter_map (received_of sa.spir) mine)
      ∙ ap (λ n. after_received n (slot_as sa mine).window) (received-peer sa.spir turn.event turn.step.verdict)

  later : (sa : Record) (mine : List Turn) → slot_as sa (turn ∷ mine) ≡ slot_after turn.moment (peer_task turn.event) turn.step (slot_as sa mine)
  later sa mine i = record {
    sa = sa;
    live = is_live_after sa.spir (turn ∷ mine);
    next = next_sent sa.spir sa.starts.esp_in (turn ∷ mine);
    window = window_later sa mine i;
    iv = greatest-cons_option (spent_of sa.spir counter.Iv turn) sa.starts.iv (filter_map (spent_of sa.spir counter.Iv) mine) i;
    ask = jumps-cons_option (left_of sa.spir counter.Ask turn) (spent_of sa.spir counter.Ask turn) sa.starts.answer (filter_map (spent_of sa.spir counter.Ask) mine) (filter_map (left_of sa.spir counter.Ask) mine) i;
    asked = outstanding_of peer_task sa.spir (turn ∷ mine);
    answered = responses-cons_option (turn_agreed peer_task sa.spir turn) (turn_response peer_task sa.spir turn) sa.starts.ask (filter_map (turn_agreed peer_task sa.spir) mine) (filter_map (turn_response peer_task sa.spir) mine) i;
    highest = highest-cons_option (heard_of sa.spir turn) (one_below sa.starts.ask) (filter_map (heard_of sa.spir) mine) i;
    ticket = found (ticket_of sa.spir) (turn ∷ mine);
  }

  -- what is held of an association that came before
  earlier : (sa : Record) → is_entered sa.spir (entered_in turn) ≡ false → slot_by size (turn ∷ past) sa ≡ slot_after turn.moment (peer_task turn.event) turn.step (slot_by size past sa)
  earlier sa other = ap (λ b. slot_as sa (if b then [] else turn ∷ since_entered sa.spir past)) other ∙ later sa (since_entered sa.spir past)

  earlier_all : (associations : List Record) → AllByRecursion (λ sa. is_entered sa.spir (entered_in turn) ≡ false) associations
      → map (slot_by size (turn ∷ past)) associations ≡ map (slot_after turn.moment (peer_task turn.event) turn.step) (map (slot_by size past) associations)
  earlier_all [] all = refl
  earlier_all (sa ∷ more) all = ap₂ (λ slot slots. slot ∷ slots) (earlier sa all.0) (earlier_all more all.1)

  -- what is held of the one that comes, if any does
  entered_now : (x : Option Record) → entered_in turn ≡ x → map (slot_by size (turn ∷ past)) (option_to_list x) ≡ option_to_list (option_map (entered_slot size) x)
  entered_now None e = refl
  entered_now (Some sa) e =
      let same : is_entered sa.spir (entered_in turn) ≡ true = ap (is_entered sa.spir) e ∙ eq-eqb sa.spir sa.spir refl in
      ap (λ b. slot_as sa (if b then [] else turn ∷ since_entered sa.spir past) ∷ []) same

  others : (x : Option Record) → ((sa : Record) → x ≡ Some sa → AllByRecursion (λ old. Differ old sa) (associations_by past)) → AllByRecursion (λ sa. is_entered sa.spir x ≡ false) (associations_by past)
  others None apart = all-each (associations_by past) (λ sa. refl)
  others (Some new) apart = all-weaker (associations_by past) (λ sa differ. ne_eqb new.spir sa.spir (λ same. differ (sym same))) (apart new refl)

  -- what is held after one more turn
  pub slots_by-cons : ((sa : Record) → record_entered turn.event turn.step.verdict ≡ Some sa → AllByRecursion (λ old. Differ old sa) (associations_by past))
      → slots_by size (turn ∷ past) ≡ slots_after size turn.moment (peer_task turn.event) turn.step (slots_by size past)
  slots_by-cons apart =
      map-append (slot_by size (turn ∷ past)) (associations_by past) (option_to_list (entered_in turn))
      ∙ ap₂ (λ old new. old ++ new)
      (earlier_all (associations_by past) (others (entered_in turn) apart))
      (entered_now (entered_in turn) refl)

-- an event lets no association in that the peer's own stand in the way of
unless_refused : {P : Type 0} (test : Bool) (why : Refusal) (calls : List Call) (step : Step) → Refusing test why calls step P → step.verdict ≢ out.Refused why → (test ≡ false) × P
unless_refused true why calls step refused said = absurd (said refused.says.said)
unless_refused false why calls step otherwise said = (refl, otherwise)

entered-import : (asked sa : Record) (verdict : Verdict) → record_entered (event.Import asked) verdict ≡ Some sa → (verdict ≡ out.Entered) × (asked ≡ sa)
entered-import asked sa out.Entered e = (refl, same_Some asked sa e)
entered-import asked sa verdict e = absurd (cc)

enters-admitted : (state : RunState) (now : Moment) (event : Event) (calls : List Call) (step : Step) (sa : Record) → Does state now event calls step → record_entered event step.verdict ≡ Some sa → admits state.peer.slots sa ≡ true
enters-admitted state now (event.Import asked) calls step sa does e = by_refusal (run_refusal state (event.Import asked)) does
  where
    is : (step.verdict ≡ out.Entered) × (asked ≡ sa)
    is = entered-import asked sa step.verdict e

    said : (why : Refusal) → step.verdict ≢ out.Refused why
    said why refused = let both : out.Entered ≡ out.Refused why = sym is.0 ∙ refused in absurd (cc)

    by_refusal : (x : Option Refusal) → MatchOption x (Imports state asked calls step) (λ why. Refuses why calls step) → admits state.peer.slots sa ≡ true
    by_refusal None imports =
        let free = unless_refused (not (admits state.peer.slots asked)) refusal.SpiInUse calls step imports (said refusal.SpiInUse) in
        subst (λ x. admits state.peer.slots x ≡ true) is.1 (not-false (admits state.peer.slots asked) free.0)
    by_refusal (Some why) refuses = absurd (said why refuses.says.said)
enters-admitted state now (event.Send parties.Peer spir payload) calls step sa does e = absurd (cc)
enters-admitted state now (event.Send (parties.Member member) spir payload) calls step sa does e = absurd (cc)
enters-admitted state now (event.Ask parties.Peer spir request) calls step sa does e = absurd (cc)
enters-admitted state now (event.Ask (parties.Member member) spir request) calls step sa does e = absurd (cc)
enters-admitted state now (event.Again parties.Peer spir id) calls step sa does e = absurd (cc)
enters-admitted state now (event.Again (parties.Member member) spir id) calls step sa does e = absurd (cc)
enters-admitted state now event calls step sa does e = absurd (cc)

-- the turn is one by what own turns tell
abbrev pub DoesTold : ℕ → List Turn → Turn → Type 0
DoesTold boxes past turn = Does (told_state boxes past) turn.moment turn.event turn.calls turn.step

-- what comes to the peer differs from what it has
pub import-differs : (boxes : ℕ) (past : List Turn) (turn : Turn) → DoesTold boxes past turn → (sa : Record) → record_entered turn.event turn.step.verdict ≡ Some sa
    → AllByRecursion (λ old. Differ old sa) (associations_by (own Peer past))
import-differs boxes past turn does sa e =
    subst (λ slots. AllByRecursion (λ old. Differ old sa) slots) (records-slots_by (window_by past) (own Peer past))
    (admits-differ (told_state boxes past).peer.slots sa (enters-admitted (told_state boxes past) turn.moment turn.event turn.calls turn.step sa does e))

-- what the peer holds after a turn of its own
own_slots-cons : (size boxes : ℕ) (past : List Turn) (turn : Turn) → DoesTold boxes past turn → is_by Peer turn ≡ true
    → slots_by size (own Peer (turn ∷ past)) ≡ slots_after size turn.moment (peer_task turn.event) turn.step (slots_by size (own Peer past))
own_slots-cons size boxes past turn does mine =
    ap (λ b. slots_by size (if b then turn ∷ own Peer past else own Peer past)) mine
    ∙ slots_by-cons size turn (own Peer past)
    (import-differs boxes past turn does)

-- a turn of an end's own configures nothing
config-own : (end : Performer) (event : Event) (verdict : Verdict) → is_end end (performer_at event verdict) ≡ true → configured_in event verdict ≡ None
config-own end (event.Cluster identity lifetime window ticket_key) out.Configured mine = absurd (cc)
config-own end (event.Cluster identity lifetime window ticket_key) verdict mine = refl
config-own end event verdict mine = refl

-- and a turn that configures is the first
sets-first : (boxes : ℕ) (past : List Turn) (now : Moment) (event : Event) (calls : List Call) (step : Step) → Does (told_state boxes past) now event calls step → (configured_in event step.verdict ≡ None) ⊎ (past ≡ [])
sets-first boxes [] now event calls step does = inr refl
sets-first boxes (turn ∷ past) now (event.Cluster identity lifetime window ticket_key) calls step does = inl (ap (configured_in (event.Cluster identity lifetime window ticket_key)) does.says.said)
sets-first boxes (turn ∷ past) now event calls step does = inl refl

keeps-config : (turn : Turn) (past : List Turn) → configured_at turn ≡ None → config_by (turn ∷ past) ≡ config_by past
keeps-config turn past none = ap (λ config. unwrap_or (first_some config (found configured_at past)) default_configuration) none

-- own turns tell the same with the configuration after a turn as before it
pub own-config : (end : Performer) (past : List Turn) (turn : Turn) → is_by end turn ≡ true → config_by (turn ∷ past) ≡ config_by past
own-config end past turn mine = keeps-config turn past (config-own end turn.event turn.step.verdict mine)

pub other-config : {X : Type 0} (f : Configuration → List Turn → X) (end : Performer) (boxes : ℕ) (past : List Turn) (turn : Turn) → DoesTold boxes past turn → ((c d : Configuration) → f c [] ≡ f d [])
    → f (config_by (turn ∷ past)) (own end past) ≡ f (config_by past) (own end past)
other-config {X} f end boxes past turn does none = ⊎_elim
    (λ same. ap (λ config. f config (own end past)) (keeps-config turn past same))
    (λ empty. subst (λ turns. f (config_by (turn ∷ past)) (own end turns) ≡ f (config_by past) (own end turns)) (sym empty) (none (config_by (turn ∷ past)) (config_by past)))
    (sets-first boxes past turn.moment turn.event turn.calls turn.step does)

-- what is held of the peer's associations, after a turn of the peer's own and after one of another end
pub slots-own : (boxes : ℕ) (past : List Turn) (turn : Turn) → DoesTold boxes past turn → is_by Peer turn ≡ true
    → slots_by (window_by (turn ∷ past)) (own Peer (turn ∷ past)) ≡ slots_after (window_by past) turn.moment (peer_task turn.event) turn.step (slots_by (window_by past) (own Peer past))
slots-own boxes past turn does mine =
    ap (λ (config : Configuration). slots_by config.window (own Peer (turn ∷ past))) (own-config Peer past turn mine)
    ∙ own_slots-cons (window_by past) boxes past turn does mine

pub slots-other : (boxes : ℕ) (past : List Turn) (turn : Turn) → DoesTold boxes past turn → is_by Peer turn ≡ false
    → slots_by (window_by (turn ∷ past)) (own Peer (turn ∷ past)) ≡ slots_by (window_by past) (own Peer past)
slots-other boxes past turn does other =
    ap (λ b. slots_by (window_by (turn ∷ past)) (if b then turn ∷ own Peer past else own Peer past)) other
    ∙ other-config (λ config. slots_by config.window) Peer boxes past turn does (λ c d. refl)

-- the first slot that passes a test does, and has what all slots have
pub first-passes : (test : Slot → Bool) (slots : List Slot) (slot : Slot) → first_slot test slots ≡ Some slot → test slot ≡ true
first-passes test [] slot e = absurd (cc)
first-passes test (s ∷ ss) slot e = by_test (first-passes test ss slot) (test s) refl
  where
    by_test : (first_slot test ss ≡ Some slot → test slot ≡ true) → (b : Bool) → test s ≡ b → test slot ≡ true
    by_test more true t = ap test (sym (same_Some s slot (ap (λ b. if b then Some s else first_slot test ss) (sym t) ∙ e))) ∙ t
    by_test more false t = more (ap (λ b. if b then Some s else first_slot test ss) (sym t) ∙ e)

pub first-has : (P : Record → Type 0) (test : Slot → Bool) (slots : List Slot) (slot : Slot) → AllByRecursion P (records slots) → first_slot test slots ≡ Some slot → P slot.sa
first-has P test [] slot all e = absurd (cc)
first-has P test (s ∷ ss) slot all e = by_test (first-has P test ss slot all.1) (test s) refl
  where
    by_test : (first_slot test ss ≡ Some slot → P slot.sa) → (b : Bool) → test s ≡ b → P slot.sa
    by_test more true t = subst (λ (x : Slot). P x.sa) (same_Some s slot (ap (λ b. if b then Some s else first_slot test ss) (sym t) ∙ e)) all.0
    by_test more false t = more (ap (λ b. if b then Some s else first_slot test ss) (sym t) ∙ e)
