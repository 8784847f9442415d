-- Each request that the peer asks or answers is a deed.
use Rattle.std.proofs.Common.{◌≡◌, ◌≢◌, ℕ, ◌<◌, ◌==◌, Bool, Option, Some, None, MatchOption, List, [], ◌∷◌, ⊎_elim, refl, ap, sym, ◌∙◌, option_to_list, if◌then◌else◌, inl, inr, Result, Ok, Err, false}
use Rattle.std.proofs.lemmas.Bool.{and_parts, cases_lt, eqb-true}
use Rattle.events.specs.declared.event.Event.{Event}
use Rattle.events.specs.declared.event.Event.TheVariants as event
use Rattle.events.specs.declared.event.Party.TheVariants as parties
use Rattle.events.specs.declared.seals.Seal.{Seal}
use Rattle.events.specs.declared.turn.Step.{Step}
use Rattle.events.specs.declared.turn.Turn.{Turn}
use Rattle.events.specs.declared.verdict.Refusal.{Refusal}
use Rattle.events.specs.declared.verdict.Refusal.TheVariants as refusal
use Rattle.events.specs.declared.ike_outcomes.IkeDrop.TheVariants as drop
use Rattle.events.specs.declared.verdict.Verdict.{Verdict}
use Rattle.events.specs.declared.verdict.Verdict.TheVariants as out
use Rattle.ha_base.specs.declared.counter_names.CounterName.{CounterName}
use Rattle.ha_base.specs.declared.counter_names.End.TheVariants as end
use Rattle.ha_base.specs.declared.counter_names.Kind.{Kind}
use Rattle.ike_sas.specs.Held.{request_header, response_header}
use Rattle.ike_window.specs.Kept.{kept_octets, message_ids_of}
use Rattle.ike_window.specs.Requests.{IsNewRequest}
use Rattle.ike_window.specs.Windows.{IsAnswered}
use Rattle.keeper_book.specs.CounterEnds.{end_of}
use Rattle.keeper_book.specs.declared.calls.Call.{Call}
use Rattle.keeper_book.specs.declared.counters.Counter.{Counter}
use Rattle.keeper_book.specs.declared.counters.Counter.TheVariants as counter
use Rattle.sk_payload.specs.declared.open.Opened.{Opened}
use Rattle.sync_exchange.specs.Counters.{rise_of}
use Rattle.sync_exchange.specs.Laws.{response_ids, response_of}
use Rattle.sync_exchange.specs.declared.peer.Accepted.{Accepted}
use Rattle.sync_exchange.specs.declared.replay_counter.TheConstants.{DELTA_OCTETS}
use Rattle.sync_exchange.specs.declared.request.SyncRequest.{SyncRequest}
use Rattle.sync_exchange.specs.declared.sync_drop.SyncDrop.{SyncDrop}
use Rattle.sync_exchange.specs.declared.sync_drop.SyncDrop.TheVariants as why
use Rattle.turn_laws.proofs.Arrivals.{Answered_by, Rested_by, Sync_taken_by, Synchronised_by, Taken, again-rests, message-taken}
use Rattle.turn_laws.proofs.Deeds.{Deed, IsIdle, IsOpenTo, Rested, Rests, Used_theirs, number_theirs, says-rests}
use Rattle.turn_laws.proofs.Pairs.{Answering, behind-elsewhere, behind-here, SealsIke, UsesPair, answering-pair, asking-pair, no-packet-is, pair-at, pair-first, pair-none, pair-second, request-answering, sealed-elsewhere, sealed-here, sealed-spends, sends-seals}
use Rattle.turn_laws.proofs.Receiving.{Brings}
use Rattle.turn_laws.proofs.Names.{number-failed, number-passed}
use Rattle.turn_laws.proofs.Single.{one-peer-used, ours-counter}
use Rattle.turn_laws.proofs.Uses.{number_at}
use Rattle.turn_laws.specs.Listed.{request_at}
use Rattle.turn_rules.specs.Safe.{accepted_as, taken_as}
use Rattle.turn_laws.specs.Places.{Ours, Place, Theirs}
use Rattle.turn_laws.specs.Turns.{answered, uses_of}
use Rattle.turn_rules.proofs.SlotTies.{first-passes}
use Rattle.turn_rules.proofs.Ties.{said-receiving}
use Rattle.turn_rules.specs.Ends.{Peer, is_refused_by_run, own, performer_of}
use Rattle.turn_rules.specs.Held.{accepted, first_some, received, said_in, used, window_by}
use Rattle.turn_rules.specs.CountersOf.{is_of_spir}
use Rattle.turn_rules.specs.IkeState.{taken_id}
use Rattle.turn_rules.specs.Messages.{GivesAgain, Resends, SendsRequest, TakesMessage}
use Rattle.turn_rules.specs.PeerMessages.{AcceptsSync, AnswersSync, PeerAsks, PeerResends, SlotAnswers, SlotAsks, SlotSendsRequest, has_spis, peer_keys, peer_listener, slot_ike}
use Rattle.turn_rules.specs.Peers.{record_entered}
use Rattle.ike_values.specs.Values.{PayloadValue}
use Rattle.turn_rules.specs.Slots.{PeerForgets, Slot, first_slot, has_spir, peer_counter, slots_by}
use Rattle.turn_rules.specs.Steps.{Says}
use Rattle.turn_rules.specs.Tasks as task
use Rattle.turn_rules.specs.Tasks.{member_task, peer_task}

-- two counters of the peer of other kinds are elsewhere
theirs-apart : (a b : CounterName) → a.kind ≢ b.kind → Theirs a ≢ Theirs b
theirs-apart a b differs same = differs (ap kind_in same)
  where
    kind_in : Place → Kind
    kind_in (Theirs name) = name.kind
    kind_in p = a.kind

-- The peer uses a number of an association and its next IV.
module _ (past : List Turn) (event : Event) (step : Step) (test : Slot → Bool) (slot : Slot) (is_first : first_slot test (slots_by (window_by past) (own Peer past)) ≡ Some slot) (c : Counter) (n : ℕ) where
  abbrev IsPair : Type 0
  IsPair = UsesPair (Theirs (peer_counter slot.sa c)) (Theirs (peer_counter slot.sa counter.Iv)) n slot.iv None event step

  pub peer_pair-used : c ≢ counter.Iv → Theirs (peer_counter slot.sa c) ≢ Theirs (peer_counter slot.sa counter.Iv) → IsOpenTo slot c n → slot.iv < end_of slot.sa counter.Iv → IsPair
      → performer_of event step.verdict ≡ Some Peer → record_entered event step.verdict ≡ None
      → ((spir : ℕ) (d : Counter) → used spir d event step ≡ None)
      → ((spir : ℕ) → request_at (Ours spir counter.Answer) (taken_as step.verdict) ≡ None)
      → ((other : ℕ) (d : Counter) → number_theirs other d event step ≡ first_some (number_at (Ours other d) (Ours slot.sa.spir c) n) (number_at (Ours other d) (Ours slot.sa.spir counter.Iv) slot.iv))
      → (calls : List Call) → calls ≡ [] → Deed past event calls step
  peer_pair-used differs apart is_open below pair performs no_entry not_ours not_answered told calls none = Used_theirs (record {
    needs = record { test = test; slot = slot; c = c; number = n; is_first = is_first; is_open = is_open }
        ∷ record { test = test; slot = slot; c = counter.Iv; number = slot.iv; is_first = is_first; is_open = (refl, below) } ∷ [];
    by_it = let run : _ = pair.not_run in rw run performs;
    no_calls = none;
    answering = pair.answering;
    uses_them = pair.uses_them;
    apart = ((apart, tt), (tt, tt));
    not_ours = not_ours;
    not_answered = not_answered;
    told = λ other d. pair-at (Ours other d) (Ours slot.sa.spir c) (Ours slot.sa.spir counter.Iv) n slot.iv (λ same. differs (ours-counter slot.sa.spir slot.sa.spir c counter.Iv same)) ∙ ap option_to_list (sym (told other d));
    named = λ packet accepted other k is. no-packet-is step.verdict packet pair.no_packet accepted;
    no_entry = no_entry;
    no_ticket = pair.ticket_is;
  })

-- an event that lets the peer ask with these inner payloads
pub record IsAsk (asked : Event) (spir : ℕ) (payloads : List PayloadValue) : Type 0 where
  pub performs : (verdict : Verdict) → performer_of asked verdict ≡ Some Peer
  pub no_entry : (verdict : Verdict) → record_entered asked verdict ≡ None
  pub by_peer : peer_task asked ≡ task.Ask spir payloads
  pub by_none : member_task asked ≡ task.Nothing
  pub receives : (other : ℕ) (verdict : Verdict) → received other asked verdict ≡ None
  pub answers : (other : ℕ) (verdict : Verdict) → answered other asked verdict ≡ None

-- the peer asks, by its associations
module _ (past : List Turn) (step : Step) (asked : Event) (spir : ℕ) (payloads : List PayloadValue) (is : IsAsk asked spir payloads) (calls : List Call) (no_calls : calls ≡ []) where
  rested : (why : Refusal) → Says (out.Refused why) step → Deed past asked calls step
  rested why says = Rested no_calls (says-rests step (out.Refused why) tt says) (is.no_entry step.verdict)

  module _ (slot : Slot) (is_first : first_slot (has_spir spir) (slots_by (window_by past) (own Peer past)) ≡ Some slot) where
    abbrev Sent : Type 0
    Sent = SendsRequest (slot_ike slot) slot.ask slot.iv payloads step

    same_spir : slot.sa.spir ≡ spir
    same_spir = eqb-true slot.sa.spir spir (and_parts slot.live (slot.sa.spir == spir) (first-passes (has_spir spir) (slots_by (window_by past) (own Peer past)) slot is_first)).1

    asked-seals : Sent → SealsIke (peer_counter slot.sa counter.Iv) slot.iv step
    asked-seals s = sends-seals (slot_ike slot) slot.iv (request_header (slot_ike slot).keys slot.ask) payloads step s.sends

    untold_ours : (other : ℕ) (d : Counter) → said_in other d (member_task asked) step.verdict ≡ None
    untold_ours other d = ap (λ t. said_in other d t step.verdict) is.by_none ∙ unsaid other d
      where
        unsaid : (other : ℕ) (d : Counter) → said_in other d task.Nothing step.verdict ≡ None
        unsaid other counter.EspOut = refl
        unsaid other counter.EspIn = refl
        unsaid other counter.Iv = refl
        unsaid other counter.Ask = refl
        unsaid other counter.Answer = refl

    asked-not_ours : Sent → (other : ℕ) (d : Counter) → used other d asked step ≡ None
    asked-not_ours s other counter.EspOut = untold_ours other counter.EspOut
    asked-not_ours s other counter.EspIn = untold_ours other counter.EspIn
    asked-not_ours s other counter.Iv = sealed-elsewhere end.Cluster (peer_counter slot.sa counter.Iv) slot.iv step refl refl (asked-seals s) other
    asked-not_ours s other counter.Ask = untold_ours other counter.Ask
    asked-not_ours s other counter.Answer = untold_ours other counter.Answer

    asked-told : Sent → (other : ℕ) (d : Counter) → number_theirs other d asked step ≡ first_some (number_at (Ours other d) (Ours slot.sa.spir counter.Ask) slot.ask) (number_at (Ours other d) (Ours slot.sa.spir counter.Iv) slot.iv)
    asked-told s other counter.EspOut = ap (λ t. said_in other counter.EspOut t step.verdict) is.by_peer ∙ pair-none (slot.sa.spir == other) slot.ask slot.iv
    asked-told s other counter.EspIn = is.receives other step.verdict ∙ pair-none (slot.sa.spir == other) slot.ask slot.iv
    asked-told s other counter.Iv = sealed-here slot.sa end.Peer (peer_counter slot.sa counter.Iv) slot.iv step refl refl refl (asked-seals s) other
        ∙ pair-second (slot.sa.spir == other) slot.ask slot.iv
    asked-told s other counter.Ask = ap (λ t. said_in other counter.Ask t step.verdict) is.by_peer
        ∙ (ap (said_in other counter.Ask (task.Ask spir payloads)) s.said
        ∙ (ap (λ k. if k == other then Some slot.ask else None) (sym same_spir) ∙ pair-first (slot.sa.spir == other) slot.ask slot.iv))
    asked-told s other counter.Answer = is.answers other step.verdict ∙ pair-none (slot.sa.spir == other) slot.ask slot.iv

    sent : slot.ask < end_of slot.sa counter.Ask → slot.iv < end_of slot.sa counter.Iv → Sent → Deed past asked calls step
    sent asks seals s = peer_pair-used past asked step (has_spir spir) slot is_first counter.Ask slot.ask (λ same. absurd (cc)) (theirs-apart (peer_counter slot.sa counter.Ask) (peer_counter slot.sa counter.Iv) (λ same. absurd (cc))) (refl, asks) seals
        (asking-pair asked step (slot_ike slot) (Theirs (peer_counter slot.sa counter.Ask)) (Theirs (peer_counter slot.sa counter.Iv)) slot.ask slot.iv payloads refl refl s)
        (is.performs step.verdict) (is.no_entry step.verdict) (asked-not_ours s) (λ other. ap (λ v. request_at (Ours other counter.Answer) (taken_as v)) s.said) (asked-told s) calls no_calls

    sends : SlotSendsRequest slot payloads step → Deed past asked calls step
    sends s = ⊎_elim
        (λ asks. ⊎_elim
        (λ seals. sent asks seals (s.within asks seals))
        (λ ended. rested refusal.Exhausted (s.ended (inr ended)))
        (cases_lt slot.iv (end_of slot.sa counter.Iv)))
        (λ ended. rested refusal.Exhausted (s.ended (inl ended)))
        (cases_lt slot.ask (end_of slot.sa counter.Ask))

    slot_asks-deed : SlotAsks slot payloads step → Deed past asked calls step
    slot_asks-deed w = ⊎_elim (λ fits. sends fits.1) (λ full. rested (refusal.WindowFull full.0) full.3) w

  pub peer_asks-deed : PeerAsks spir (slots_by (window_by past) (own Peer past)) payloads step → Deed past asked calls step
  peer_asks-deed asks = by_slot (first_slot (has_spir spir) (slots_by (window_by past) (own Peer past))) refl asks
    where
      by_slot : (x : Option Slot) → first_slot (has_spir spir) (slots_by (window_by past) (own Peer past)) ≡ x
          → MatchOption x (Says (out.Refused refusal.Unknown) step) (λ slot. SlotAsks slot payloads step) → Deed past asked calls step
      by_slot None e says = rested refusal.Unknown says
      by_slot (Some slot) e asks = slot_asks-deed slot e asks

-- and it closes its end of an association
pub peer_forgets-deed : (past : List Turn) (step : Step) (spir : ℕ) (calls : List Call) → calls ≡ [] → PeerForgets spir (slots_by (window_by past) (own Peer past)) step → Deed past (event.Forget spir) calls step
peer_forgets-deed past step spir calls none forgets = Rested none (by_slot (first_slot (has_spir spir) (slots_by (window_by past) (own Peer past))) forgets) refl
  where
    by_slot : (x : Option Slot) → MatchOption x (Says (out.Refused refusal.Unknown) step) (λ slot. Says out.Forgotten step) → Rests step
    by_slot None says = says-rests step (out.Refused refusal.Unknown) tt says
    by_slot (Some slot) says = says-rests step out.Forgotten tt says

-- and asks again
pub peer_resends-deed : (past : List Turn) (step : Step) (spir id : ℕ) (calls : List Call) → calls ≡ [] → PeerResends spir (slots_by (window_by past) (own Peer past)) id step → Deed past (event.Again parties.Peer spir id) calls step
peer_resends-deed past step spir id calls none r = Rested none (by_slot (first_slot (has_spir spir) (slots_by (window_by past) (own Peer past))) r) refl
  where
    kept : (o : Option (List ℕ)) → MatchOption o (Says (out.Refused (refusal.NotOutstanding id)) step) (λ octets. GivesAgain (out.Resent id) octets step) → Rests step
    kept None says = says-rests step (out.Refused (refusal.NotOutstanding id)) tt says
    kept (Some octets) again = again-rests (out.Resent id) octets step tt again

    by_slot : (x : Option Slot) → MatchOption x (Says (out.Refused refusal.Unknown) step) (λ slot. Resends id (slot_ike slot) step) → Rests step
    by_slot None says = says-rests step (out.Refused refusal.Unknown) tt says
    by_slot (Some slot) again = kept (kept_octets id slot.asked) again

-- what the peer accepts in a synchronisation uses no number but the IV
accepting-moves : (at : Event) (name : CounterName) (p2 m2 delta : ℕ) (unknown : List ℕ) (seals : List Seal) → uses_of at (out.SyncAccepted name p2 m2 delta unknown) seals ≡ []
accepting-moves (event.Crash member) name p2 m2 delta unknown seals = refl
accepting-moves at name p2 m2 delta unknown seals = refl

-- the peer gets an IKE message, by its associations
module _ (past : List Turn) (event : Event) (calls : List Call) (step : Step) (brings : Brings event parties.Peer) where
  module _ (test : Slot → Bool) (slot : Slot) (is_first : first_slot test (slots_by (window_by past) (own Peer past)) ≡ Some slot) (request : Opened)
      (new : IsNewRequest slot.answered.low (IsAnswered slot.answered) request.header.id) where
    abbrev taken : ℕ
    taken = request.header.id

    abbrev Answered : Type 0
    Answered = Answering (peer_counter slot.sa counter.Answer) taken (peer_counter slot.sa counter.Iv) slot.iv None step

    unsaid : (other : ℕ) (d : Counter) → said_in other d (peer_task event) step.verdict ≡ None
    unsaid other d = ap (λ t. said_in other d t step.verdict) brings.peer_receives ∙ said-receiving other d step.verdict

    unsaid_ours : (other : ℕ) (d : Counter) → said_in other d (member_task event) step.verdict ≡ None
    unsaid_ours other d = ap (λ t. said_in other d t step.verdict) brings.member_receives ∙ said-receiving other d step.verdict

    answered-not_ours : Answered → (other : ℕ) (d : Counter) → used other d event step ≡ None
    answered-not_ours a other counter.EspOut = unsaid_ours other counter.EspOut
    answered-not_ours a other counter.EspIn = unsaid_ours other counter.EspIn
    answered-not_ours a other counter.Iv = behind-elsewhere end.Cluster (peer_counter slot.sa counter.Iv) slot.iv None step refl refl a.seals other
    answered-not_ours a other counter.Ask = unsaid_ours other counter.Ask
    answered-not_ours a other counter.Answer = unsaid_ours other counter.Answer

    answered-told : Answered → (other : ℕ) (d : Counter) → number_theirs other d event step ≡ first_some (number_at (Ours other d) (Ours slot.sa.spir counter.Answer) taken) (number_at (Ours other d) (Ours slot.sa.spir counter.Iv) slot.iv)
    answered-told a other counter.EspOut = unsaid other counter.EspOut ∙ pair-none (slot.sa.spir == other) taken slot.iv
    answered-told a other counter.EspIn = brings.receives other step.verdict ∙ (a.none_received other ∙ pair-none (slot.sa.spir == other) taken slot.iv)
    answered-told a other counter.Iv = behind-here slot.sa end.Peer (peer_counter slot.sa counter.Iv) slot.iv None step refl refl refl a.seals other ∙ pair-second (slot.sa.spir == other) taken slot.iv
    answered-told a other counter.Ask = unsaid other counter.Ask ∙ pair-none (slot.sa.spir == other) taken slot.iv
    answered-told a other counter.Answer = brings.answers other step.verdict ∙ (a.taken other
        ∙ (ap (λ o. if is_of_spir other o then Some taken else None) slot.sa.origin_is_own ∙ pair-first (slot.sa.spir == other) taken slot.iv))

    slot_answers-deed : SlotAnswers slot request calls step → Deed past event calls step
    slot_answers-deed s = ⊎_elim
        (λ below. answered below (request-answering (peer_counter slot.sa counter.Answer) (slot_ike slot) slot.iv request None step tt (λ error is. refl) (s.within below)))
        (λ ended. Rested s.no_calls (says-rests step (out.Refused refusal.Exhausted) tt (s.ended ended)) (brings.no_entry step.verdict))
        (cases_lt slot.iv (end_of slot.sa counter.Iv))
      where
        -- no new request has the last Message ID
        within : taken < end_of slot.sa counter.Answer
        within = new.below_the_end

        answered : slot.iv < end_of slot.sa counter.Iv → Answered → Deed past event calls step
        answered below a = peer_pair-used past event step test slot is_first counter.Answer taken (λ same. absurd (cc)) (theirs-apart (peer_counter slot.sa counter.Answer) (peer_counter slot.sa counter.Iv) (λ same. absurd (cc))) (within, new) below
            (answering-pair event step (peer_counter slot.sa counter.Answer) (peer_counter slot.sa counter.Iv) (Theirs (peer_counter slot.sa counter.Answer)) (Theirs (peer_counter slot.sa counter.Iv)) taken slot.iv None refl refl a)
            (brings.performs step.verdict) (brings.no_entry step.verdict) (answered-not_ours a) (λ other. ap (request_at (Ours other counter.Answer)) a.is_taken) (answered-told a) calls s.no_calls

  -- the peer answers a request to synchronise, under its next IV
  module _ (test : Slot → Bool) (slot : Slot) (is_first : first_slot test (slots_by (window_by past) (own Peer past)) ≡ Some slot) (request : Opened) (asked : SyncRequest) where
    unsaid_there : (other : ℕ) (d : Counter) → said_in other d (peer_task event) step.verdict ≡ None
    unsaid_there other d = ap (λ t. said_in other d t step.verdict) brings.peer_receives ∙ said-receiving other d step.verdict

    unsaid_here : (other : ℕ) (d : Counter) → said_in other d (member_task event) step.verdict ≡ None
    unsaid_here other d = ap (λ t. said_in other d t step.verdict) brings.member_receives ∙ said-receiving other d step.verdict

    module _ (counters : Accepted) (does : AcceptsSync slot request asked counters step) (no_calls : calls ≡ []) (below : slot.iv < end_of slot.sa counter.Iv) where
      seals : SealsIke (peer_counter slot.sa counter.Iv) slot.iv step
      seals = sends-seals (slot_ike slot) slot.iv (response_header (peer_keys slot.sa) request.header) (response_of (response_ids asked counters)) step does.responds

      synced-not_ours : (other : ℕ) (d : Counter) → used other d event step ≡ None
      synced-not_ours other counter.Iv = sealed-elsewhere end.Cluster (peer_counter slot.sa counter.Iv) slot.iv step refl refl seals other
      synced-not_ours other counter.EspOut = unsaid_here other counter.EspOut
      synced-not_ours other counter.EspIn = unsaid_here other counter.EspIn
      synced-not_ours other counter.Ask = unsaid_here other counter.Ask
      synced-not_ours other counter.Answer = unsaid_here other counter.Answer

      synced-told : (other : ℕ) (d : Counter) → number_theirs other d event step ≡ number_at (Ours other d) (Ours slot.sa.spir counter.Iv) slot.iv
      synced-told other counter.EspOut = unsaid_there other counter.EspOut ∙ number-failed (slot.sa.spir == other) slot.iv
      synced-told other counter.EspIn = brings.receives other step.verdict ∙ (ap (accepted other) does.said ∙ number-failed (slot.sa.spir == other) slot.iv)
      synced-told other counter.Iv = sealed-here slot.sa end.Peer (peer_counter slot.sa counter.Iv) slot.iv step refl refl refl seals other ∙ number-passed (slot.sa.spir == other) slot.iv
      synced-told other counter.Ask = unsaid_there other counter.Ask ∙ number-failed (slot.sa.spir == other) slot.iv
      synced-told other counter.Answer = brings.answers other step.verdict ∙ (ap (taken_id other) does.said ∙ number-failed (slot.sa.spir == other) slot.iv)

      accepts-deed : Deed past event calls step
      accepts-deed = one-peer-used (record {
        test = test;
        slot = slot;
        c = counter.Iv;
        number = slot.iv;
        by_it = let run : is_refused_by_run step.verdict ≡ false = ap is_refused_by_run does.said in rw run (brings.performs step.verdict);
        is_first = is_first;
        is_open = (refl, below);
        no_calls = no_calls;
        spends = sealed-spends event step (peer_counter slot.sa counter.Iv) (Theirs (peer_counter slot.sa counter.Iv)) slot.iv seals refl does.served (ap taken_as does.said) (ap accepted_as does.said)
            (ap (λ v. uses_of event v step.seals) does.said ∙ accepting-moves event (peer_counter slot.sa counter.Answer) counters.p2 counters.m2 (rise_of DELTA_OCTETS asked) (message_ids_of slot.asked) step.seals);
        not_ours = synced-not_ours;
        told = synced-told;
        no_entry = brings.no_entry step.verdict;
      })

    says-deed : (verdict : Verdict) → IsIdle verdict → calls ≡ [] → Says verdict step → Deed past event calls step
    says-deed verdict idle no_calls says = Rested no_calls (says-rests step verdict idle says) (brings.no_entry step.verdict)

    answers-sync-deed : (answer : Result Accepted SyncDrop) → calls ≡ [] → AnswersSync slot request asked answer step → Deed past event calls step
    answers-sync-deed (Ok counters) no_calls may = ⊎_elim
        (λ below. accepts-deed counters (may.within below) no_calls below)
        (λ ended. says-deed (out.Refused refusal.Exhausted) tt no_calls (may.ended ended))
        (cases_lt slot.iv (end_of slot.sa counter.Iv))
    answers-sync-deed (Err (why.NotAbove highest)) no_calls says = says-deed (out.DroppedIke (drop.SyncOld highest)) tt no_calls says
    answers-sync-deed (Err why.Delta) no_calls says = says-deed (out.DroppedIke drop.Delta) tt no_calls says
    answers-sync-deed (Err why.NotSync) no_calls says = absurd says
    answers-sync-deed (Err why.Nonce) no_calls says = absurd says

  pub peer_message-deed : (octets : List ℕ) → TakesMessage (peer_listener (slots_by (window_by past) (own Peer past))) octets calls step → Deed past event calls step
  peer_message-deed octets takes = go (message-taken (peer_listener (slots_by (window_by past) (own Peer past))) calls step octets takes)
    where
      go : Taken (peer_listener (slots_by (window_by past) (own Peer past))) calls step → Deed past event calls step
      go (Rested_by none rests) = Rested none rests (brings.no_entry step.verdict)
      go (Synchronised_by slot request found does) = answers-sync-deed (has_spis request.header.spii request.header.spir) slot found request does.asked does.answer does.no_calls does.answers
      go (Sync_taken_by slot response found takes) = absurd takes
      go (Answered_by slot request found new answers) = slot_answers-deed (has_spis request.header.spii request.header.spir) slot found request new answers
