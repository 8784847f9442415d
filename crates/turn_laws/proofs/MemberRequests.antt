-- Each request that a member asks or answers is a deed.
use Rattle.std.proofs.Common.{◌≡◌, ◌≢◌, ℕ, ◌==◌, ◌&&◌, Bool, true, false, Option, Some, None, MatchBool, MatchOption, List, [], ◌∷◌, ◌⊎◌, ⊎_elim, refl, ap, sym, ◌∙◌, subst, arith, if◌then◌else◌, Result, Ok, Err}
use Rattle.events.specs.declared.event.Event.{Event}
use Rattle.events.specs.declared.event.Event.TheVariants as event
use Rattle.events.specs.declared.event.Party.TheVariants as parties
use Rattle.events.specs.declared.turn.Step.{Step}
use Rattle.events.specs.declared.turn.Turn.{Turn}
use Rattle.events.specs.declared.verdict.Refusal.{Refusal}
use Rattle.events.specs.declared.verdict.Refusal.TheVariants as refusal
use Rattle.events.specs.declared.verdict.Verdict.TheVariants as out
use Rattle.ha_base.specs.Octets.{WithRoom}
use Rattle.ha_base.specs.declared.counter_names.End.TheVariants as end
use Rattle.horizons.specs.Ready.{Ready}
use Rattle.horizons.specs.declared.stop.Stop.{Stop}
use Rattle.ike_window.specs.Kept.{kept_octets}
use Rattle.ike_window.specs.Requests.{IsNewRequest}
use Rattle.ike_window.specs.Windows.{IsAnswered}
use Rattle.keeper_book.specs.Counters.{five_at}
use Rattle.keeper_book.specs.declared.calls.Call.{Call}
use Rattle.keeper_book.specs.declared.counters.Counter.{Counter}
use Rattle.keeper_book.specs.declared.counters.Counter.TheVariants as counter
use Rattle.sk_payload.specs.declared.open.Opened.{Opened}
use Rattle.turn_laws.proofs.Arrivals.{Answered_by, Rested_by, Sync_taken_by, Synchronised_by, Taken, again-rests, message-taken}
use Rattle.turn_laws.proofs.Covers.{ready-as, ready-calls}
use Rattle.turn_laws.proofs.Deeds.{AreReady, AreTicketsTold, Deed, IsLotReady, IsOpen, Last, LotNeed, Need, Rested, Rests, Used, UsesIt, UsesOne, lots_of, says-rests, with_lot}
use Rattle.turn_laws.proofs.Members.{member-key, member-performs, own-held, own-numbers, told-lot}
use Rattle.turn_laws.proofs.TicketLots.{tells-ready}
use Rattle.turn_laws.proofs.Tickets.{HasLot, tells-calls}
use Rattle.turn_laws.proofs.Names.{number-failed, number-passed, place-ours}
use Rattle.turn_laws.proofs.Pairs.{Answering, IsForExecuted, IsOfFirstKey, SealsIke, UsesPair, answering-pair, asking-pair, behind-here, number_in, pair-first, pair-it, pair-none, pair-second, request-answering, sealed-here, sealed-spends, sends-seals, ticketed}
use Rattle.turn_laws.proofs.Receiving.{Brings}
use Rattle.turn_laws.proofs.Uses.{Spent, number_at, spent_of}
use Rattle.turn_laws.specs.Listed.{request_at}
use Rattle.turn_laws.specs.Places.{Ours}
use Rattle.turn_laws.proofs.Single.{second-uses, untaken-answered}
use Rattle.turn_rules.specs.Safe.{accepted_as, taken_as}
use Rattle.turn_laws.specs.Turns.{answered, number_taken, uses_of}
use Rattle.turn_rules.proofs.Refusals.{stop-own}
use Rattle.turn_rules.proofs.Ties.{said-receiving}
use Rattle.turn_rules.specs.Draws.{counter_name, reach_of, refusal_of_stop}
use Rattle.turn_rules.specs.Ends.{Member, is_refused_by_run, own, performer_of}
use Rattle.turn_rules.specs.Held.{Held, first_some, held_by, said_in, window_by}
use Rattle.turn_rules.specs.CountersOf.{is_of_spir}
use Rattle.turn_rules.specs.MemberMessages.{HeldAnswers, HeldAsks, HeldSendsRequest, HeldSyncs, HeldTakesSync, ReadiesThen, ReadiesWithIv, ResendsOf, SendsSync, TakesSyncAnswer, TakesSyncOf, awaits_sync, cluster_keys, held_ike, member_listener, of_spii, sync_id, sync_ids}
use Rattle.turn_rules.specs.Messages.{AnswersRequest, ExecutesRequest, GivesAgain, RefusesRequest, SendsRequest, TakesMessage, Windowed}
use Rattle.turn_rules.specs.Peers.{record_entered}
use Rattle.turn_rules.specs.States.{told_state}
use Rattle.turn_rules.specs.Steps.{RefusesThen, Says}
use Rattle.turn_rules.specs.Tasks as task
use Rattle.turn_rules.specs.Tasks.{member_task}
use Rattle.ike_sas.specs.Held.{request_header}
use Rattle.ike_sas.specs.declared.synchronising.TheConstants.{SYNC_DELTA}
use Rattle.sync_exchange.specs.Laws.{request_with}
use Rattle.sync_exchange.specs.declared.sync_drop.SyncDrop.{SyncDrop}
use Rattle.sync_exchange.specs.declared.sync_drop.SyncDrop.TheVariants as why
use Rattle.events.specs.declared.ike_outcomes.IkeDrop.TheVariants as drop
use Rattle.ike_sas.specs.Answers.{error_of, request_payloads}
use Rattle.ike_sas.specs.declared.answers.RequestError.{RequestError}
use Rattle.ike_sas.specs.declared.ticket_messages.TicketAnswer.{TicketAnswer}
use Rattle.ike_values.specs.Values.{PayloadValue}
use Rattle.ha_base.specs.declared.outside.Moment.{Moment}
use Rattle.turn_rules.specs.Configurations.{fresh_octets}
use Rattle.turn_rules.specs.MemberStates.{MemberHeld}
use Rattle.turn_rules.specs.MemberTickets.{TellsTicket}

-- A member uses a number of what it holds and its next IV, once both are ready, and what follows.
module _ (past : List Turn) (event : Event) (step : Step) (member : ℕ) (held : Held) (is_held : held_by (window_by past) (own (Member member) past) held.sa.spir ≡ Some held)
    (performs : performer_of event step.verdict ≡ Some (Member member)) (c : Counter) (n : ℕ) (is_open : IsOpen held c n) where
  abbrev iv : ℕ
  iv = five_at held.nexts counter.Iv

  abbrev Stopped : Stop → List Call → Type 0
  Stopped why rest = RefusesThen (refusal_of_stop why) rest step

  abbrev IsPair : Type 0
  IsPair = UsesPair (Ours held.sa.spir c) (Ours held.sa.spir counter.Iv) n iv None event step

  abbrev pub needed : List Spent
  needed = spent_of (Ours held.sa.spir c) n ∷ spent_of (Ours held.sa.spir counter.Iv) iv ∷ []

  abbrev iv_need : List (Need past member)
  iv_need = record { held = held; c = counter.Iv; number = iv; is_held = is_held; is_open = omega arith } ∷ []

  abbrev needs : List (Need past member)
  needs = record { held = held; c = c; number = n; is_held = is_held; is_open = is_open } ∷ iv_need

  module _ (goes : List Call → Type 0) (not_run : (rest : List Call) → goes rest → is_refused_by_run step.verdict ≡ false) where
    abbrev Sealing : ℕ → List Call → Type 0
    Sealing high rest = Ready (reach_of held counter.Iv) iv rest Stopped (λ high rest. goes rest)

    readies-not_run : (calls : List Call) → ReadiesThen held c n calls step goes → is_refused_by_run step.verdict ≡ false
    readies-not_run calls ready = ready-calls (λ calls. is_refused_by_run step.verdict ≡ false) (reach_of held c) n Stopped Sealing
        (λ call rest asked is. is)
        (λ why rest s. let said : _ = s.1.said in rw said (stop-own why))
        (λ high rest more. ready-calls (λ calls. is_refused_by_run step.verdict ≡ false) (reach_of held counter.Iv) iv Stopped (λ high rest. goes rest)
        (λ call rest asked is. is)
        (λ why rest s. let said : _ = s.1.said in rw said (stop-own why))
        (λ high rest so. not_run rest so)
        rest more)
        calls ready

    pub readies-used : (lot : Option LotNeed) → ((rest : List Call) → goes rest → IsLotReady lot (lots_of past member) rest (Rests step ⊎ UsesIt needed event step) (UsesIt (with_lot lot needed) event step))
        → (calls : List Call) → ReadiesThen held c n calls step goes → Deed past event calls step
    readies-used lot uses calls ready = Used (record {
      member = member;
      needs = needs;
      lot = lot;
      by_it = member-performs event step.verdict member performs (readies-not_run calls ready);
      ready = ready-as (reach_of held c) n Stopped (λ why rest. Last rest (Rests step)) Sealing (λ high rest. AreReady iv_need rest (Rests step) Goes)
          rests
          (λ high rest more. ready-as (reach_of held counter.Iv) iv Stopped (λ why rest. Last rest (Rests step)) (λ high rest. goes rest) (λ high rest. Goes rest)
          rests
          (λ high rest so. uses rest so)
          rest more)
          calls ready;
    })
      where
        Goes : List Call → Type 0
        Goes rest = IsLotReady lot (lots_of past member) rest (Rests step ⊎ UsesIt needed event step) (UsesIt (with_lot lot needed) event step)

        rests : (why : Stop) (rest : List Call) → Stopped why rest → Last rest (Rests step)
        rests why rest s = record { ended = s.0; is = says-rests step (out.Refused (refusal_of_stop why)) tt s.1 }

  -- both are used
  pub pair-used : (done : Type 0) → Ours held.sa.spir c ≢ Ours held.sa.spir counter.Iv → (done → IsPair)
      → (done → (other : ℕ) (d : Counter) → number_taken other d event step ≡ first_some (number_at (Ours other d) (Ours held.sa.spir c) n) (number_at (Ours other d) (Ours held.sa.spir counter.Iv) iv))
      → (done → (other : ℕ) → answered other event step.verdict ≡ request_at (Ours other counter.Answer) (taken_as step.verdict))
      → (calls : List Call) → ReadiesWithIv held c n calls step done → Deed past event calls step
  pair-used done apart pair told answers calls ready = readies-used (λ rest. (rest ≡ []) × done) (λ rest d. (pair d.1).not_run) None
      (λ rest d. record { ended = d.0; is = pair-it held.sa.spir c n iv None event step apart (pair d.1) (told d.1) (answers d.1) })
      calls ready

  -- the IV alone is used, though a number was ready before it
  pub second-used : (done : Type 0) → (done → is_refused_by_run step.verdict ≡ false) → (done → UsesOne held.sa.spir counter.Iv iv event step) → (calls : List Call) → ReadiesWithIv held c n calls step done → Deed past event calls step
  second-used done not_run uses calls ready = readies-used (λ rest. (rest ≡ []) × done) (λ rest d. not_run d.1) None
      (λ rest d. record { ended = d.0; is = second-uses held.sa.spir c iv n event step (uses d.1) })
      calls ready

first-only : (b : Bool) (n k : ℕ) → first_some (if b && true then Some n else None) (if b && false then Some k else None) ≡ (if b && true then Some n else None)
first-only true n k = refl
first-only false n k = refl

refused-then : (past : List Turn) (event : Event) (calls : List Call) (step : Step) (why : Refusal) → record_entered event step.verdict ≡ None → RefusesThen why calls step → Deed past event calls step
refused-then past event calls step why none r = Rested r.0 (says-rests step (out.Refused why) tt r.1) none

-- a member asks, by what it holds
module _ (past : List Turn) (step : Step) (member spir : ℕ) (octets : WithRoom) (held : Held) (own_spir : held.sa.spir ≡ spir)
    (is_held : held_by (window_by past) (own (Member member) past) held.sa.spir ≡ Some held) where
  abbrev asked : Event
  asked = event.Ask (parties.Member member) spir octets

  abbrev asked_payloads : List PayloadValue
  asked_payloads = request_payloads octets.octets

  abbrev id : ℕ
  id = five_at held.nexts counter.Ask

  abbrev its_iv : ℕ
  its_iv = five_at held.nexts counter.Iv

  abbrev Sent : Type 0
  Sent = SendsRequest (held_ike held) id its_iv asked_payloads step

  asked-told : Sent → (other : ℕ) (d : Counter) → number_taken other d asked step ≡ first_some (number_at (Ours other d) (Ours held.sa.spir counter.Ask) id) (number_at (Ours other d) (Ours held.sa.spir counter.Iv) its_iv)
  asked-told s other counter.EspOut = pair-none (held.sa.spir == other) id its_iv
  asked-told s other counter.EspIn = pair-none (held.sa.spir == other) id its_iv
  asked-told s other counter.Iv = sealed-here held.sa end.Cluster (counter_name held.sa counter.Iv) its_iv step refl refl refl (sends-seals (held_ike held) its_iv (request_header (held_ike held).keys id) asked_payloads step s.sends) other
      ∙ pair-second (held.sa.spir == other) id its_iv
  asked-told s other counter.Ask = ap (said_in other counter.Ask (task.Ask spir asked_payloads)) s.said
      ∙ (ap (λ k. if k == other then Some id else None) (sym own_spir) ∙ pair-first (held.sa.spir == other) id its_iv)
  asked-told s other counter.Answer = pair-none (held.sa.spir == other) id its_iv

  pub asks-deed : (calls : List Call) → HeldAsks held asked_payloads calls step → Deed past asked calls step
  asks-deed calls asks = by_synced held.synced asks
    where
      sends : HeldSendsRequest held asked_payloads calls step → Deed past asked calls step
      sends ready = pair-used past asked step member held is_held refl counter.Ask id (omega arith) Sent (λ same. absurd (cc))
          (λ s. asking-pair asked step (held_ike held) (Ours held.sa.spir counter.Ask) (Ours held.sa.spir counter.Iv) id its_iv asked_payloads (place-ours held.sa counter.Ask) (place-ours held.sa counter.Iv) s)
          asked-told
          (λ s other. untaken-answered other asked step.verdict (ap taken_as s.said) ∙ sym (ap (λ v. request_at (Ours other counter.Answer) (taken_as v)) s.said))
          calls ready

      windowed : Windowed (held_ike held) id (λ least. RefusesThen (refusal.WindowFull least) calls step) (HeldSendsRequest held asked_payloads calls step) → Deed past asked calls step
      windowed w = ⊎_elim (λ fits. sends fits.1) (λ full. refused-then past asked calls step (refusal.WindowFull full.0) refl full.3) w

      by_synced : (b : Bool) → MatchBool b (Windowed (held_ike held) id (λ least. RefusesThen (refusal.WindowFull least) calls step) (HeldSendsRequest held asked_payloads calls step)) (RefusesThen refusal.NotSynced calls step)
          → Deed past asked calls step
      by_synced true w = windowed w
      by_synced false r = refused-then past asked calls step refusal.NotSynced refl r

-- a member asks to synchronise, by what it holds
module _ (past : List Turn) (step : Step) (member spir : ℕ) (fresh : List ℕ) (held : Held) (is_held : held_by (window_by past) (own (Member member) past) held.sa.spir ≡ Some held) where
  abbrev syncs : Event
  syncs = event.Sync member spir

  abbrev its_next : ℕ
  its_next = five_at held.nexts counter.Iv

  abbrev Syncs : Type 0
  Syncs = SendsSync fresh held its_next step

  sync-seals : Syncs → SealsIke (counter_name held.sa counter.Iv) its_next step
  sync-seals s = sends-seals (held_ike held) its_next (request_header (cluster_keys held.sa) 0) (request_with (sync_ids fresh held) SYNC_DELTA) step s.sends

  syncs-told : Syncs → (other : ℕ) (d : Counter) → number_taken other d syncs step ≡ number_at (Ours other d) (Ours held.sa.spir counter.Iv) its_next
  syncs-told s other counter.EspOut = number-failed (held.sa.spir == other) its_next
  syncs-told s other counter.EspIn = number-failed (held.sa.spir == other) its_next
  syncs-told s other counter.Iv = sealed-here held.sa end.Cluster (counter_name held.sa counter.Iv) its_next step refl refl refl (sync-seals s) other ∙ number-passed (held.sa.spir == other) its_next
  syncs-told s other counter.Ask = number-failed (held.sa.spir == other) its_next
  syncs-told s other counter.Answer = number-failed (held.sa.spir == other) its_next

  syncs-one : Syncs → UsesOne held.sa.spir counter.Iv its_next syncs step
  syncs-one s = record {
    spends = sealed-spends syncs step (counter_name held.sa counter.Iv) (Ours held.sa.spir counter.Iv) its_next (sync-seals s) (place-ours held.sa counter.Iv) s.served (ap taken_as s.said) (ap accepted_as s.said)
        (ap (λ v. uses_of syncs v step.seals) s.said);
    told = syncs-told s;
  }

  pub syncs-deed : (calls : List Call) → HeldSyncs fresh held calls step → Deed past syncs calls step
  syncs-deed calls does = by_synced held.synced does
    where
      by_synced : (b : Bool) → MatchBool b (RefusesThen refusal.NoSync calls step) (ReadiesWithIv held counter.Ask (sync_id held) calls step Syncs) → Deed past syncs calls step
      by_synced true r = refused-then past syncs calls step refusal.NoSync refl r
      by_synced false ready = second-used past syncs step member held is_held refl counter.Ask (sync_id held) (omega arith) Syncs (λ s. ap is_refused_by_run s.said) syncs-one calls ready

-- what a member does with a response to a synchronisation uses no number
sync-taken-rests : (fresh : List ℕ) (held : Held) (response : Opened) (calls : List Call) (step : Step) → HeldTakesSync fresh held response calls step → (calls ≡ []) × Rests step
sync-taken-rests fresh held response calls step takes = (takes.0, go (awaits_sync held) takes.1)
  where
    answered-rests : (answer : Result (ℕ × ℕ) SyncDrop) → TakesSyncAnswer held answer step → Rests step
    answered-rests (Ok ids) says = says-rests step (out.Synced (counter_name held.sa counter.Answer) ids.0 ids.1) tt says
    answered-rests (Err why.Nonce) says = says-rests step (out.DroppedIke drop.Nonce) tt says
    answered-rests (Err why.NotSync) says = absurd says
    answered-rests (Err (why.NotAbove highest)) says = absurd says
    answered-rests (Err why.Delta) says = absurd says

    go : (o : Option ℕ) → MatchOption o (Says (out.DroppedIke drop.NotAsked) step) (λ m1. TakesSyncOf fresh held m1 response step) → Rests step
    go None says = says-rests step (out.DroppedIke drop.NotAsked) tt says
    go (Some m1) takes = answered-rests takes.answer takes.takes

-- and asks again
pub resends-deed : (past : List Turn) (step : Step) (member spir id : ℕ) (x : Option Held) (calls : List Call) → ResendsOf x id calls step → Deed past (event.Again (parties.Member member) spir id) calls step
resends-deed past step member spir id None calls r = refused-then past (event.Again (parties.Member member) spir id) calls step refusal.NotOwner refl r
resends-deed past step member spir id (Some held) calls r = Rested r.0 (go (kept_octets id held.asked) r.1) refl
  where
    go : (o : Option (List ℕ)) → MatchOption o (Says (out.Refused (refusal.NotOutstanding id)) step) (λ octets. GivesAgain (out.Resent id) octets step) → Rests step
    go None says = says-rests step (out.Refused (refusal.NotOutstanding id)) tt says
    go (Some octets) again = again-rests (out.Resent id) octets step tt again

-- a member gets an IKE message, by what it holds
module _ (boxes : ℕ) (past : List Turn) (own_spir : (member spir : ℕ) (held : Held) → held_by (window_by past) (own (Member member) past) spir ≡ Some held → held.sa.spir ≡ spir)
    (tickets : (member : ℕ) → AreTicketsTold past member) (event : Event) (calls : List Call) (step : Step) (member : ℕ) (brings : Brings event (parties.Member member)) where
  abbrev m : MemberHeld
  m = (told_state boxes past).members member

  within : HasLot m
  within = told-lot boxes past tickets member

  module _ (held : Held) (is_held : held_by (window_by past) (own (Member member) past) held.sa.spir ≡ Some held) (holds : (spir : ℕ) × (m.held spir ≡ Some held)) (now : Moment) (request : Opened)
      (new : IsNewRequest held.answered.low (IsAnswered held.answered) request.header.id) where
    abbrev taken : ℕ
    taken = request.header.id

    abbrev the_iv : ℕ
    the_iv = five_at held.nexts counter.Iv

    abbrev Answered : Option ℕ → Type 0
    Answered ticket = Answering (counter_name held.sa counter.Answer) taken (counter_name held.sa counter.Iv) the_iv ticket step

    unsaid : (other : ℕ) (d : Counter) → said_in other d (member_task event) step.verdict ≡ None
    unsaid other d = ap (λ t. said_in other d t step.verdict) brings.member_receives ∙ said-receiving other d step.verdict

    answered-told : (ticket : Option ℕ) → Answered ticket → (other : ℕ) (d : Counter) → number_taken other d event step ≡ first_some (number_at (Ours other d) (Ours held.sa.spir counter.Answer) taken) (number_at (Ours other d) (Ours held.sa.spir counter.Iv) the_iv)
    answered-told ticket a other counter.EspOut = unsaid other counter.EspOut ∙ pair-none (held.sa.spir == other) taken the_iv
    answered-told ticket a other counter.EspIn = brings.receives other step.verdict ∙ (a.none_received other ∙ pair-none (held.sa.spir == other) taken the_iv)
    answered-told ticket a other counter.Iv = behind-here held.sa end.Cluster (counter_name held.sa counter.Iv) the_iv ticket step refl refl refl a.seals other ∙ pair-second (held.sa.spir == other) taken the_iv
    answered-told ticket a other counter.Ask = unsaid other counter.Ask ∙ pair-none (held.sa.spir == other) taken the_iv
    answered-told ticket a other counter.Answer = brings.answers other step.verdict ∙ (a.taken other
        ∙ (ap (λ o. if is_of_spir other o then Some taken else None) held.sa.origin_is_own ∙ pair-first (held.sa.spir == other) taken the_iv))

    answered-taken : (ticket : Option ℕ) → Answered ticket → (other : ℕ) → answered other event step.verdict ≡ request_at (Ours other counter.Answer) (taken_as step.verdict)
    answered-taken ticket a other =
        answered-told ticket a other counter.Answer
        ∙ (first-only (held.sa.spir == other) taken the_iv
        ∙ (ap (λ p. number_at (Ours other counter.Answer) p taken) (sym (place-ours held.sa counter.Answer))
        ∙ sym (ap (request_at (Ours other counter.Answer)) a.is_taken)))

    answered-pair : (ticket : Option ℕ) → Answered ticket → UsesIt (ticketed ticket (spent_of (Ours held.sa.spir counter.Answer) taken ∷ spent_of (Ours held.sa.spir counter.Iv) the_iv ∷ [])) event step
    answered-pair ticket a = pair-it held.sa.spir counter.Answer taken the_iv ticket event step (λ same. absurd (cc))
        (answering-pair event step (counter_name held.sa counter.Answer) (counter_name held.sa counter.Iv) (Ours held.sa.spir counter.Answer) (Ours held.sa.spir counter.Iv) taken the_iv ticket
        (place-ours held.sa counter.Answer) (place-ours held.sa counter.Iv) a)
        (answered-told ticket a) (answered-taken ticket a)

    abbrev Answers : Option TicketAnswer → Type 0
    Answers ticket = AnswersRequest (counter_name held.sa counter.Answer) (held_ike held) the_iv request ticket step

    answering : (ticket : Option TicketAnswer) → IsOfFirstKey ticket → IsForExecuted request ticket → Answers ticket → Answered (number_in ticket)
    answering ticket first executed answers = request-answering (counter_name held.sa counter.Answer) (held_ike held) the_iv request ticket step first executed answers

    -- an answer is no refusal of the run
    answers-not_run : (ticket : Option TicketAnswer) → Answers ticket → is_refused_by_run step.verdict ≡ false
    answers-not_run ticket answers = go (error_of request) answers
      where
        go : (x : Option RequestError) → MatchOption x (ExecutesRequest (counter_name held.sa counter.Answer) (held_ike held) the_iv request ticket step) (λ error. RefusesRequest (counter_name held.sa counter.Answer) (held_ike held) the_iv request error step)
            → is_refused_by_run step.verdict ≡ false
        go None e = ap is_refused_by_run e.said
        go (Some error) r = ap is_refused_by_run r.said

    answers-deed : HeldAnswers m now held request calls step → Deed past event calls step
    answers-deed ready = readies-used past event step member held is_held (brings.performs step.verdict) counter.Answer taken new
        (λ rest. TellsTicket m now held.sa request rest step Answers)
        (λ rest tells. tells-calls m within now held.sa request step Answers (λ calls. is_refused_by_run step.verdict ≡ false)
        (λ says. ap is_refused_by_run says.said) answers-not_run (λ call lease is. is) rest tells)
        _
        (λ rest tells. tells-ready past member (tickets member) m (own-numbers boxes past member holds.0 held holds.1) (member-key boxes past member) now held.sa request event step
        (spent_of (Ours held.sa.spir counter.Answer) taken ∷ spent_of (Ours held.sa.spir counter.Iv) the_iv ∷ []) Answers
        (λ ticket first executed answers. answered-pair (number_in ticket) (answering ticket first executed answers))
        (λ ticket first executed answers. (answering ticket first executed answers).ticket_is)
        rest tells)
        calls ready

  -- what is held of an association under both SPIs is held under the responder's
  of-spii : (spii : ℕ) (x : Option Held) (held : Held) → of_spii spii x ≡ Some held → x ≡ Some held
  of-spii spii None held is = absurd (cc)
  of-spii spii (Some other) held is = by_test (other.sa.spii == spii) is
    where
      by_test : (b : Bool) → (if b then Some other else None) ≡ Some held → Some other ≡ Some held
      by_test true is = is
      by_test false is = absurd (cc)

  pub member_message-deed : (now : Moment) (octets : List ℕ) → TakesMessage (member_listener m now) octets calls step → Deed past event calls step
  member_message-deed now octets takes = go (message-taken (member_listener m now) calls step octets takes)
    where
      go : Taken (member_listener m now) calls step → Deed past event calls step
      go (Synchronised_by held request found does) = absurd does
      go (Sync_taken_by held response found takes) =
          let rests = sync-taken-rests (fresh_octets m.given) held response calls step takes in
          Rested rests.0 rests.1 (brings.no_entry step.verdict)
      go (Rested_by none rests) = Rested none rests (brings.no_entry step.verdict)
      go (Answered_by held request found new answers) =
          let spir : ℕ = request.header.spir in
          let holds : m.held spir ≡ Some held = of-spii request.header.spii (m.held spir) held found in
          let is_held : held_by (window_by past) (own (Member member) past) spir ≡ Some held = own-held boxes past member spir held holds in
          answers-deed held (subst (λ k. held_by (window_by past) (own (Member member) past) k ≡ Some held) (sym (own_spir member spir held is_held)) is_held) (spir, holds) now request new answers
