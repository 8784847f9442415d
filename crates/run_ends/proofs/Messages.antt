-- What the ends come to themselves with IKE messages: how it comes out, by how many calls, and how long what they send is.
use Rattle.std.proofs.Common.{◌≡◌, ℕ, suc, ◌≤◌, ◌⊎◌, ◌==◌, if◌then◌else◌, Bool, true, false, Option, Some, None, Result, Ok, Err, MatchOption, List, [], ◌∷◌, length, option_to_list, ⊎_elim, refl, ap, sym, ◌∙◌, subst, arith, ◌+◌, IfSome}
use Rattle.std.proofs.lemmas.Bool.{cases_lt}
use Rattle.std.specs.List.{AllByRecursion}
use Rattle.std.specs.Option.{option_map}
use Rattle.std.specs.Prelude.{MatchBool, nat_lt, ◌&&◌}
use Rattle.events.specs.declared.ike_outcomes.IkeDrop.{IkeDrop}
use Rattle.events.specs.declared.ike_outcomes.IkeDrop.TheVariants as drop
use Rattle.events.specs.declared.turn.Step.{Step}
use Rattle.events.specs.declared.verdict.Refusal.{Refusal}
use Rattle.events.specs.declared.verdict.Refusal.TheVariants as refusal
use Rattle.events.specs.declared.verdict.Verdict.{Verdict}
use Rattle.events.specs.declared.verdict.Verdict.TheVariants as out
use Rattle.ha_base.specs.declared.counter_names.CounterName.{CounterName}
use Rattle.ha_base.specs.declared.counter_names.End.{End}
use Rattle.ha_base.specs.declared.counter_names.End.TheVariants as end
use Rattle.ha_base.specs.declared.limits.TheConstants.{DATAGRAM_OCTETS}
use Rattle.horizons.specs.Reaches.{Reach, cover_of}
use Rattle.horizons.specs.Ready.{Answered, Covers, Ready}
use Rattle.horizons.specs.Stops.{stop_of}
use Rattle.horizons.specs.declared.stop.Stop.{Stop}
use Rattle.horizons.specs.declared.stop.Stop.TheVariants as stop
use Rattle.ike_sas.specs.Answers.{answer_payloads, error_of, notify_type_of}
use Rattle.ike_sas.specs.Arrivals.{IsArrival, IsArrivalAt, IsByWindow, IsGoodResponse, IsInWindow, IsOpenedArrival, IsOrdinaryRequest, IsRequestArrival, IsResponseArrival, IsSyncResponse, bad_in, is_own_flag, is_sealed, is_synchronisation}
use Rattle.ike_sas.specs.Held.{IkeHeld, is_initiator, response_header}
use Rattle.ike_sas.specs.declared.answers.RequestError.{RequestError}
use Rattle.ike_sas.specs.declared.arrival.Arrival.{Arrival}
use Rattle.ike_sas.specs.declared.arrival.Arrival.TheVariants as arrival
use Rattle.ike_sas.specs.declared.exchanges.TheConstants.{IKE_SESSION_RESUME}
use Rattle.ike_values.specs.Values.{PayloadValue}
use Rattle.ike_values.specs.declared.fault.Bad.{Bad}
use Rattle.ike_values.specs.declared.header.Message.{Message}
use Rattle.ike_window.specs.Kept.{kept_octets, message_ids_of}
use Rattle.ike_window.specs.declared.judged.Judged.{Judged}
use Rattle.ike_window.specs.declared.judged.Judged.TheVariants as judged
use Rattle.keeper_book.specs.CounterEnds.{end_of}
use Rattle.keeper_book.specs.Counters.{five_at}
use Rattle.keeper_book.specs.Told.{seen}
use Rattle.keeper_book.specs.declared.calls.Call.{Call}
use Rattle.keeper_book.specs.declared.calls.KeeperAnswer.{KeeperAnswer}
use Rattle.keeper_book.specs.declared.calls.KeeperAnswer.TheVariants as answer
use Rattle.keeper_book.specs.declared.counters.Counter.{Counter}
use Rattle.keeper_book.specs.declared.counters.Counter.TheVariants as counter
use Rattle.sk_payload.specs.declared.open.Opened.{Opened}
use Rattle.sync_exchange.specs.Counters.{rise_of}
use Rattle.sync_exchange.specs.Laws.{response_ids, response_of}
use Rattle.sync_exchange.specs.declared.peer.Accepted.{Accepted}
use Rattle.sync_exchange.specs.declared.replay_counter.TheConstants.{DELTA_OCTETS}
use Rattle.sync_exchange.specs.declared.sync_drop.SyncDrop.{SyncDrop}
use Rattle.sync_exchange.specs.declared.sync_drop.SyncDrop.TheVariants as why
use Rattle.turn_rules.proofs.Refusals.{stop-own}
use Rattle.turn_rules.specs.Datagrams.{plain_datagram}
use Rattle.turn_rules.specs.Draws.{counter_name, reach_of, refusal_of_stop}
use Rattle.turn_rules.specs.Ends.{is_of_run}
use Rattle.turn_rules.specs.Held.{Held}
use Rattle.turn_rules.specs.MemberMessages.{HeldAnswers, HeldTakesSync, ReadiesWithIv, TakesSyncAnswer, TakesSyncOf, awaits_sync, held_ike, member_listener, of_spii, ReadiesThen}
use Rattle.turn_rules.specs.Messages.{AnswersRequest, DropsMessage, ExecutesRequest, GivesAgain, Listener, RefusesRequest, TakesArrival, TakesInner, TakesMessage, held_for, mark_of, with_ticket}
use Rattle.turn_rules.specs.PeerMessages.{AcceptsSync, AnswersSync, SlotAnswers, SlotSynchronises, has_spis, peer_keys, peer_listener, slot_ike}
use Rattle.turn_rules.specs.Slots.{Slot, first_slot, peer_counter}
use Rattle.turn_rules.specs.Steps.{Says, RefusesThen}
use Rattle.turn_rules.proofs.KeySizes.{sized_sk_ei, sized_sk_er}
use Rattle.run_ends.proofs.MessageBounds.{IsBrief, answer-few, sends_message-brief, synced-few, answered-few}
use Rattle.run_ends.proofs.ShortKept.{AreShort, HeldKeepsShort, KeepsShort, SlotsKeepShort, kept-short}
use Rattle.run_ends.proofs.Verdicts.{IsProper, none-few, of-refusal, of-verdict, quiet-proper}
use Rattle.run_ends.specs.Parties.{IsShort}
use Rattle.run_ends.specs.Acting.{IsOfEnd}
use Rattle.ike_sas.specs.declared.ticket_messages.TicketAnswer.{TicketAnswer}
use Rattle.ike_sas.specs.declared.ticket_messages.TicketAnswer.TheVariants.{Issued, Declined}
use Rattle.ike_sas.specs.TicketMessages.{IsShortTicket, is_ticket_due}
use Rattle.turn_rules.specs.MemberStates.{MemberHeld}
use Rattle.ha_base.specs.declared.outside.Moment.{Moment}
use Rattle.aes_gcm.specs.NamedKey.{NamedKey}
use Rattle.turn_rules.specs.Configurations.{Configuration, fresh_octets}
use Rattle.keeper_book.specs.declared.records.Record.{Record}
use Rattle.keeper_book.specs.declared.faults.KeeperFault.{KeeperFault}
use Rattle.spend_once.specs.Lot.{Remaining}
use Rattle.pool_lots.specs.Lots.{Leases, Leased, drawn_once, leased_lot}
use Rattle.turn_rules.specs.MemberTickets.{Tells, TellsWithout, TellsIssued, TellsTicket, IssuesTicket, config_of}
use Rattle.keeper_book.specs.declared.faults.KeeperFault.TheVariants as fault
use Rattle.keeper_book.specs.declared.pools.Pool.TheVariants as pool

-- a step that an end comes to itself, be it with its service or not
pub record IsAnswered (calls : List Call) (step : Step) : Type 0 where
  pub few : length calls ≤ 3
  pub said : IsOfEnd step.verdict
  pub brief : IsBrief step

pub says-proper : (calls : List Call) (step : Step) (why : Refusal) → is_of_run why ≡ false → length calls ≤ 3 → Says (out.Refused why) step → IsProper calls step
says-proper calls step why own few says = quiet-proper calls step few (of-refusal step.verdict why own says.said) says.quiet

-- ---- numbers that are made ready, one after the other

module _ {P : Type 0} (S : Stop → List Call → Type 0) (G : ℕ → List Call → Type 0) (h : Reach) (at : ℕ) where
  answered-fold : (call : Call) (rest : List Call) (answered : KeeperAnswer) → ((why : Stop) → S why rest → P) → (G (cover_of h at) rest → P) → Answered answered (λ why. S why rest) (G (cover_of h at) rest) → P
  answered-fold call rest answer.Done stops goes a = goes a
  answered-fold call rest (answer.Taken taken) stops goes a = absurd a
  answered-fold call rest (answer.First first) stops goes a = absurd a
  answered-fold call rest (answer.Look spent) stops goes a = absurd a
  answered-fold call rest (answer.Refused fault) stops goes a = go (stop_of fault) a
    where
      go : (x : Option Stop) → MatchOption x ⊥ (λ why. S why rest) → P
      go None a = absurd a
      go (Some why) a = stops why a

  covers-fold : (calls : List Call) → ((why : Stop) (rest : List Call) → length calls ≤ suc (length rest) → S why rest → P) → ((high : ℕ) (rest : List Call) → length calls ≤ suc (length rest) → G high rest → P) → Covers h at calls S G → P
  covers-fold [] stops goes c = absurd c
  covers-fold (call ∷ rest) stops goes c = answered-fold call rest (seen call) (λ why. stops why rest (omega arith)) (goes (cover_of h at) rest (omega arith)) c.1

  -- one call at most is made for a number
  ready-fold : (calls : List Call) → ((why : Stop) (rest : List Call) → length calls ≤ suc (length rest) → S why rest → P) → ((high : ℕ) (rest : List Call) → length calls ≤ suc (length rest) → G high rest → P) → Ready h at calls S G → P
  ready-fold calls stops goes r = ⊎_elim
      (λ within. goes h.high calls (omega arith) (r.within within))
      (λ low. ⊎_elim
      (λ below. covers-fold calls stops goes (r.asked low below))
      (λ ended. stops stop.Exhausted calls (omega arith) (r.ended low ended))
      (cases_lt at h.end))
      (cases_lt at h.high)

-- and so two for two numbers
readies-then : {P : Type 0} (held : Held) (c : Counter) (at : ℕ) (calls : List Call) (step : Step) (goes_on : List Call → Type 0) → ((why : Stop) → length calls ≤ 3 → Says (out.Refused (refusal_of_stop why)) step → P) → ((rest : List Call) → length calls ≤ 2 + length rest → goes_on rest → P) → ReadiesThen held c at calls step goes_on → P
readies-then {P} held c at calls step goes_on stops goes r = ready-fold stopped (λ high rest. Ready (reach_of held counter.Iv) (five_at held.nexts counter.Iv) rest stopped finished) (reach_of held c) at calls
    (λ why rest one refuses. stops why (omega (arith, one, ap length refuses.0)) refuses.1)
    (λ high rest one more. ready-fold stopped finished (reach_of held counter.Iv) (five_at held.nexts counter.Iv) rest
    (λ why last two refuses. stops why (omega (arith, one, two, ap length refuses.0)) refuses.1)
    (λ high last two it. goes last (omega (arith, one, two)) it)
    more)
    r
  where
    stopped : Stop → List Call → Type 0
    stopped why rest = RefusesThen (refusal_of_stop why) rest step

    finished : ℕ → List Call → Type 0
    finished high rest = goes_on rest

pub readies-fold : {P : Type 0} (held : Held) (c : Counter) (at : ℕ) (calls : List Call) (step : Step) (done : Type 0) → ((why : Stop) → length calls ≤ 3 → Says (out.Refused (refusal_of_stop why)) step → P) → (length calls ≤ 3 → done → P) → ReadiesWithIv held c at calls step done → P
readies-fold held c at calls step done stops goes r = readies-then held c at calls step (λ rest. (rest ≡ []) × done) stops (λ rest few it. goes (omega (arith, few, ap length it.0)) it.1) r

-- one call at most is made for the number of a ticket, which is short
module _ {P : Type 0} (calls : List Call) (step : Step) (done : Option TicketAnswer → Type 0) (stops : (why : Refusal) → is_of_run why ≡ false → length calls ≤ 1 → Says (out.Refused why) step → P) (goes : (ticket : Option TicketAnswer) → length calls ≤ 1 → IfSome ticket IsShortTicket → done ticket → P) where
  told : (ticket : Option TicketAnswer) → IfSome ticket IsShortTicket → Tells ticket calls done → P
  told ticket short t = goes ticket (omega (arith, ap length t.0)) short t.1

  without : (why : KeeperFault) (rest : List Call) → length calls ≤ suc (length rest) → TellsWithout why rest step done → P
  without (fault.Full limit) rest few t = goes (Some Declined) (omega (arith, few, ap length t.0)) tt t.1
  without fault.Failed rest few t = stops refusal.KeeperFault refl (omega (arith, few, ap length t.0)) t.1
  without other rest few t = absurd t

  issued : (key : NamedKey) (config : Configuration) (now : Moment) (sa : Record) (number : ℕ) (rest : List Call) → length calls ≤ suc (length rest) → IssuesTicket key config now sa number rest done → P
  issued key config now sa number rest few t = goes (Some (Issued config.lifetime t.seal)) (omega (arith, few, ap length t.no_more)) t.sealed.short t.does

  module _ (member : MemberHeld) (now : Moment) (sa : Record) (key : NamedKey) where
    abbrev stopped : KeeperFault → List Call → Type 0
    stopped why rest = TellsWithout why rest step done

    abbrev given : ℕ → Remaining → List Call → Type 0
    given number lot rest = IssuesTicket key (config_of member.given) now sa number rest done

    leased : (lot : Remaining) (call : Call) (rest : List Call) → calls ≡ call ∷ rest → (answered : KeeperAnswer) → Leased answered (λ why. stopped why rest) (λ first. given first (drawn_once (leased_lot lot first)) rest) → P
    leased lot call rest is (answer.First first) l = issued key (config_of member.given) now sa first rest (omega (arith, ap length is)) l
    leased lot call rest is (answer.Refused why) l = without why rest (omega (arith, ap length is)) l
    leased lot call rest is answer.Done l = absurd l
    leased lot call rest is (answer.Taken taken) l = absurd l
    leased lot call rest is (answer.Look spent) l = absurd l

    leases : (lot : Remaining) (cs : List Call) → calls ≡ cs → Leases pool.Ticket lot cs stopped given → P
    leases lot [] is l = absurd l
    leases lot (call ∷ rest) is l = leased lot call rest is (seen call) l.1

    tells-issued : TellsIssued member now sa key calls step done → P
    tells-issued r = ⊎_elim
        (λ left. issued key (config_of member.given) now sa member.numbers.next calls (omega arith) (r.left left))
        (λ none. leases member.numbers calls refl (r.none_left none))
        (cases_lt member.numbers.next member.numbers.end)

  pub tells-fold : (member : MemberHeld) (now : Moment) (sa : Record) (request : Opened) → TellsTicket member now sa request calls step done → P
  tells-fold member now sa request t = by_due (is_ticket_due request) t
    where
      by_key : (x : Option NamedKey) → MatchOption x (Tells (Some Declined) calls done) (λ key. TellsIssued member now sa key calls step done) → P
      by_key None t = told (Some Declined) tt t
      by_key (Some key) t = tells-issued member now sa key t

      by_due : (b : Bool) → MatchBool b (MatchOption (config_of member.given).ticket_key (Tells (Some Declined) calls done) (λ key. TellsIssued member now sa key calls step done)) (Tells None calls done) → P
      by_due true t = by_key (config_of member.given).ticket_key t
      by_due false t = told None tt t

-- ---- new requests

module _ (name : CounterName) (held : IkeHeld) (sized : (length held.keys.sending.octets ≡ 20) ⊎ (length held.keys.sending.octets ≡ 36)) (iv : ℕ) (request : Opened) (ticket : Option TicketAnswer) (short : IfSome ticket IsShortTicket) (calls : List Call) (step : Step) (few : length calls ≤ 3) where
  answers-answered : AnswersRequest name held iv request ticket step → IsAnswered calls step
  answers-answered a = go (error_of request) a
    where
      go : (x : Option RequestError) → MatchOption x (ExecutesRequest name held iv request ticket step) (λ why. RefusesRequest name held iv request why step) → IsAnswered calls step
      go None e = record {
        few = few;
        said = of-verdict step.verdict (out.Executed name request.header.id (mark_of ticket)) (record { no_join = refl; heard = refl }) e.said;
        brief = sends_message-brief held iv (response_header held.keys request.header) (with_ticket (answer_payloads request e.executed.reply.octets) ticket) step sized (answered-few request e.executed.reply.octets ticket e.short short) e.responds;
      }
      go (Some why) e = record {
        few = few;
        said = of-verdict step.verdict (out.Refusing name request.header.id (notify_type_of why)) (record { no_join = refl; heard = refl }) e.said;
        brief = sends_message-brief held iv (response_header held.keys request.header) (answer_payloads request []) step sized (omega (arith, answer-few request [] (omega arith))) e.responds;
      }

proper-answered : (calls : List Call) (step : Step) → IsProper calls step → IsAnswered calls step
proper-answered calls step p = record { few = p.few; said = p.said; brief = p.brief }

slot-answered : (slot : Slot) (request : Opened) (calls : List Call) (step : Step) → SlotAnswers slot request calls step → IsAnswered calls step
slot-answered slot request calls step a = ⊎_elim
    (λ below. answers-answered (peer_counter slot.sa counter.Answer) (slot_ike slot) (sized_sk_ei slot.sa.size slot.sa.keys slot.sa.child slot.sa.key_lengths) slot.iv request None tt calls step (none-few calls a.no_calls) (a.within below))
    (λ above. proper-answered calls step (says-proper calls step refusal.Exhausted refl (none-few calls a.no_calls) (a.ended above)))
    (cases_lt slot.iv (end_of slot.sa counter.Iv))

held-answered : (member : MemberHeld) (now : Moment) (held : Held) (request : Opened) (calls : List Call) (step : Step) → HeldAnswers member now held request calls step → IsAnswered calls step
held-answered member now held request calls step a = readies-then held counter.Answer request.header.id calls step (λ rest. TellsTicket member now held.sa request rest step answers)
    (λ why few says. proper-answered calls step (says-proper calls step (refusal_of_stop why) (stop-own why) few says))
    (λ rest few told. tells-fold rest step answers
    (λ why own one says. proper-answered calls step (says-proper calls step why own (omega (arith, few, one)) says))
    (λ ticket one short. answers-answered (counter_name held.sa counter.Answer) (held_ike held) (sized_sk_er held.sa.size held.sa.keys held.sa.child held.sa.key_lengths) (five_at held.nexts counter.Iv) request ticket short calls step (omega (arith, few, one)))
    member now held.sa request told)
    a
  where
    answers : Option TicketAnswer → Type 0
    answers ticket = AnswersRequest (counter_name held.sa counter.Answer) (held_ike held) (five_at held.nexts counter.Iv) request ticket step

-- ---- synchronisations

-- what the peer does with a request to synchronise
slot-synchronised : (slot : Slot) (request : Opened) (calls : List Call) (step : Step) → SlotSynchronises slot request calls step → IsAnswered calls step
slot-synchronised slot request calls step does = by_answer does.answer does.answers
  where
    few : length calls ≤ 3
    few = none-few calls does.no_calls

    dropped-answered : (why : IkeDrop) → Says (out.DroppedIke why) step → IsAnswered calls step
    dropped-answered why says = proper-answered calls step (quiet-proper calls step few (of-verdict step.verdict (out.DroppedIke why) (record { no_join = refl; heard = refl }) says.said) says.quiet)

    accepts : (accepted : Accepted) → AcceptsSync slot request does.asked accepted step → IsAnswered calls step
    accepts accepted a = record {
      few = few;
      said = of-verdict step.verdict (out.SyncAccepted (peer_counter slot.sa counter.Answer) accepted.p2 accepted.m2 (rise_of DELTA_OCTETS does.asked) (message_ids_of slot.asked)) (record { no_join = refl; heard = refl }) a.said;
      brief = sends_message-brief (slot_ike slot) slot.iv (response_header (peer_keys slot.sa) request.header) (response_of (response_ids does.asked accepted)) step
          (sized_sk_ei slot.sa.size slot.sa.keys slot.sa.child slot.sa.key_lengths) (omega (arith, synced-few (response_ids does.asked accepted))) a.responds;
    }

    by_answer : (answer : Result Accepted SyncDrop) → AnswersSync slot request does.asked answer step → IsAnswered calls step
    by_answer (Ok accepted) may = ⊎_elim
        (λ below. accepts accepted (may.within below))
        (λ above. proper-answered calls step (says-proper calls step refusal.Exhausted refl few (may.ended above)))
        (cases_lt slot.iv (end_of slot.sa counter.Iv))
    by_answer (Err (why.NotAbove highest)) says = dropped-answered (drop.SyncOld highest) says
    by_answer (Err why.Delta) says = dropped-answered drop.Delta says
    by_answer (Err why.NotSync) says = absurd says
    by_answer (Err why.Nonce) says = absurd says

-- and a member with the response to one
held-took : (fresh : List ℕ) (held : Held) (response : Opened) (calls : List Call) (step : Step) → HeldTakesSync fresh held response calls step → IsAnswered calls step
held-took fresh held response calls step takes = by_attempt (awaits_sync held) takes.1
  where
    says-answered : (verdict : Verdict) → IsOfEnd verdict → Says verdict step → IsAnswered calls step
    says-answered verdict own says = proper-answered calls step (quiet-proper calls step (none-few calls takes.0) (of-verdict step.verdict verdict own says.said) says.quiet)

    by_answer : (answer : Result (ℕ × ℕ) SyncDrop) → TakesSyncAnswer held answer step → IsAnswered calls step
    by_answer (Ok ids) says = says-answered (out.Synced (counter_name held.sa counter.Answer) ids.0 ids.1) (record { no_join = refl; heard = refl }) says
    by_answer (Err why.Nonce) says = says-answered (out.DroppedIke drop.Nonce) (record { no_join = refl; heard = refl }) says
    by_answer (Err why.NotSync) says = absurd says
    by_answer (Err (why.NotAbove highest)) says = absurd says
    by_answer (Err why.Delta) says = absurd says

    by_attempt : (x : Option ℕ) → MatchOption x (Says (out.DroppedIke drop.NotAsked) step) (λ m1. TakesSyncOf fresh held m1 response step) → IsAnswered calls step
    by_attempt None says = says-answered (out.DroppedIke drop.NotAsked) (record { no_join = refl; heard = refl }) says
    by_attempt (Some m1) it = by_answer it.answer it.takes

-- ---- responses that are kept

pub record IsKept (held_under : ℕ → ℕ → Option IkeHeld) (octets : List ℕ) : Type 0 where
  pub held : IkeHeld
  pub spii : ℕ
  pub spir : ℕ
  pub id : ℕ
  pub there : held_under spii spir ≡ Some held
  pub here : kept_octets id held.answered.responses ≡ Some octets

abbrev repeated : Arrival → List ℕ
repeated (arrival.Repeat id datagram) = datagram.octets.octets
repeated comes = []

-- a request that is repeated has its response kept
module _ (held : IkeHeld) (opened : Opened) (comes : Arrival) (octets : List ℕ) (again : repeated comes ≡ octets) (some : (why : IkeDrop) → comes ≡ arrival.Dropped why → ⊥) (old : comes ≡ arrival.New opened → ⊥) where
  ordinary-kept : IsOrdinaryRequest held opened comes → kept_octets opened.header.id held.answered.responses ≡ Some octets
  ordinary-kept o = by_floor (nat_lt opened.header.id held.answered.floor) o
    where
      by_window : (says : Judged) → IsByWindow says held opened comes → kept_octets opened.header.id held.answered.responses ≡ Some octets
      by_window judged.New e = absurd (old e)
      by_window judged.Repeat r = r.3 ∙ ap Some (sym (ap repeated r.1) ∙ again)
      by_window judged.Ahead e = absurd (some _ e)
      by_window judged.Old e = absurd (some _ e)

      by_synced : (b : Bool) → MatchBool b (IsInWindow held opened comes) (comes ≡ arrival.Dropped (drop.NotSynced opened.header.id)) → kept_octets opened.header.id held.answered.responses ≡ Some octets
      by_synced true w = by_window w.0 w.2
      by_synced false e = absurd (some _ e)

      by_floor : (b : Bool) → MatchBool b (comes ≡ arrival.Dropped (drop.Old opened.header.id)) (MatchBool held.synced (IsInWindow held opened comes) (comes ≡ arrival.Dropped (drop.NotSynced opened.header.id)))
          → kept_octets opened.header.id held.answered.responses ≡ Some octets
      by_floor true e = absurd (some _ e)
      by_floor false m = by_synced held.synced m

module _ (held_under : ℕ → ℕ → Option IkeHeld) (reader : End) (came : List ℕ) (comes : Arrival) (octets : List ℕ) (again : repeated comes ≡ octets) (some : (why : IkeDrop) → comes ≡ arrival.Dropped why → ⊥) (old : (opened : Opened) → comes ≡ arrival.New opened → ⊥)
    (asked : (opened : Opened) → comes ≡ arrival.Response opened → ⊥) (alone : (message : Message) → comes ≡ arrival.Resumption message → ⊥) (unsynced : (opened : Opened) → comes ≡ arrival.SyncResponse opened → ⊥) (syncs : (opened : Opened) → comes ≡ arrival.Synchronisation opened → ⊥) where
  no_sync : (side : End) (opened : Opened) → IsSyncResponse side opened comes → IsKept held_under octets
  no_sync end.Cluster opened e = absurd (unsynced opened e)
  no_sync end.Peer opened e = absurd (some _ e)

  no_response : (held : IkeHeld) (opened : Opened) → IsResponseArrival held opened comes → IsKept held_under octets
  no_response held opened r = by_bad (bad_in opened.inner) r
    where
      by_kept : (x : Option (List ℕ)) → MatchOption x (comes ≡ arrival.Dropped drop.NotAsked) (λ _. comes ≡ arrival.Response opened) → IsKept held_under octets
      by_kept None e = absurd (some _ e)
      by_kept (Some kept) e = absurd (asked opened e)

      by_sync : (b : Bool) → MatchBool b (IsSyncResponse held.keys.end opened comes) (MatchOption (kept_octets opened.header.id held.asked) (comes ≡ arrival.Dropped drop.NotAsked) (λ _. comes ≡ arrival.Response opened)) → IsKept held_under octets
      by_sync true e = no_sync held.keys.end opened e
      by_sync false m = by_kept (kept_octets opened.header.id held.asked) m

      by_bad : (x : Option Bad) → MatchOption x (IsGoodResponse held opened comes) (λ bad. comes ≡ arrival.Dropped (drop.Bad bad)) → IsKept held_under octets
      by_bad None g = by_sync (is_synchronisation opened) g
      by_bad (Some bad) e = absurd (some _ e)

  at-kept : (held : IkeHeld) (message : Message) → held_under message.header.spii message.header.spir ≡ Some held → IsArrivalAt held came message comes → IsKept held_under octets
  at-kept held message there a = ⊎_elim (λ unopened. absurd (some _ unopened.1)) (λ it. by_kind it.0 it.3) a
    where
      by_request : (opened : Opened) (b : Bool) → MatchBool b (comes ≡ arrival.Synchronisation opened) (IsOrdinaryRequest held opened comes) → IsKept held_under octets
      by_request opened true e = absurd (syncs opened e)
      by_request opened false o = record {
        held = held;
        spii = message.header.spii;
        spir = message.header.spir;
        id = opened.header.id;
        there = there;
        here = ordinary-kept held opened comes octets again some (old opened) o;
      }

      by_kind : (opened : Opened) → IsOpenedArrival held opened comes → IsKept held_under octets
      by_kind opened m = by_flag opened.header.response m
        where
          by_flag : (b : Bool) → MatchBool b (IsResponseArrival held opened comes) (IsRequestArrival held opened comes) → IsKept held_under octets
          by_flag true r = no_response held opened r
          by_flag false r = by_request opened (is_initiator held.keys.end && is_synchronisation opened) r

  module _ (message : Message) where
    abbrev AtHeld : Option IkeHeld → Type 0
    AtHeld x = MatchOption x (comes ≡ arrival.Dropped drop.UnknownSpi) (λ held. IsArrivalAt held came message comes)

    by_held : (x : Option IkeHeld) → held_under message.header.spii message.header.spir ≡ x → AtHeld x → IsKept held_under octets
    by_held None there e = absurd (some _ e)
    by_held (Some held) there a = at-kept held message there a

    abbrev IsSealedSo : Bool → Type 0
    IsSealedSo b = MatchBool b (AtHeld (held_under message.header.spii message.header.spir)) (comes ≡ arrival.Dropped (drop.Exchange message.header.exchange))

    by_sealed : (b : Bool) → IsSealedSo b → IsKept held_under octets
    by_sealed true m = by_held (held_under message.header.spii message.header.spir) refl m
    by_sealed false e = absurd (some _ e)

    by_resume : (b : Bool) → MatchBool b (comes ≡ arrival.Resumption message) (IsSealedSo (is_sealed message)) → IsKept held_under octets
    by_resume true e = absurd (alone message e)
    by_resume false m = by_sealed (is_sealed message) m

    by_own : (b : Bool) → MatchBool b (comes ≡ arrival.Dropped drop.Direction) (MatchBool (message.header.exchange == IKE_SESSION_RESUME) (comes ≡ arrival.Resumption message) (IsSealedSo (is_sealed message))) → IsKept held_under octets
    by_own true e = absurd (some _ e)
    by_own false m = by_resume (message.header.exchange == IKE_SESSION_RESUME) m

  message-kept : IsArrival held_under reader came comes → IsKept held_under octets
  message-kept a = ⊎_elim (λ bad. absurd (some _ bad.2)) (λ it. by_own it.0 (is_own_flag reader it.0.header.initiator) it.2) a

-- ---- what comes

-- a message is dropped or a response to a request of one's own, or what is kept is given again, or a new request is answered, or both ends synchronise
module _ {X P : Type 0} (listener : Listener X) (octets : List ℕ) (calls : List Call) (step : Step) (quiet : (verdict : Verdict) → IsOfEnd verdict → calls ≡ [] → Says verdict step → P)
    (repeats : (id : ℕ) (again : List ℕ) → IsKept (λ spii spir. option_map listener.ike (listener.held_under spii spir)) again → calls ≡ [] → GivesAgain (out.Repeated id) again step → P) (answers : (x : X) (request : Opened) → listener.Answers x request calls step → P)
    (synchronises : (x : X) (request : Opened) → listener.Synchronises x request calls step → P) (takes : (x : X) (response : Opened) → listener.TakesSync x response calls step → P) where
  abbrev ike_under : ℕ → ℕ → Option IkeHeld
  ike_under spii spir = option_map listener.ike (listener.held_under spii spir)

  dropped : (why : IkeDrop) → DropsMessage why calls step → P
  dropped why d = quiet (out.DroppedIke why) (record { no_join = refl; heard = refl }) d.0 d.1

  answered : (request : Opened) (x : Option X) → MatchOption x ⊥ (λ held. listener.Answers held request calls step) → P
  answered request None a = absurd a
  answered request (Some held) a = answers held request a

  replied : (name : CounterName) (id : ℕ) (inner : Result (List PayloadValue) Bad) → calls ≡ [] → TakesInner listener.Keeps name id inner step → P
  replied name id (Ok payloads) none t = quiet (out.Reply name id t.2.reply t.0 _) (record { no_join = refl; heard = refl }) none t.2.says
  replied name id (Err bad) none t = absurd t

  responded : (response : Opened) (x : Option X) → calls ≡ [] → MatchOption x ⊥ (λ held. TakesInner listener.Keeps (listener.asks held) response.header.id response.inner step) → P
  responded response None none t = absurd t
  responded response (Some held) none t = replied (listener.asks held) response.header.id response.inner none t

  synchronised : (request : Opened) (x : Option X) → MatchOption x ⊥ (λ held. listener.Synchronises held request calls step) → P
  synchronised request None t = absurd t
  synchronised request (Some held) t = synchronises held request t

  took : (response : Opened) (x : Option X) → MatchOption x ⊥ (λ held. listener.TakesSync held response calls step) → P
  took response None t = absurd t
  took response (Some held) t = takes held response t

  arrived : (comes : Arrival) → IsArrival ike_under listener.end octets comes → TakesArrival listener comes calls step → P
  arrived (arrival.Resumption message) is t = dropped (drop.Exchange IKE_SESSION_RESUME) t
  arrived (arrival.SyncResponse response) is t = took response (held_for listener response) t
  arrived (arrival.Synchronisation request) is t = synchronised request (held_for listener request) t
  arrived (arrival.Dropped why) is t = dropped why t
  arrived (arrival.New request) is t = answered request (held_for listener request) t
  arrived (arrival.Response response) is t = responded response (held_for listener response) t.0 t.1
  arrived (arrival.Repeat id datagram) is t = repeats id datagram.octets.octets
      (message-kept ike_under listener.end octets (arrival.Repeat id datagram) datagram.octets.octets refl (λ why never. absurd (cc)) (λ opened never. absurd (cc)) (λ opened never. absurd (cc)) (λ message never. absurd (cc)) (λ opened never. absurd (cc)) (λ opened never. absurd (cc)) is)
      t.0 t.1

  message-elim : TakesMessage listener octets calls step → P
  message-elim t = arrived t.comes t.is t.takes

-- what is kept is given again, and is short
pub again-brief : (verdict : Verdict) (octets : List ℕ) (step : Step) → length octets ≤ DATAGRAM_OCTETS → GivesAgain verdict octets step → IsBrief step
again-brief verdict octets step short g = subst (λ gives. AllByRecursion IsShort (option_to_list (option_map plain_datagram gives))) (sym g.gives) (subst (λ o. length o ≤ DATAGRAM_OCTETS) (sym g.octets_are) short, tt)

-- what a listener keeps is short
abbrev ListensShort : {X : Type 0} → Listener X → Type 0
ListensShort listener = (spii spir : ℕ) → IfSome (listener.held_under spii spir) (λ x. KeepsShort (listener.ike x).asked (listener.ike x).answered)

module _ {X : Type 0} (listener : Listener X) (octets : List ℕ) (calls : List Call) (step : Step) where
  abbrev Answering : Type 0
  Answering = (x : X) (request : Opened) → listener.Answers x request calls step → IsAnswered calls step

  abbrev Synchronising : Type 0
  Synchronising = ((x : X) (request : Opened) → listener.Synchronises x request calls step → IsAnswered calls step) × ((x : X) (response : Opened) → listener.TakesSync x response calls step → IsAnswered calls step)

  message-said : Answering → Synchronising → TakesMessage listener octets calls step → IsOfEnd step.verdict
  message-said answers syncs t = message-elim listener octets calls step
      (λ verdict own none says. of-verdict step.verdict verdict own says.said)
      (λ id again are_kept none g. of-verdict step.verdict (out.Repeated id) (record { no_join = refl; heard = refl }) g.said)
      (λ x request a. (answers x request a).said)
      (λ x request a. (syncs.0 x request a).said)
      (λ x response a. (syncs.1 x response a).said)
      t

  message-answered : ListensShort listener → Answering → Synchronising → TakesMessage listener octets calls step → IsAnswered calls step
  message-answered short answers syncs t = message-elim listener octets calls step
      (λ verdict own none says. proper-answered calls step (quiet-proper calls step (none-few calls none) (of-verdict step.verdict verdict own says.said) says.quiet))
      (λ id again are_kept none g. record {
        few = none-few calls none;
        said = of-verdict step.verdict (out.Repeated id) (record { no_join = refl; heard = refl }) g.said;
        brief = again-brief (out.Repeated id) again step (kept-short are_kept.id are_kept.held.answered.responses again
            (responses-short are_kept.held (listener.held_under are_kept.spii are_kept.spir) (short are_kept.spii are_kept.spir) are_kept.there) are_kept.here) g;
      })
      answers syncs.0 syncs.1 t
    where
      responses-short : (held : IkeHeld) (x : Option X) → IfSome x (λ y. KeepsShort (listener.ike y).asked (listener.ike y).answered) → option_map listener.ike x ≡ Some held → AreShort held.answered.responses
      responses-short held None keeps there = absurd (cc)
      responses-short held (Some y) keeps there = let same : listener.ike y ≡ held = cc in subst (λ (h : IkeHeld). AreShort h.answered.responses) same keeps.of_answered

peer-syncs : (calls : List Call) (step : Step) → ((slot : Slot) (request : Opened) → SlotSynchronises slot request calls step → IsAnswered calls step) × ((slot : Slot) (response : Opened) → ⊥ → IsAnswered calls step)
peer-syncs calls step = (λ slot request. slot-synchronised slot request calls step, λ slot response never. absurd never)

member-syncs : (fresh : List ℕ) (calls : List Call) (step : Step) → ((held : Held) (request : Opened) → ⊥ → IsAnswered calls step) × ((held : Held) (response : Opened) → HeldTakesSync fresh held response calls step → IsAnswered calls step)
member-syncs fresh calls step = (λ held request never. absurd never, λ held response. held-took fresh held response calls step)

-- at the peer, and at a member
pub peer_message-said : (slots : List Slot) (octets : List ℕ) (calls : List Call) (step : Step) → TakesMessage (peer_listener slots) octets calls step → IsOfEnd step.verdict
peer_message-said slots octets calls step = message-said (peer_listener slots) octets calls step (λ slot request. slot-answered slot request calls step) (peer-syncs calls step)

pub member_message-said : (member : MemberHeld) (now : Moment) (octets : List ℕ) (calls : List Call) (step : Step) → TakesMessage (member_listener member now) octets calls step → IsOfEnd step.verdict
member_message-said member now octets calls step = message-said (member_listener member now) octets calls step (λ h request. held-answered member now h request calls step) (member-syncs (fresh_octets member.given) calls step)

pub first-short : (test : Slot → Bool) (slots : List Slot) → SlotsKeepShort slots → IfSome (first_slot test slots) (λ slot. KeepsShort slot.asked slot.answered)
first-short test [] all = tt
first-short test (slot ∷ slots) all = by_test (test slot) (first-short test slots all.1)
  where
    by_test : (b : Bool) → IfSome (first_slot test slots) (λ s. KeepsShort s.asked s.answered) → IfSome (if b then Some slot else first_slot test slots) (λ s. KeepsShort s.asked s.answered)
    by_test true later = all.0
    by_test false later = later

pub peer_message-answered : (slots : List Slot) (octets : List ℕ) (calls : List Call) (step : Step) → SlotsKeepShort slots → TakesMessage (peer_listener slots) octets calls step → IsAnswered calls step
peer_message-answered slots octets calls step short = message-answered (peer_listener slots) octets calls step (λ spii spir. first-short (has_spis spii spir) slots short) (λ slot request. slot-answered slot request calls step) (peer-syncs calls step)

spii-short : (spii : ℕ) (x : Option Held) → HeldKeepsShort x → HeldKeepsShort (of_spii spii x)
spii-short spii None short = tt
spii-short spii (Some held) short = by_spii (held.sa.spii == spii)
  where
    by_spii : (b : Bool) → HeldKeepsShort (if b then Some held else None)
    by_spii true = short
    by_spii false = tt

pub member_message-answered : (member : MemberHeld) (now : Moment) (octets : List ℕ) (calls : List Call) (step : Step) → ((spir : ℕ) → HeldKeepsShort (member.held spir)) → TakesMessage (member_listener member now) octets calls step → IsAnswered calls step
member_message-answered member now octets calls step short = message-answered (member_listener member now) octets calls step (λ spii spir. spii-short spii (member.held spir) (short spir)) (λ h request. held-answered member now h request calls step) (member-syncs (fresh_octets member.given) calls step)
