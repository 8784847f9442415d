-- After a synchronisation with a whole lead the peer sends nothing below where an epoch began.
use Rattle.std.proofs.Common.{◌≡◌, ℕ, ◌+◌, ◌<◌, ◌≤◌, ◌==◌, Bool, true, false, Option, Some, None, option_to_list, List, [], ◌∷◌, ◌++◌, refl, ap, sym, ◌∙◌, subst, arith, if◌then◌else◌}
use Rattle.std.proofs.lemmas.Bool.{eq-eqb}
use Rattle.std.proofs.lemmas.Option.{same_Some}
use Rattle.std.specs.List.{AllByRecursion}
use Rattle.std.specs.Option.{option_map}
use Rattle.events.specs.declared.turn.Turn.{Turn}
use Rattle.events.specs.declared.verdict.Verdict.TheVariants as out
use Rattle.ha_base.specs.declared.counter_names.CounterName.{CounterName}
use Rattle.horizons.specs.Reaches.{lead_of}
use Rattle.ike_sas.specs.declared.synchronising.TheConstants.{SYNC_DELTA}
use Rattle.keeper_book.specs.Book.{Answers, Book, Enters, EntersAll, empty, enter_refusal}
use Rattle.keeper_book.specs.Records.{spir_of_origin}
use Rattle.keeper_book.specs.Told.{seen}
use Rattle.keeper_book.specs.declared.calls.Call.{Call}
use Rattle.keeper_book.specs.declared.calls.KeeperAnswer.{KeeperAnswer}
use Rattle.keeper_book.specs.declared.calls.KeeperAnswer.TheVariants as answer
use Rattle.keeper_book.specs.declared.calls.KeeperAsk.{KeeperAsk}
use Rattle.keeper_book.specs.declared.calls.KeeperAsk.TheVariants as ask
use Rattle.keeper_book.specs.declared.counters.Counter.TheVariants as counter
use Rattle.keeper_book.specs.declared.faults.KeeperFault.TheVariants as fault
use Rattle.keeper_book.specs.declared.records.Record.{Record}
use Rattle.keeper_book.specs.declared.records.Taken.{Taken}
use Rattle.turn_laws.proofs.Accepted.{all-parts}
use Rattle.turn_laws.proofs.BookHighs.{run-within}
use Rattle.turn_laws.proofs.BookRecords.{record_in, record_of, records-after, records-kept}
use Rattle.turn_laws.proofs.Books.{after-granted, shows-done, shows-entered}
use Rattle.turn_laws.proofs.Called.{calls-hold}
use Rattle.turn_laws.proofs.Caught.{after-more, covers-caught}
use Rattle.turn_laws.proofs.Deeds.{Asked, Deed, Ended, Rested, Used, Used_theirs}
use Rattle.turn_laws.proofs.Lists.{all-append, all-both, all-filter}
use Rattle.turn_laws.proofs.Opened.{slot-told}
use Rattle.turn_laws.proofs.PeerSyncs.{peer-synchronised}
use Rattle.turn_laws.proofs.Receivers.{IsInBook, recorded}
use Rattle.turn_laws.proofs.Records.{deed-of, found-holds}
use Rattle.turn_laws.proofs.Runs.{enters_all-append}
use Rattle.turn_laws.proofs.Theirs.{not-both}
use Rattle.turn_laws.proofs.Members.{is_end-true}
use Rattle.turn_laws.specs.Acts.{entered_as}
use Rattle.turn_laws.specs.CaughtUp.{AllCatchUp, CatchesUp, NoneInvented, uptos_in}
use Rattle.turn_laws.specs.Synchronising.{MemberHolds, PeerHolds, PeerSynchronised, is_association}
use Rattle.turn_rules.proofs.SlotTies.{all-weaker, first-has, records-slots_by}
use Rattle.turn_rules.specs.Ends.{Member, Peer, is_by, own, performer}
use Rattle.turn_rules.specs.Held.{Held, first_some, found, grant_of, granted, holding, window_by}
use Rattle.turn_rules.specs.Local.{Explained, Stands, calls_of}
use Rattle.turn_rules.specs.Peers.{associations_by, entered_in}
use Rattle.turn_rules.specs.IkeState.{turn_agreed}
use Rattle.turn_rules.specs.Slots.{Slot, next_sent, sent_of, since_entered, slots_by}
use Rattle.turn_rules.specs.Tasks.{peer_task}

-- ---- the peer's associations are those of the book

entered-shows : (asked : KeeperAsk) (answered : KeeperAnswer) (sa : Record) → entered_as asked answered ≡ Some sa
    → (asked ≡ ask.Enter sa) × (answered ≡ answer.Done)
entered-shows (ask.Enter other) answer.Done sa is = (ap ask.Enter (same_Some other sa is), refl)
entered-shows asked answered sa is = absurd (cc)

-- an entry that the caller saw acknowledged is in the book
entered-recorded : (old new : Book) (call : Call) (sa : Record) → Enters old call new → entered_as call.asked (seen call) ≡ Some sa
    → record_of new sa.spir ≡ Some sa
entered-recorded old new call sa enters is = by_hidden call.hidden refl
  where
    shows : (call.asked ≡ ask.Enter sa) × (seen call ≡ answer.Done)
    shows = entered-shows call.asked (seen call) sa is

    given : call.answer ≡ answer.Done → record_of new sa.spir ≡ Some sa
    given done =
        let answers : Answers old (ask.Enter sa) answer.Done new =
        subst (λ a. Answers old (ask.Enter sa) a new) done (subst (λ a. Answers old a call.answer new) shows.0 enters) in
        let none : enter_refusal sa old.entries ≡ None = shows-done (enter_refusal sa old.entries) answers.0 in
        let free : record_of old sa.spir ≡ None = ap record_in (shows-entered sa old.entries none) in
        records-after old new (ask.Enter sa) answer.Done answers (after-granted old new (ask.Enter sa) none answers.1) sa.spir
        ∙ (ap (λ x. first_some x (if sa.spir == sa.spir then Some sa else None)) free
        ∙ ap (λ b. if b then Some sa else None) (eq-eqb sa.spir sa.spir refl))

    by_hidden : (b : Bool) → call.hidden ≡ b → record_of new sa.spir ≡ Some sa
    by_hidden true t = let both : answer.Refused fault.Failed ≡ answer.Done = sym (ap (λ b. if b then answer.Refused fault.Failed else call.answer) t)
        ∙ shows.1 in absurd (cc)
    by_hidden false t = given (sym (ap (λ b. if b then answer.Refused fault.Failed else call.answer) t) ∙ shows.1)

calls-kept : (calls : List Call) (old new : Book) → EntersAll old calls new → (spir : ℕ) (r : Record) → record_of old spir ≡ Some r
    → record_of new spir ≡ Some r
calls-kept [] old new enters spir r is = ap (λ (b : Book). record_of b spir) enters ∙ is
calls-kept (call ∷ calls) old new enters spir r is = calls-kept calls enters.0 new enters.2 spir r
    (records-kept old enters.0 call.asked call.answer enters.1 spir r is)

abbrev IsRecorded : Book → Record → Type 0
IsRecorded book sa = record_of book sa.spir ≡ Some sa

peers-recorded : (boxes : ℕ) (past : List Turn) (book : Book) → Explained boxes past → Stands past book
    → AllByRecursion (IsRecorded book) (associations_by (own Peer past))
peers-recorded boxes [] book local stands = tt
peers-recorded boxes (turn ∷ past) book local stands = by_test (peers-recorded boxes past parts.0 local.1 parts.1) (is_by Peer turn) refl
  where
    parts : (mid : Book) × EntersAll empty (calls_of past) mid × EntersAll mid turn.calls book
    parts = enters_all-append (calls_of past) turn.calls empty book stands

    kept : AllByRecursion (IsRecorded parts.0) (associations_by (own Peer past)) → AllByRecursion (IsRecorded book) (associations_by (own Peer past))
    kept before = all-weaker (associations_by (own Peer past)) (λ sa is. calls-kept turn.calls parts.0 book parts.2 sa.spir sa is) before

    entered : performer turn ≡ Some Peer → (sa : Record) → entered_in turn ≡ Some sa → IsRecorded book sa
    entered by sa is = go (deed-of boxes past turn local.0 local.1)
      where
        go : Deed past turn.event turn.calls turn.step → IsRecorded book sa
        go (Rested none rests no_entry) = let both : None ≡ Some sa = sym no_entry ∙ is in absurd (cc)
        go (Asked asks) =
            let enters : EntersAll parts.0 (asks.call ∷ []) book = subst (λ calls. EntersAll parts.0 calls book) asks.one parts.2 in
            ap (λ (b : Book). record_of b sa.spir) enters.2 ∙ entered-recorded parts.0 enters.0 asks.call sa enters.1 (asks.entry ∙ is)
        go (Ended member by_it none said ends quiet) = not-both member (performer turn) by_it by
        go (Used u) = not-both u.member (performer turn) u.by_it by
        go (Used_theirs u) = let both : None ≡ Some sa = sym u.no_entry ∙ is in absurd (cc)

    one : performer turn ≡ Some Peer → (x : Option Record) → entered_in turn ≡ x → AllByRecursion (IsRecorded book) (option_to_list x)
    one by None e = tt
    one by (Some sa) e = (entered by sa e, tt)

    by_test : AllByRecursion (IsRecorded parts.0) (associations_by (own Peer past)) → (b : Bool) → is_by Peer turn ≡ b
        → AllByRecursion (IsRecorded book) (associations_by (own Peer (turn ∷ past)))
    by_test before true mine = subst (λ b. AllByRecursion (IsRecorded book) (associations_by (if b then turn ∷ own Peer past else own Peer past))) (sym mine)
        (all-append (IsRecorded book) (associations_by (own Peer past)) (option_to_list (entered_in turn)) (kept before)
        (one (is_end-true Peer (performer turn) mine) (entered_in turn) refl))
    by_test before false other = subst (λ b. AllByRecursion (IsRecorded book) (associations_by (if b then turn ∷ own Peer past else own Peer past)))
        (sym other) (kept before)

-- ---- where the epochs of a member began

sent-from : (spir start : ℕ) (turns : List Turn) → start ≤ next_sent spir start turns
sent-from spir start [] = omega arith
sent-from spir start (turn ∷ turns) =
    let rest : start ≤ next_sent spir start turns = sent-from spir start turns in
    let more : next_sent spir start turns ≤ next_sent spir start (turn ∷ turns) =
    after-more (turn_agreed peer_task spir turn) (sent_of spir turn) (next_sent spir start turns) in
    omega (arith, rest, more)

module _ (boxes : ℕ) (past : List Turn) (book : Book) (local : Explained boxes past) (stands : Stands past book) (spir bound : ℕ)
    (uptos : AllByRecursion (λ u. u ≤ bound) (uptos_in spir past)) where
  -- a grant of the association is of the book's record, and begins within the bound where that does
  record IsFine (taken : Taken) : Type 0 where
    pub is_recorded : record_of book spir ≡ Some taken.sa
    pub within : taken.sa.starts.esp_in ≤ bound → taken.bases.esp_in ≤ bound

  abbrev AreFine : Turn → Type 0
  AreFine turn = AllByRecursion (λ call. (taken : Taken) → granted spir call.asked (seen call) ≡ Some taken → IsFine taken) turn.calls

  all-fine : AllByRecursion AreFine past
  all-fine = all-both past
      (λ turn known grants. all-both turn.calls (λ call inside within taken is. record {
        is_recorded = inside spir taken is;
        within = within taken is;
      }) known grants)
      (calls-hold (IsInBook book) past (recorded boxes past book local stands).grants)
      (run-within spir bound past book stands uptos).0

  held-fine : (later earlier : List Turn) → past ≡ later ++ earlier → (member : ℕ) (held : Held) → MemberHolds earlier member spir held
      → (record_of book spir ≡ Some held.sa) × (held.sa.starts.esp_in ≤ bound → held.bases.esp_in ≤ bound)
  held-fine later earlier same member held is = go (found (grant_of spir) mine) refl is
    where
      mine : List Turn
      mine = own (Member member) earlier

      fine : AllByRecursion AreFine mine
      fine = all-filter AreFine (is_by (Member member)) earlier
          (all-parts AreFine later earlier (subst (λ turns. AllByRecursion AreFine turns) same all-fine)).1

      go : (x : Option Taken) → found (grant_of spir) mine ≡ x → option_map (holding (window_by earlier) spir mine) x ≡ Some held
          → (record_of book spir ≡ Some held.sa) × (held.sa.starts.esp_in ≤ bound → held.bases.esp_in ≤ bound)
      go None e is = absurd (cc)
      go (Some taken) e is =
          let so : IsFine taken = found-holds IsFine (grant_of spir) mine taken
          (all-weaker mine (λ turn calls z g. found-holds IsFine (λ call. granted spir call.asked (seen call)) turn.calls z calls g) fine) e in
          subst (λ (h : Held). (record_of book spir ≡ Some h.sa) × (h.sa.starts.esp_in ≤ bound → h.bases.esp_in ≤ bound))
          (same_Some (holding (window_by earlier) spir mine taken) held is) (so.is_recorded, so.within)

-- ---- what follows of the peer's next number

module _ (boxes : ℕ) (past : List Turn) (turn : Turn) (book : Book) (explained : Explained boxes (turn ∷ past)) (stands : Stands past book)
    (none : NoneInvented past)
    (name : CounterName) (p2 m2 delta : ℕ) (unknown : List ℕ) (said : turn.step.verdict ≡ out.SyncAccepted name p2 m2 delta unknown)
    (lead : delta ≡ SYNC_DELTA) where
  done : PeerSynchronised past turn name p2 m2 delta unknown
  done = peer-synchronised boxes past turn explained name p2 m2 delta unknown said

  abbrev before : Slot
  before = done.before

  abbrev bound : ℕ
  bound = before.next + lead_of counter.EspIn

  uptos-within : AllByRecursion (λ u. u ≤ bound) (uptos_in before.sa.spir past)
  uptos-within = all-weaker (uptos_in before.sa.spir past)
      (λ upto caught.
      let one : caught.slot.next ≡ before.next = ap (λ (s : Slot). s.next) (same_Some caught.slot before (sym caught.holds ∙ done.had)) in
      let below : upto < caught.slot.next + lead_of counter.EspIn = caught.below in
      omega (arith, one, below))
      (covers-caught boxes past explained.1 none before.sa.spir)

  start-within : before.sa.starts.esp_in ≤ bound
  start-within =
      let told : before.next ≡ next_sent before.sa.spir before.sa.starts.esp_in (since_entered before.sa.spir (own Peer past)) =
      ap (λ (s : Slot). s.next) (slot-told (window_by past) (own Peer past) (is_association before.sa.spir) before done.had) in
      let from : before.sa.starts.esp_in ≤ next_sent before.sa.spir before.sa.starts.esp_in (since_entered before.sa.spir (own Peer past)) =
      sent-from before.sa.spir before.sa.starts.esp_in (since_entered before.sa.spir (own Peer past)) in
      omega (arith, told, from)

  peer-recorded : record_of book before.sa.spir ≡ Some before.sa
  peer-recorded = first-has (IsRecorded book) (is_association before.sa.spir) (slots_by (window_by past) (own Peer past)) before
      (subst (λ list. AllByRecursion (IsRecorded book) list) (sym (records-slots_by (window_by past) (own Peer past)))
      (peers-recorded boxes past book explained.1 stands))
      done.had

  base-within : (later earlier : List Turn) (member : ℕ) (held : Held) → past ≡ later ++ earlier → MemberHolds earlier member before.sa.spir held
      → held.bases.esp_in ≤ bound
  base-within later earlier member held same is =
      let fine = held-fine boxes past book explained.1 stands before.sa.spir bound uptos-within later earlier same member held is in
      let one : held.sa ≡ before.sa = same_Some held.sa before.sa (sym fine.0 ∙ peer-recorded) in
      fine.1 (subst (λ (r : Record). r.starts.esp_in ≤ bound) (sym one) start-within)

  its-spir : (spir : ℕ) → spir_of_origin name.origin ≡ Some spir → before.sa.spir ≡ spir
  its-spir spir is = same_Some before.sa.spir spir (sym before.sa.origin_is_own ∙ (ap (λ (n : CounterName). spir_of_origin n.origin) (sym done.named) ∙ is))

  numbers-catch : (spir : ℕ) (slot : Slot) → spir_of_origin name.origin ≡ Some spir → PeerHolds (turn ∷ past) spir slot
      → (later earlier : List Turn) (member : ℕ) (held : Held) → past ≡ later ++ earlier
      → MemberHolds earlier member spir held → held.bases.esp_in ≤ slot.next
  numbers-catch spir slot of holds later earlier member held same is =
      let spirs : before.sa.spir ≡ spir = its-spir spir of in
      let now : PeerHolds (turn ∷ past) spir done.after = subst (λ k. PeerHolds (turn ∷ past) k done.after) spirs done.has in
      let one : slot.next ≡ done.after.next = ap (λ (s : Slot). s.next) (same_Some slot done.after (sym holds ∙ now)) in
      let rose : done.after.next ≡ before.next + delta = done.greater.rose ∙ ap (λ n. before.next + n) (sym done.delta_said) in
      let whole : delta ≡ lead_of counter.EspIn = lead in
      let base : held.bases.esp_in ≤ bound = base-within later earlier member held same (subst (λ k. MemberHolds earlier member k held) (sym spirs) is) in
      omega (arith, one, rose, whole, base)

pub catches-up : (boxes : ℕ) (past : List Turn) (turn : Turn) (book : Book) → Explained boxes (turn ∷ past) → Stands past book → NoneInvented past
    → CatchesUp past turn
catches-up boxes past turn book explained stands none name p2 m2 delta unknown said lead =
    numbers-catch boxes past turn book explained stands none name p2 m2 delta unknown said lead

-- and so of each of a trace
pub all-catch-up : (boxes : ℕ) (past : List Turn) (book : Book) → Explained boxes past → Stands past book → NoneInvented past
    → AllCatchUp past
all-catch-up boxes [] book local stands none = tt
all-catch-up boxes (turn ∷ past) book local stands none =
    let parts : (mid : Book) × EntersAll empty (calls_of past) mid × EntersAll mid turn.calls book = enters_all-append (calls_of past) turn.calls empty book stands in
    (catches-up boxes past turn parts.0 local parts.1 none.1, all-catch-up boxes past parts.0 local.1 parts.1 none.1)
