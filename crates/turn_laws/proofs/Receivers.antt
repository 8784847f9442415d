-- Where the book is honest, no two associations that members hold receive at one SPI.
use Rattle.std.proofs.Common.{◌≡◌, ◌≢◌, ℕ, ◌==◌, Bool, true, false, Option, Some, None, List, [], ◌∷◌, length, ⊎_elim, refl, ap, sym, ◌∙◌, subst, if◌then◌else◌}
use Rattle.std.proofs.lemmas.Bool.{eqb-false, eqb-true, or_parts}
use Rattle.std.proofs.lemmas.Option.{same_Some}
use Rattle.std.specs.List.{AllByRecursion, list_any}
use Rattle.std.specs.Prelude.{nat_le}
use Rattle.keeper_book.specs.declared.TheConstants.{MAX_ASSOCIATIONS, MAX_SPENT_TICKETS}
use Rattle.std.specs.Option.{option_map}
use Rattle.events.specs.declared.turn.Turn.{Turn}
use Rattle.keeper_book.specs.Book.{Answers, Book, Enters, Entry, enter_refusal, entry_of, is_spent, refusal, settle_refusal, shares_spi, when}
use Rattle.keeper_book.specs.Told.{seen}
use Rattle.keeper_book.specs.declared.calls.Call.{Call}
use Rattle.keeper_book.specs.declared.calls.KeeperAnswer.{KeeperAnswer}
use Rattle.keeper_book.specs.declared.calls.KeeperAnswer.TheVariants as answer
use Rattle.keeper_book.specs.declared.calls.KeeperAsk.{KeeperAsk}
use Rattle.keeper_book.specs.declared.calls.KeeperAsk.TheVariants as ask
use Rattle.keeper_book.specs.declared.faults.KeeperFault.{KeeperFault}
use Rattle.keeper_book.specs.declared.faults.KeeperFault.TheVariants as fault
use Rattle.keeper_book.specs.declared.records.Record.{Record}
use Rattle.keeper_book.specs.declared.records.Taken.{Taken}
use Rattle.turn_laws.proofs.All.{lawful-run}
use Rattle.turn_laws.proofs.BookRecords.{IsNow, IsRecordOf, Was, entered-is, record_after, record_in, record_of, records-after, records-kept}
use Rattle.turn_laws.proofs.Books.{ShowsTaken, answers-entry, shows-taken}
use Rattle.turn_laws.proofs.Called.{HoldOfCalls, IfCall, calls-hold}
use Rattle.turn_laws.proofs.Lists.{all-filter}
use Rattle.turn_rules.proofs.SlotTies.{all-weaker}
use Rattle.turn_laws.proofs.Records.{found-holds}
use Rattle.turn_laws.specs.Acts.{Act, Calls, Ends, Leaps, Move, Opens, Seals, Starts, Uses}
use Rattle.turn_laws.specs.Owned.{Lawful, WritesBook}
use Rattle.turn_laws.specs.Turns.{acts_of}
use Rattle.turn_rules.specs.Ends.{Member, is_by, own}
use Rattle.turn_rules.specs.Held.{Held, first_some, found, grant_of, granted, held_by, holding, window_by}
use Rattle.turn_rules.specs.Local.{Explained, Stands}

-- the record of an association stays, and no two are found at one SPI
abbrev pub AreApart : (ℕ → Option Record) → Type 0
AreApart record_at = (a b : ℕ) (r s : Record) → record_at a ≡ Some r → record_at b ≡ Some s → r.spi_in ≡ s.spi_in → a ≡ b

-- an association that is new shares no SPI with one that the book has
none-shares : (sa : Record) (es : List Entry) → list_any (shares_spi sa) es ≡ false → (spir : ℕ) (r : Record) → record_in (entry_of spir es) ≡ Some r → sa.spi_in ≢ r.spi_in
none-shares sa [] none spir r is = absurd (cc)
none-shares sa (e ∷ es) none spir r is = by_test (none-shares sa es parts.1 spir r) (e.sa.spir == spir) is
  where
    parts : (shares_spi sa e ≡ false) × (list_any (shares_spi sa) es ≡ false)
    parts = or_parts (shares_spi sa e) (list_any (shares_spi sa) es) none

    other : e.sa.spi_in ≢ sa.spi_in
    other = eqb-false e.sa.spi_in sa.spi_in (or_parts (e.sa.spir == sa.spir) (e.sa.spi_in == sa.spi_in) parts.0).1

    by_test : (record_in (entry_of spir es) ≡ Some r → sa.spi_in ≢ r.spi_in) → (b : Bool) → record_in (if b then Some e else entry_of spir es) ≡ Some r → sa.spi_in ≢ r.spi_in
    by_test rest true is = λ same. other (ap (λ (x : Record). x.spi_in) (same_Some e.sa r is) ∙ sym same)
    by_test rest false is = rest is

enters-free : (sa : Record) (es : List Entry) → enter_refusal sa es ≡ None → list_any (shares_spi sa) es ≡ false
enters-free sa es none = by_test (list_any (shares_spi sa) es) (when (nat_le MAX_ASSOCIATIONS (length es)) (fault.Full MAX_ASSOCIATIONS) None) none
  where
    by_test : (b : Bool) (later : Option KeeperFault) → when b fault.SpiInUse later ≡ None → b ≡ false
    by_test true later none = absurd (cc)
    by_test false later none = refl

settles-free : (ticket : ℕ) (sa : Record) (spent : List ℕ) (es : List Entry) → settle_refusal ticket sa spent es ≡ None → list_any (shares_spi sa) es ≡ false
settles-free ticket sa spent es none = by_test (is_spent ticket spent) (list_any (shares_spi sa) es)
    (when (nat_le MAX_SPENT_TICKETS (length spent)) (fault.Full MAX_SPENT_TICKETS) (when (nat_le MAX_ASSOCIATIONS (length es)) (fault.Full MAX_ASSOCIATIONS) None)) none
  where
    by_test : (a b : Bool) (later : Option KeeperFault) → when a fault.Spent (when b fault.SpiInUse later) ≡ None → b ≡ false
    by_test true b later none = absurd (cc)
    by_test false true later none = absurd (cc)
    by_test false false later none = refl

module _ (old : Book) where
  -- a record that shares no SPI with those of the book
  entered-apart : (sa : Record) → list_any (shares_spi sa) old.entries ≡ false → AreApart (record_of old) → AreApart (λ spir. first_some (record_of old spir) (if sa.spir == spir then Some sa else None))
  entered-apart sa shares apart = λ a b r s ra sb same. go a b r s same (entered-is old sa a r (record_of old a) refl ra) (entered-is old sa b s (record_of old b) refl sb)
    where
      free : (spir : ℕ) (x : Record) → record_of old spir ≡ Some x → sa.spi_in ≢ x.spi_in
      free = none-shares sa old.entries shares

      go : (a b : ℕ) (r s : Record) → r.spi_in ≡ s.spi_in → IsRecordOf old sa a r → IsRecordOf old sa b s → a ≡ b
      go a b r s same (Was wa) (Was wb) = apart a b r s wa wb same
      go a b r s same (Was wa) (IsNow at is) = absurd (free a r wa (ap (λ (x : Record). x.spi_in) is ∙ sym same))
      go a b r s same (IsNow at is) (Was wb) = absurd (free b s wb (ap (λ (x : Record). x.spi_in) is ∙ same))
      go a b r s same (IsNow at is) (IsNow bt js) = sym at ∙ bt

  apart-after : (asked : KeeperAsk) → refusal old asked ≡ None → AreApart (record_of old) → AreApart (λ spir. record_after spir asked (record_of old spir))
  apart-after (ask.Enter sa) none apart = entered-apart sa (enters-free sa old.entries none) apart
  apart-after (ask.TakeOver asked member) none apart = apart
  apart-after (ask.Cover asked kind child epoch upto) none apart = apart
  apart-after (ask.Lease pool count) none apart = apart
  apart-after (ask.Settle ticket asked sa member) none apart = entered-apart sa (settles-free ticket sa old.spent old.entries none) apart
  apart-after (ask.Look ticket) none apart = apart

  module _ (new : Book) (asked : KeeperAsk) (answered : KeeperAnswer) (answers : Answers old asked answered new) where
    pub records-apart : AreApart (record_of old) → AreApart (record_of new)
    records-apart apart = ⊎_elim
        (λ same. subst (λ (b : Book). AreApart (record_of b)) (sym same) apart)
        (λ has a b r s ra sb. apart-after asked has.granted apart a b r s (sym (records-after old new asked answered answers has.is a) ∙ ra) (sym (records-after old new asked answered answers has.is b) ∙ sb))
        (answers-entry old new asked answered answers)

  -- what a call granted is the record that the book has
  grant-answered : (new : Book) (spir : ℕ) (taken : Taken) (asked : KeeperAsk) (answered : KeeperAnswer) → Answers old asked answered new → granted spir asked answered ≡ Some taken → record_of old spir ≡ Some taken.sa
  grant-answered new spir taken (ask.TakeOver asked member) (answer.Taken given) answers is = by_test (asked == spir) refl is
    where
      shows : ShowsTaken given (entry_of asked old.entries) (refusal old (ask.TakeOver asked member))
      shows = shows-taken given (entry_of asked old.entries) (refusal old (ask.TakeOver asked member)) answers.0

      by_test : (b : Bool) → (asked == spir) ≡ b → (if b then Some given else None) ≡ Some taken → record_of old spir ≡ Some taken.sa
      by_test true t is =
          let here : record_of old asked ≡ Some shows.entry.sa = ap record_in shows.found in
          subst (λ n. record_of old n ≡ Some taken.sa) (eqb-true asked spir t)
          (here ∙ ap Some (sym (ap (λ (x : Taken). x.sa) shows.is) ∙ ap (λ (x : Taken). x.sa) (same_Some given taken is)))
      by_test false t is = absurd (cc)
  grant-answered new spir taken asked answered answers is = absurd (cc)

  none-granted : (spir : ℕ) (asked : KeeperAsk) (why : KeeperFault) → None ≡ granted spir asked (answer.Refused why)
  none-granted spir (ask.Enter sa) why = refl
  none-granted spir (ask.TakeOver asked member) why = refl
  none-granted spir (ask.Cover asked kind child epoch upto) why = refl
  none-granted spir (ask.Lease pool count) why = refl
  none-granted spir (ask.Settle ticket asked sa member) why = refl
  none-granted spir (ask.Look ticket) why = refl

  grant-called : (new : Book) (spir : ℕ) (taken : Taken) (call : Call) → Enters old call new → granted spir call.asked (seen call) ≡ Some taken → record_of old spir ≡ Some taken.sa
  grant-called new spir taken call enters is = by_test call.hidden refl
    where
      hidden : granted spir call.asked (answer.Refused fault.Failed) ≡ Some taken → record_of old spir ≡ Some taken.sa
      hidden is = let none : None ≡ Some taken = none-granted spir call.asked fault.Failed ∙ is in absurd (cc)

      by_test : (b : Bool) → call.hidden ≡ b → record_of old spir ≡ Some taken.sa
      by_test true t = hidden (sym (ap (λ b. granted spir call.asked (if b then answer.Refused fault.Failed else call.answer)) t) ∙ is)
      by_test false t = grant-answered new spir taken call.asked call.answer enters (sym (ap (λ b. granted spir call.asked (if b then answer.Refused fault.Failed else call.answer)) t) ∙ is)

-- what was granted is in the book
abbrev pub IsInBook : Book → Call → Type 0
IsInBook book call = (spir : ℕ) (taken : Taken) → granted spir call.asked (seen call) ≡ Some taken → record_of book spir ≡ Some taken.sa

pub record Recorded (acts : List Act) (book : Book) : Type 0 where
  pub apart : AreApart (record_of book)
  pub grants : HoldOfCalls (IsInBook book) acts

lawful-recorded : (acts : List Act) (book : Book) → Lawful acts book → Recorded acts book
lawful-recorded [] book is = record { apart = subst (λ (b : Book). AreApart (record_of b)) (sym is) (λ a b r s ra sb same. absurd (cc)); grants = tt }
lawful-recorded (act ∷ acts) book lawful = by_move act.move refl lawful.3 (lawful-recorded acts lawful.0 lawful.1)
  where
    kept : ((spir : ℕ) (r : Record) → record_of lawful.0 spir ≡ Some r → record_of book spir ≡ Some r) → HoldOfCalls (IsInBook lawful.0) acts → HoldOfCalls (IsInBook book) acts
    kept keeps grants = all-weaker acts (λ act holds. by_act act.move holds) grants
      where
        by_act : (move : Move) → IfCall (IsInBook lawful.0) move → IfCall (IsInBook book) move
        by_act (Calls call) has = λ spir taken is. keeps spir taken.sa (has spir taken is)
        by_act (Uses q n) has = tt
        by_act (Seals key) has = tt
        by_act (Leaps q n) has = tt
        by_act (Opens ticket made) has = tt
        by_act (Starts sa) has = tt
        by_act Ends has = tt

    still : (move : Move) → act.move ≡ move → IfCall (IsInBook book) move → ((spir : ℕ) → record_of book spir ≡ record_of lawful.0 spir) → Recorded acts lawful.0 → Recorded (act ∷ acts) book
    still move is one same before = record {
      apart = λ a b r s ra sb e. before.apart a b r s (sym (same a) ∙ ra) (sym (same b) ∙ sb) e;
      grants = (subst (λ move. IfCall (IsInBook book) move) (sym is) one, kept (λ spir r has. same spir ∙ has) before.grants);
    }

    by_move : (move : Move) → act.move ≡ move → WritesBook lawful.0 act.move book → Recorded acts lawful.0 → Recorded (act ∷ acts) book
    by_move (Calls call) is writes before =
        let enters : Enters lawful.0 call book = subst (λ move. WritesBook lawful.0 move book) is writes in
        record {
          apart = records-apart lawful.0 book call.asked call.answer enters before.apart;
          grants = (
            subst (λ move. IfCall (IsInBook book) move) (sym is) (λ spir taken g. records-kept lawful.0 book call.asked call.answer enters spir taken.sa (grant-called lawful.0 book spir taken call enters g)),
            kept (records-kept lawful.0 book call.asked call.answer enters) before.grants,
          );
        }
    by_move (Uses q n) is writes before = still (Uses q n) is tt (λ spir. ap (λ (b : Book). record_of b spir) (subst (λ move. WritesBook lawful.0 move book) is writes)) before
    by_move (Seals key) is writes before = still (Seals key) is tt (λ spir. ap (λ (b : Book). record_of b spir) (subst (λ move. WritesBook lawful.0 move book) is writes)) before
    by_move (Leaps q n) is writes before = still (Leaps q n) is tt (λ spir. ap (λ (b : Book). record_of b spir) (subst (λ move. WritesBook lawful.0 move book) is writes)) before
    by_move (Opens ticket made) is writes before = still (Opens ticket made) is tt (λ spir. ap (λ (b : Book). record_of b spir) (subst (λ move. WritesBook lawful.0 move book) is writes)) before
    by_move (Starts sa) is writes before = still (Starts sa) is tt (λ spir. ap (λ (b : Book). record_of b spir) (subst (λ move. WritesBook lawful.0 move book) is writes)) before
    by_move Ends is writes before = still Ends is tt (λ spir. ap (λ (b : Book). record_of b spir) (subst (λ move. WritesBook lawful.0 move book) is writes)) before

module _ (boxes : ℕ) (past : List Turn) (book : Book) (local : Explained boxes past) (stands : Stands past book) where
  pub recorded : Recorded (acts_of past) book
  recorded = lawful-recorded (acts_of past) book (lawful-run boxes past book local stands)

  -- what a member holds is a record of the book
  grant-recorded : (member spir : ℕ) (taken : Taken) → found (grant_of spir) (own (Member member) past) ≡ Some taken → record_of book spir ≡ Some taken.sa
  grant-recorded member spir taken is = found-holds (λ (t : Taken). record_of book spir ≡ Some t.sa) (grant_of spir) (own (Member member) past) taken
      (all-weaker (own (Member member) past) (λ turn calls z e. found-holds (λ (t : Taken). record_of book spir ≡ Some t.sa) (λ call. granted spir call.asked (seen call)) turn.calls z (all-weaker turn.calls (λ call has w g. has spir w g) calls) e)
      (all-filter (λ (turn : Turn). AllByRecursion (IsInBook book) turn.calls) (is_by (Member member)) past (calls-hold (IsInBook book) past recorded.grants))) is

  held-recorded : (member spir : ℕ) (held : Held) → held_by (window_by past) (own (Member member) past) spir ≡ Some held → record_of book spir ≡ Some held.sa
  held-recorded member spir held is = go (found (grant_of spir) (own (Member member) past)) refl is
    where
      go : (x : Option Taken) → found (grant_of spir) (own (Member member) past) ≡ x → option_map (holding (window_by past) spir (own (Member member) past)) x ≡ Some held → record_of book spir ≡ Some held.sa
      go None e is = absurd (cc)
      go (Some taken) e is = subst (λ (h : Held). record_of book spir ≡ Some h.sa) (same_Some (holding (window_by past) spir (own (Member member) past) taken) held is) (grant-recorded member spir taken e)

  pub receivers-apart : (m k a b : ℕ) (h g : Held) → held_by (window_by past) (own (Member m) past) a ≡ Some h → held_by (window_by past) (own (Member k) past) b ≡ Some g → h.sa.spi_in ≡ g.sa.spi_in → a ≡ b
  receivers-apart m k a b h g holds other same = recorded.apart a b h.sa g.sa (held-recorded m a h holds) (held-recorded k b g other) same
