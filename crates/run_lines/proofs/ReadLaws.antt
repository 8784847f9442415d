-- What was read of an event file, and the turns of its events.
use Rattle.std.proofs.Common.{◌≡◌, ℕ, ◌+◌, ◌<◌, ◌≤◌, ◌==◌, ◌⊎◌, Bool, true, false, List, [], ◌∷◌, ◌++◌, length, Option, Some, None, refl, sym, ap, ◌∙◌, subst, append_assoc, append-nil, length-append, arith, inl, inr, if◌then◌else◌}
use Rattle.std.proofs.KnownBytes.{Appends-trans, Consumes-nil, Consumes-trans}
use Rattle.std.proofs.lemmas.Bool.{eqb-true}
use Rattle.std.specs.Io.KnownBytes.{Appends, Consumes, IsAtEnd}
use Rattle.call_ends.specs.Jobs.{IsBounded}
use Rattle.call_ends.specs.Outside.{octets_told}
use Rattle.events.specs.Events.{PlainEvent, plain}
use Rattle.events.specs.declared.event.Event.{Event}
use Rattle.events.specs.declared.turn.Turn.{Turn}
use Rattle.event_text.specs.Input.{Contents, contents_at, contents_of}
use Rattle.event_text.specs.Pieces.{FindsFault, HasRead, IsNew, Reading, ReadsOn, TakesEnd, TakesLine, behind_events, contents_from, events_in, first_place}
use Rattle.event_text.specs.declared.input.TheConstants.{MAX_EVENTS}
use Rattle.event_text.specs.declared.lines.Line.TheVariants as line
use Rattle.event_text.specs.declared.place.Place.{Place}
use Rattle.event_text.proofs.WholeReads.{line_read, none_read}
use Rattle.ha_base.specs.declared.limits.TheConstants.{INPUT_OCTETS}
use Rattle.ha_base.specs.declared.outside.Moment.{Moment}
use Rattle.input_lines.specs.Lines.{lines_of}
use Rattle.input_lines.specs.declared.fault.InputFault.{InputFault}
use Rattle.report_text.specs.Report.{report_head, turns_text}
use Rattle.run_lines.specs.Played.{titles}
use Rattle.run_lines.specs.Writes.{newest_text}

-- A file was read up to here: the turns are those of the events of the lines that were taken, and
-- their text stands on the output, behind the first line of a report.
pub record IsPlaying (reading : Reading) (left now_left written now_written : Option (List ℕ)) (past : List Turn) : Type 0 where
  pub has_read : HasRead reading left now_left (titles past)
  pub within : reading.place.before ≤ INPUT_OCTETS
  pub counted : reading.place.count ≡ length past
  pub wrote : Appends written now_written (report_head ++ turns_text past)

pub turns_text-none : (text : List ℕ) → text ++ turns_text [] ≡ text
unfolding turns_text
turns_text-none text = append-nil text

pub turns_text-newest : (past newest : List Turn) (turn : Turn) → newest ≡ turn ∷ past → turns_text past ++ newest_text newest ≡ turns_text newest
unfolding turns_text
turns_text-newest past newest turn more = subst (λ (p : List Turn). turns_text past ++ newest_text p ≡ turns_text p) (sym more) refl

pub head-newest : (past newest : List Turn) (turn : Turn) → newest ≡ turn ∷ past → (report_head ++ turns_text past) ++ newest_text newest ≡ report_head ++ turns_text newest
head-newest past newest turn more = append_assoc report_head (turns_text past) (newest_text newest) ∙ ap (λ (t : List ℕ). report_head ++ t) (turns_text-newest past newest turn more)

-- nothing was read, and the first line was written
pub playing_begun : (reading : Reading) (left written now_written : Option (List ℕ)) → IsNew reading → Appends written now_written report_head → IsPlaying reading left left written now_written []
playing_begun reading left written now_written new wrote = record {
  has_read = none_read reading left new;
  within = let none : reading.place.before ≡ 0 = ap (λ (p : Place). p.before) new.place in omega (arith, none);
  counted = ap (λ (p : Place). p.count) new.place;
  wrote = subst (Appends written now_written) (sym (turns_text-none report_head)) wrote;
}

-- a line was taken that is passed over
pub line_passed : (old new : Reading) (left mid now written now_written : Option (List ℕ)) (past : List Turn) → IsPlaying old left mid written now_written past → TakesLine old new mid now line.Passed
    → IsPlaying new left now written now_written past
line_passed old new left mid now written now_written past p t = record {
  has_read = subst (HasRead new left now) (append-nil (titles past)) (line_read old new left mid now (titles past) line.Passed p.has_read t);
  within = t.within;
  counted = t.count ∙ p.counted;
  wrote = p.wrote;
}

-- the turn of an event that was taken
module _ (past newest : List Turn) (turn : Turn) (moment : Moment) (event : Event) (more : newest ≡ turn ∷ past) (of_event : turn.event ≡ event) (at_moment : turn.moment ≡ moment) where
  titles-newest : titles past ++ events_in (line.Said moment event) ≡ titles newest
  titles-newest = sym (ap titles more ∙ ap (λ (x : Moment × PlainEvent). titles past ++ x ∷ []) (λ i. (at_moment i, plain (of_event i))))

  pub turn_read : (old new : Reading) (left mid now : Option (List ℕ)) → HasRead old left mid (titles past) → TakesLine old new mid now (line.Said moment event) → HasRead new left now (titles newest)
  turn_read old new left mid now h t = subst (HasRead new left now) titles-newest (line_read old new left mid now (titles past) (line.Said moment event) h t)

  -- and its text
  pub line_played : (old new : Reading) (left mid now written mid_written now_written : Option (List ℕ)) → IsPlaying old left mid written mid_written past → TakesLine old new mid now (line.Said moment event)
      → Appends mid_written now_written (newest_text newest) → IsPlaying new left now written now_written newest
  line_played old new left mid now written mid_written now_written p t wrote = record {
    has_read = turn_read old new left mid now p.has_read t;
    within = t.within;
    counted = t.count ∙ ap (λ (n : ℕ). n + 1) p.counted ∙ (let one : length past + 1 ≡ length (turn ∷ past) = omega arith in one) ∙ ap (length {A = Turn}) (sym more);
    wrote = subst (Appends written now_written) (head-newest past newest turn more)
        (Appends-trans written mid_written now_written (report_head ++ turns_text past) (newest_text newest) p.wrote wrote);
  }

-- there is room for the turn of an event
pub few_turns : (old new : Reading) (left mid now written now_written : Option (List ℕ)) (past : List Turn) (moment : Moment) (event : Event) → IsPlaying old left mid written now_written past
    → TakesLine old new mid now (line.Said moment event) → length past < MAX_EVENTS
few_turns old new left mid now written now_written past moment event p t =
    let count : new.place.count ≡ old.place.count + 1 = t.count in
    let few : new.place.count ≤ MAX_EVENTS = t.few in
    let counted : old.place.count ≡ length past = p.counted in
    omega (arith, count, few, counted)

-- ---- what the octets that were read say

-- Octets were read of a file whose first events are those of these turns.
pub record HaveTold (left now : Option (List ℕ)) (past : List Turn) : Type 0 where
  pub input : List ℕ
  pub consumed : Consumes left now input
  pub bounded : IsBounded input
  pub rest : Contents
  pub events : contents_of (input ++ octets_told now) ≡ behind_events (titles past) rest

-- none, and no turn
pub nothing_told : (left : Option (List ℕ)) → HaveTold left left []
nothing_told left = record {
  input = [];
  consumed = Consumes-nil left;
  bounded = omega arith;
  rest = contents_of (octets_told left);
  events = refl;
}

nothing_left : (left : Option (List ℕ)) → IsAtEnd left → octets_told left ≡ []
nothing_left None at_end = refl
nothing_left (Some xs) at_end = at_end

behind_events-nested : (events more : List (Moment × PlainEvent)) (rest : Contents) → behind_events (events ++ more) rest ≡ behind_events events (behind_events more rest)
behind_events-nested events more rest i = record { events = append_assoc events more rest.events i; fault = rest.fault }

-- those up to the end of a line; some events may have no turn yet
pub lines_told : (reading : Reading) (left now : Option (List ℕ)) (past : List Turn) (more : List (Moment × PlainEvent)) → HasRead reading left now (titles past ++ more) → reading.place.before ≤ INPUT_OCTETS
    → HaveTold left now past
lines_told reading left now past more h within = record {
  input = h.taken ++ reading.kept;
  consumed = h.consumed;
  bounded = let sum = length-append h.taken reading.kept in let before = h.before in let kept = h.kept in omega (arith, sum, before, kept, within);
  rest = behind_events more (contents_from reading.place (reading.kept ++ octets_told now));
  events =
      ap contents_of (append_assoc h.taken reading.kept (octets_told now))
      ∙ h.says (reading.kept ++ octets_told now) follows
      ∙ behind_events-nested (titles past) more (contents_from reading.place (reading.kept ++ octets_told now));
}
  where
    follows : reading.unfed ≡ true → reading.kept ++ octets_told now ≡ []
    follows unfed = elim h.whole [
      | inl fed ↦ absurd (let k : true ≡ false = sym unfed ∙ fed.0 in cc)
      | inr ended ↦ ap (λ (k : List ℕ). k ++ octets_told now) ended.1 ∙ nothing_left now ended.2
    ]

-- those behind a line
unfoldable pub rest_told : (reading : Reading) (left mid now : Option (List ℕ)) (past : List Turn) (read : List ℕ) → HasRead reading left mid (titles past) → reading.unfed ≡ false → ReadsOn reading mid now read
    → HaveTold left now past
rest_told reading left mid now past read h going r = record {
  input = h.taken ++ (reading.kept ++ read);
  consumed = subst (Consumes left now) (append_assoc h.taken reading.kept read) (Consumes-trans left mid now (h.taken ++ reading.kept) read h.consumed r.consumed);
  bounded = let sum = length-append h.taken (reading.kept ++ read) in let before = h.before in let bound = r.bounded in omega (arith, sum, before, bound);
  rest = contents_from reading.place ((reading.kept ++ read) ++ octets_told now);
  events =
      ap contents_of (append_assoc h.taken (reading.kept ++ read) (octets_told now))
      ∙ h.says ((reading.kept ++ read) ++ octets_told now) (λ unfed. absurd (let k : true ≡ false = sym unfed ∙ going in cc));
}

-- ---- the end of a file, and its first fault

-- All was read, or all up to the first fault: the turns are those of all events.
pub record AllTold (left now : Option (List ℕ)) (past : List Turn) (fault : Option InputFault) : Type 0 where
  pub input : List ℕ
  pub consumed : Consumes left now input
  pub bounded : IsBounded input
  pub whole : fault ≡ None → octets_told now ≡ []
  pub events : contents_of (input ++ octets_told now) ≡ record { events = titles past; fault = fault }

contents-end : (events : List (Moment × PlainEvent)) (fault : Option InputFault) → behind_events events (record { events = []; fault = fault }) ≡ record { events = events; fault = fault }
contents-end events fault i = record { events = append-nil events i; fault = fault }

pub end_told : (old new : Reading) (left mid now : Option (List ℕ)) (past : List Turn) → HasRead old left mid (titles past) → old.place.before ≤ INPUT_OCTETS → TakesEnd old new mid now → AllTold left now past None
end_told old new left mid now past h within t = record {
  input = h.taken;
  consumed = ended.0;
  bounded = let before = h.before in omega (arith, before, within);
  whole = λ none. nothing_left now ended.1;
  events =
      ap (λ (m : List ℕ). contents_of (h.taken ++ m)) (nothing_left now ended.1) ∙ h.says [] (λ unfed. refl)
      ∙ ap (behind_events (titles past)) t.says ∙ contents-end (titles past) None;
}
  where
    ended : Consumes left now h.taken × IsAtEnd now
    ended = elim t.ended [
      | inl done ↦ (
        subst (Consumes left now) (append-nil (h.taken ++ old.kept) ∙ ap (λ (k : List ℕ). h.taken ++ k) done.0 ∙ append-nil h.taken) (Consumes-trans left mid now (h.taken ++ old.kept) [] h.consumed done.1),
        done.2,
      )
      | inr before ↦
          elim h.whole [
            | inl fed ↦ absurd (let k : true ≡ false = sym before.0 ∙ fed.0 in cc)
            | inr none ↦ (
              subst (λ (l : Option (List ℕ)). Consumes left l h.taken) (sym before.1) (subst (Consumes left mid) (ap (λ (k : List ℕ). h.taken ++ k) none.1 ∙ append-nil h.taken) h.consumed),
              subst IsAtEnd (sym before.1) none.2,
            )
          ]
    ]

pub fault_told : (old : Reading) (left mid now : Option (List ℕ)) (past : List Turn) (found : InputFault) → HasRead old left mid (titles past) → old.unfed ≡ false → FindsFault old mid now found
    → AllTold left now past (Some found)
unfolding rest_told
fault_told old left mid now past found h going f = record {
  input = told.input;
  consumed = told.consumed;
  bounded = told.bounded;
  whole = λ none. absurd (cc);
  events =
      ap contents_of (append_assoc h.taken (old.kept ++ f.read) (octets_told now))
      ∙ h.says ((old.kept ++ f.read) ++ octets_told now) (λ unfed. absurd (let k : true ≡ false = sym unfed ∙ going in cc))
      ∙ ap (behind_events (titles past)) (f.says (octets_told now) (nothing_left now))
      ∙ contents-end (titles past) (Some found);
}
  where
    told : HaveTold left now past
    told = rest_told old left mid now past f.read h going f.reads

-- ---- the lines that were read whole

-- Octets that no line follows say no event more, and have no fault, where a line stands before them.
pub nothing_follows : (reading : Reading) (left now : Option (List ℕ)) (past : List Turn) → (h : HasRead reading left now (titles past)) → ((contents_of h.taken).events ≡ titles past) × (((contents_of h.taken).fault ≡ None) ⊎ (h.taken ≡ []))
unfolding contents_at lines_of
nothing_follows reading left now past h = (ap (λ (c : Contents). c.events) says ∙ ap (λ (e : List (Moment × PlainEvent)). titles past ++ e) (no_event reading.place) ∙ append-nil (titles past), by_place (reading.place.line == 1) refl)
  where
    says : contents_of h.taken ≡ behind_events (titles past) (contents_from reading.place [])
    says = ap contents_of (sym (append-nil h.taken)) ∙ h.says [] (λ unfed. refl)

    at_line : (first : Bool) (p : Place) → (if first then contents_of [] else contents_at (lines_of []) p).events ≡ []
    at_line true p = refl
    at_line false p = refl

    no_event : (p : Place) → (contents_from p []).events ≡ []
    no_event p = at_line (p.line == 1) p

    no_octets : (octets : List ℕ) → length octets ≡ 0 → octets ≡ []
    no_octets [] e = refl
    no_octets (c ∷ cs) e = absurd (omega (arith, e))

    by_place : (first : Bool) → (reading.place.line == 1) ≡ first → ((contents_of h.taken).fault ≡ None) ⊎ (h.taken ≡ [])
    by_place true e =
        let place : reading.place ≡ first_place = (h.fresh (eqb-true reading.place.line 1 e)).0 in
        inr (no_octets h.taken (sym h.before ∙ ap (λ (p : Place). p.before) place))
    by_place false e = inl (ap (λ (c : Contents). c.fault) says ∙ ap (λ (b : Bool). (if b then contents_of [] else contents_at (lines_of []) reading.place).fault) e)
