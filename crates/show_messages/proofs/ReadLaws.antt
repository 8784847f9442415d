-- What was read of an input, and the text of its messages.
use Rattle.std.proofs.Common.{◌≡◌, ℕ, ◌+◌, ◌≤◌, true, false, List, [], ◌∷◌, ◌++◌, length, Option, Some, None, Result, refl, sym, ap, ◌∙◌, subst, append_assoc, append-nil, length-append, arith, inl, inr}
use Rattle.std.proofs.KnownBytes.{Appends-trans, Consumes-nil, Consumes-trans}
use Rattle.std.specs.Io.KnownBytes.{Appends, Consumes, IsAtEnd}
use Rattle.std.specs.List.{flat_map}
use Rattle.call_ends.specs.Jobs.{IsBounded}
use Rattle.call_ends.specs.Outside.{octets_told}
use Rattle.ha_base.specs.declared.limits.TheConstants.{INPUT_OCTETS}
use Rattle.input_lines.specs.Lines.{with_line_feeds}
use Rattle.input_lines.specs.declared.fault.InputFault.{InputFault}
use Rattle.line_fields.specs.Octets.{decoded}
use Rattle.message_text.specs.Shown.{shown}
use Rattle.show_messages.proofs.PieceLaws.{end_says}
use Rattle.show_messages.specs.Messages.{Messages, messages_of}
use Rattle.show_messages.specs.Pieces.{FindsFault, HasRead, IsNew, Reading, ReadsOn, Takes, TakesEnd, TakesLine, behind_messages, message_of, messages_from, messages_in, with_messages}
use Rattle.show_messages.specs.declared.lines.Line.{Line}
use Rattle.show_messages.specs.declared.lines.Line.TheVariants as line
use Rattle.show_messages.specs.declared.lines.Place.{Place}
use Rattle.show_messages.specs.declared.lines.TakeFault.{TakeFault}

-- nothing was read
none_read : (reading : Reading) (left : Option (List ℕ)) → IsNew reading → HasRead reading left left []
none_read reading left new = record {
  taken = [];
  consumed = subst (Consumes left left) (sym new.kept) (Consumes-nil left);
  whole = inl (new.unfed, [], refl);
  says = λ more none. ap (λ (p : Place). behind_messages [] (messages_from p more)) (sym new.place);
  before = ap (λ (p : Place). p.before) new.place;
  kept = let empty : length reading.kept ≡ 0 = ap length new.kept in omega (arith, empty);
}

behind_messages-on : (messages : List (List ℕ)) (said : Line) (text : List ℕ) (rest : Messages) → behind_messages messages (with_messages (message_of said text) rest) ≡ behind_messages (messages ++ messages_in said text) rest
behind_messages-on messages line.End text rest i = record { messages = sym (ap (λ e. e ++ rest.messages) (append-nil messages)) i; fault = rest.fault }
behind_messages-on messages line.Passed text rest i = record { messages = sym (ap (λ e. e ++ rest.messages) (append-nil messages)) i; fault = rest.fault }
behind_messages-on messages line.Message text rest i = record { messages = sym (append_assoc messages (decoded text ∷ []) rest.messages) i; fault = rest.fault }

fed-more : (lines : List (List ℕ)) (text : List ℕ) → with_line_feeds (lines ++ text ∷ []) ≡ with_line_feeds lines ++ (text ++ 10 ∷ [])
fed-more [] text = refl
fed-more (l ∷ lines) text = ap (λ (t : List ℕ). l ++ (10 ∷ t)) (fed-more lines text) ∙ sym (append_assoc l (10 ∷ with_line_feeds lines) (text ++ 10 ∷ []))

-- one more line was taken
line_read : (old new : Reading) (left mid now : Option (List ℕ)) (messages : List (List ℕ)) (said : Line) → HasRead old left mid messages → TakesLine old new mid now said
    → HasRead new left now (messages ++ messages_in said new.text)
line_read old new left mid now messages said h t = record {
  taken = h.taken ++ t.line;
  consumed = subst (Consumes left now) octets (Consumes-trans left mid now (h.taken ++ old.kept) t.read h.consumed t.consumed);
  whole = elim t.whole [
    | inl fed ↦
        elim h.whole [
          | inl before ↦
              inl (fed.1, before.1 ++ fed.0.0 ∷ [], ap (λ (a : List ℕ). a ++ t.line) before.2 ∙ ap (λ (b : List ℕ). with_line_feeds before.1 ++ b) fed.0.1 ∙ sym (fed-more before.1 fed.0.0))
          | inr ended ↦ absurd (let k : true ≡ false = sym ended.0 ∙ t.going in cc)
        ]
    | inr ended ↦ inr ended
  ];
  says = λ more none.
      ap messages_of (append_assoc h.taken t.line more)
      ∙ h.says (t.line ++ more) (λ unfed. absurd (let k : true ≡ false = sym unfed ∙ t.going in cc))
      ∙ ap (behind_messages messages) (t.says more none)
      ∙ behind_messages-on messages said new.text (messages_from new.place more);
  before = t.before ∙ ap (λ (n : ℕ). n + length t.line) h.before ∙ sym (length-append h.taken t.line);
  kept = t.kept;
}
  where
    octets : (h.taken ++ old.kept) ++ t.read ≡ (h.taken ++ t.line) ++ new.kept
    octets = append_assoc h.taken old.kept t.read ∙ ap (λ (b : List ℕ). h.taken ++ b) t.parts ∙ sym (append_assoc h.taken t.line new.kept)

-- ---- what was shown

-- An input was read up to here, and the text of its messages stands on the output.
pub record IsShowing (reading : Reading) (left now_left written now_written : Option (List ℕ)) : Type 0 where
  pub messages : List (List ℕ)
  pub has_read : HasRead reading left now_left messages
  pub within : reading.place.before ≤ INPUT_OCTETS
  pub counted : reading.place.count ≡ length messages
  pub wrote : Appends written now_written (flat_map shown messages)

pub showing_begun : (reading : Reading) (left written : Option (List ℕ)) → IsNew reading → Appends written written [] → IsShowing reading left left written written
showing_begun reading left written new wrote = record {
  messages = [];
  has_read = none_read reading left new;
  within = let none : reading.place.before ≡ 0 = ap (λ (p : Place). p.before) new.place in omega (arith, none);
  counted = ap (λ (p : Place). p.count) new.place;
  wrote = wrote;
}

pub line_passed : (old new : Reading) (left mid now written now_written : Option (List ℕ)) → IsShowing old left mid written now_written → TakesLine old new mid now line.Passed → IsShowing new left now written now_written
line_passed old new left mid now written now_written p t = record {
  messages = p.messages;
  has_read = subst (HasRead new left now) (append-nil p.messages) (line_read old new left mid now p.messages line.Passed p.has_read t);
  within = t.within;
  counted = t.count ∙ p.counted;
  wrote = p.wrote;
}

pub flat_map-more : (messages : List (List ℕ)) (message : List ℕ) → flat_map shown messages ++ shown message ≡ flat_map shown (messages ++ message ∷ [])
flat_map-more [] message = sym (append-nil (shown message))
flat_map-more (m ∷ messages) message = append_assoc (shown m) (flat_map shown messages) (shown message) ∙ ap (λ (t : List ℕ). shown m ++ t) (flat_map-more messages message)

length_more : (messages : List (List ℕ)) (message : List ℕ) → length messages + 1 ≡ length (messages ++ message ∷ [])
length_more messages message = sym (length-append messages (message ∷ []))

pub message_read : (old new : Reading) (left mid now : Option (List ℕ)) (messages : List (List ℕ)) → HasRead old left mid messages → TakesLine old new mid now line.Message → HasRead new left now (messages ++ decoded new.text ∷ [])
message_read old new left mid now messages h t = line_read old new left mid now messages line.Message h t

pub line_shown : (old new : Reading) (left mid now written mid_written now_written : Option (List ℕ)) → IsShowing old left mid written mid_written → TakesLine old new mid now line.Message
    → Appends mid_written now_written (shown (decoded new.text)) → IsShowing new left now written now_written
line_shown old new left mid now written mid_written now_written p t wrote = record {
  messages = p.messages ++ decoded new.text ∷ [];
  has_read = message_read old new left mid now p.messages p.has_read t;
  within = t.within;
  counted = t.count ∙ ap (λ (n : ℕ). n + 1) p.counted ∙ length_more p.messages (decoded new.text);
  wrote = subst (Appends written now_written) (flat_map-more p.messages (decoded new.text)) (Appends-trans written mid_written now_written (flat_map shown p.messages) (shown (decoded new.text)) p.wrote wrote);
}

-- ---- what the octets that were read say

-- Octets were read of an input whose first messages are these.
pub record HaveTold (left now : Option (List ℕ)) (messages : List (List ℕ)) : Type 0 where
  pub input : List ℕ
  pub consumed : Consumes left now input
  pub bounded : IsBounded input
  pub rest : Messages
  pub holds : messages_of (input ++ octets_told now) ≡ behind_messages messages rest

pub nothing_told : (left : Option (List ℕ)) → HaveTold left left []
nothing_told left = record { input = []; consumed = Consumes-nil left; bounded = omega arith; rest = messages_of (octets_told left); holds = refl }

nothing_left : (left : Option (List ℕ)) → IsAtEnd left → octets_told left ≡ []
nothing_left None at_end = refl
nothing_left (Some xs) at_end = at_end

-- those up to the end of a line
pub lines_told : (reading : Reading) (left now : Option (List ℕ)) (messages : List (List ℕ)) → HasRead reading left now messages → reading.place.before ≤ INPUT_OCTETS → HaveTold left now messages
lines_told reading left now messages h within = record {
  input = h.taken ++ reading.kept;
  consumed = h.consumed;
  bounded = let sum = length-append h.taken reading.kept in let before = h.before in let kept = h.kept in omega (arith, sum, before, kept, within);
  rest = messages_from reading.place (reading.kept ++ octets_told now);
  holds = ap messages_of (append_assoc h.taken reading.kept (octets_told now)) ∙ h.says (reading.kept ++ octets_told now) follows;
}
  where
    follows : reading.unfed ≡ true → reading.kept ++ octets_told now ≡ []
    follows unfed = elim h.whole [
      | inl fed ↦ absurd (let k : true ≡ false = sym unfed ∙ fed.0 in cc)
      | inr ended ↦ ap (λ (k : List ℕ). k ++ octets_told now) ended.1 ∙ nothing_left now ended.2
    ]

-- those behind a line
unfoldable pub rest_told : (reading : Reading) (left mid now : Option (List ℕ)) (messages : List (List ℕ)) (read : List ℕ) → HasRead reading left mid messages → reading.unfed ≡ false → ReadsOn reading mid now read
    → HaveTold left now messages
rest_told reading left mid now messages read h going r = record {
  input = h.taken ++ (reading.kept ++ read);
  consumed = subst (Consumes left now) (append_assoc h.taken reading.kept read) (Consumes-trans left mid now (h.taken ++ reading.kept) read h.consumed r.consumed);
  bounded = let sum = length-append h.taken (reading.kept ++ read) in let before = h.before in let bound = r.bounded in omega (arith, sum, before, bound);
  rest = messages_from reading.place ((reading.kept ++ read) ++ octets_told now);
  holds =
      ap messages_of (append_assoc h.taken (reading.kept ++ read) (octets_told now))
      ∙ h.says ((reading.kept ++ read) ++ octets_told now) (λ unfed. absurd (let k : true ≡ false = sym unfed ∙ going in cc));
}

-- All was read, or all up to the first fault: these are all messages.
pub record AllTold (left now : Option (List ℕ)) (messages : List (List ℕ)) (fault : Option InputFault) : Type 0 where
  pub input : List ℕ
  pub consumed : Consumes left now input
  pub bounded : IsBounded input
  pub whole : fault ≡ None → octets_told now ≡ []
  pub holds : messages_of (input ++ octets_told now) ≡ record { messages = messages; fault = fault }

messages-end : (messages : List (List ℕ)) (fault : Option InputFault) → behind_messages messages (record { messages = []; fault = fault }) ≡ record { messages = messages; fault = fault }
messages-end messages fault i = record { messages = append-nil messages i; fault = fault }

pub end_told : (old new : Reading) (left mid now : Option (List ℕ)) (messages : List (List ℕ)) → HasRead old left mid messages → old.place.before ≤ INPUT_OCTETS → TakesEnd old new mid now → AllTold left now messages None
end_told old new left mid now messages h within t = record {
  input = h.taken;
  consumed = ended.0;
  bounded = let before = h.before in omega (arith, before, within);
  whole = λ none. nothing_left now ended.1;
  holds =
      ap (λ (m : List ℕ). messages_of (h.taken ++ m)) (nothing_left now ended.1) ∙ h.says [] (λ unfed. refl)
      ∙ ap (behind_messages messages) (end_says old.place) ∙ messages-end messages None;
}
  where
    ended : Consumes left now h.taken × IsAtEnd now
    ended = elim t.ended [
      | inl done ↦ (
        subst (Consumes left now) (append-nil (h.taken ++ old.kept) ∙ ap (λ (k : List ℕ). h.taken ++ k) done.0 ∙ append-nil h.taken) (Consumes-trans left mid now (h.taken ++ old.kept) [] h.consumed done.1),
        done.2,
      )
      | inr before ↦
          elim h.whole [
            | inl fed ↦ absurd (let k : true ≡ false = sym before.0 ∙ fed.0 in cc)
            | inr none ↦ (
              subst (λ (l : Option (List ℕ)). Consumes left l h.taken) (sym before.1) (subst (Consumes left mid) (ap (λ (k : List ℕ). h.taken ++ k) none.1 ∙ append-nil h.taken) h.consumed),
              subst IsAtEnd (sym before.1) none.2,
            )
          ]
    ]

pub fault_told : (old : Reading) (left mid now : Option (List ℕ)) (messages : List (List ℕ)) (found : InputFault) → HasRead old left mid messages → old.unfed ≡ false → FindsFault old mid now found
    → AllTold left now messages (Some found)
unfolding rest_told
fault_told old left mid now messages found h going f = record {
  input = told.input;
  consumed = told.consumed;
  bounded = told.bounded;
  whole = λ none. absurd (cc);
  holds =
      ap messages_of (append_assoc h.taken (old.kept ++ f.read) (octets_told now))
      ∙ h.says ((old.kept ++ f.read) ++ octets_told now) (λ unfed. absurd (let k : true ≡ false = sym unfed ∙ going in cc))
      ∙ ap (behind_messages messages) (f.says (octets_told now) (nothing_left now))
      ∙ messages-end messages (Some found);
}
  where
    told : HaveTold left now messages
    told = rest_told old left mid now messages f.read h going f.reads

-- Octets that no line follows hold no message more, and have no fault.
pub nothing_follows : (reading : Reading) (left now : Option (List ℕ)) (messages : List (List ℕ)) → (h : HasRead reading left now messages) → messages_of h.taken ≡ record { messages = messages; fault = None }
nothing_follows reading left now messages h = ap messages_of (sym (append-nil h.taken)) ∙ h.says [] (λ unfed. refl) ∙ ap (behind_messages messages) (end_says reading.place) ∙ messages-end messages None

-- what was taken, by what it is
pub taken-as : (old new : Reading) (left still_left : Option (List ℕ)) (faults now_faults : ℕ) (x y : Result Line TakeFault) → x ≡ y → Takes x old new left still_left faults now_faults
    → Takes y old new left still_left faults now_faults
taken-as old new left still_left faults now_faults x y same takes = subst (λ r. Takes r old new left still_left faults now_faults) same takes
