-- What showing makes of an input.
use Rattle.std.specs.Prelude.{◌≡◌, ◌⊎◌, ℕ, List, [], Option, None}
use Rattle.std.specs.List.{flat_map}
use Rattle.call_ends.specs.Outside.{IsFront}
use Rattle.call_ends.specs.Streaming.{Streaming}
use Rattle.input_lines.specs.declared.fault.InputFault.{InputFault}
use Rattle.message_text.specs.Shown.{shown}
use Rattle.show_messages.specs.Messages.{Messages, messages_of}
use Rattle.show_messages.specs.Pieces.{behind_messages}
use Rattle.show_messages.specs.Shows.{shown_all}

-- the text is that of an input's messages up to its first fault, where it has one, and the line of
-- their number
pub record IsShown (input : List ℕ) (fault : Option InputFault) (text : List ℕ) : Type 0 where
  pub first_fault : (messages_of input).fault ≡ fault
  pub written : text ≡ shown_all (messages_of input).messages

-- What was written of an input that was shown in part: a front of the text of its first messages,
-- or of the whole text, where no message is left before the first fault or the end.
pub record IsShownPart (input output : List ℕ) : Type 0 where
  pub messages : List (List ℕ)
  pub rest : Messages
  pub holds : messages_of input ≡ behind_messages messages rest
  pub front : IsFront output (flat_map shown messages)
      ⊎ ((rest.messages ≡ []) × IsFront output (shown_all messages))

-- what was written by the time that all these lines were shown, of which none is at fault
pub record IsShownSoFar (lines output : List ℕ) : Type 0 where
  pub faultless : (messages_of lines).fault ≡ None
  pub written : output ≡ flat_map shown (messages_of lines).messages

-- what showing makes of an input
abbrev pub showing : Streaming
showing = record {
  Makes = IsShown;
  Begins = λ broken input output. IsShownPart input output;
  Works = IsShownSoFar;
}
