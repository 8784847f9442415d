-- What a reader holds of messages that come in pieces, and what taking a line does.
use Rattle.std.specs.Prelude.{◌≡◌, ℕ, ◌+◌, ◌<◌, ◌≤◌, ◌⊎◌, List, [], ◌∷◌, ◌++◌, length, Bool, true, false, Option, Some, None, Result, Ok, Err}
use Rattle.std.specs.List.{list_all}
use Rattle.std.specs.Io.KnownBytes.{Consumes, IsAtEnd}
use Rattle.ha_base.specs.Faults.{Rose}
use Rattle.ha_base.specs.declared.limits.TheConstants.{INPUT_OCTETS, PIECE_OCTETS}
use Rattle.input_lines.specs.Lines.{lines_of, no_feed, with_line_feeds}
use Rattle.input_lines.specs.declared.fault.InputFault.{InputFault}
use Rattle.line_fields.specs.Octets.{decoded}
use Rattle.line_fields.specs.declared.fault.LineFault.{LineFault}
use Rattle.show_messages.specs.Messages.{Messages, messages_at, messages_of, with_message}
use Rattle.show_messages.specs.declared.lines.Line.{Line}
use Rattle.show_messages.specs.declared.lines.Line.TheVariants as line
use Rattle.show_messages.specs.declared.lines.TakeFault.{TakeFault}
use Rattle.show_messages.specs.declared.lines.TakeFault.TheVariants as fault
use Rattle.show_messages.specs.declared.lines.Place.{Place}

-- a reader: the line that was taken last, the octets that were read and are not taken, whether the
-- last line was taken without its line feed, and where the next line stands
pub record Reading : Type 0 where
  pub text : List ℕ
  pub kept : List ℕ
  pub unfed : Bool
  pub place : Place

-- what octets hold from a place on
abbrev pub messages_from : Place → List ℕ → Messages
messages_from p octets = messages_at (lines_of octets) p

-- where the first line stands
abbrev pub first_place : Place
first_place = record { line = 1; before = 0; count = 0 }

-- the message of a line that was taken, where it is one
abbrev pub message_of : Line → List ℕ → Option (List ℕ)
message_of line.Message text = Some (decoded text)
message_of other text = None

abbrev pub with_messages : Option (List ℕ) → Messages → Messages
with_messages None rest = rest
with_messages (Some message) rest = with_message message rest

abbrev pub messages_counted : ℕ → Line → ℕ
messages_counted count line.Message = count + 1
messages_counted count other = count

-- a line with its line feed
abbrev pub IsFed : List ℕ → Type 0
IsFed octets = (text : List ℕ) × (octets ≡ text ++ 10 ∷ []) × (list_all no_feed text ≡ true)

-- Nothing stands behind a line that was taken without its line feed.
abbrev pub MayFollow : Reading → List ℕ → Type 0
MayFollow reading more = reading.unfed ≡ true → more ≡ []

-- The next line was taken, with its line feed: of the octets that were kept and of those that were
-- read. What follows holds the same from the place behind it on.
pub record TakesLine (old new : Reading) (left still_left : Option (List ℕ)) (said : Line) : Type 0 where
  pub read : List ℕ
  pub line : List ℕ
  pub going : old.unfed ≡ false
  pub consumed : Consumes left still_left read
  pub parts : old.kept ++ read ≡ line ++ new.kept
  pub whole : (IsFed line × (new.unfed ≡ false))
      ⊎ ((new.unfed ≡ true) × (new.kept ≡ []) × IsAtEnd still_left)
  pub some : 0 < length line
  pub says : (more : List ℕ) → MayFollow new more
      → messages_from old.place (line ++ more)
      ≡ with_messages (message_of said new.text) (messages_from new.place more)
  pub before : new.place.before ≡ old.place.before + length line
  pub within : new.place.before ≤ INPUT_OCTETS
  pub kept : length new.kept ≤ PIECE_OCTETS
  pub count : new.place.count ≡ messages_counted old.place.count said

-- no line was left: the input is at its end
pub record TakesEnd (old new : Reading) (left still_left : Option (List ℕ)) : Type 0 where
  pub ended : ((old.kept ≡ []) × Consumes left still_left [] × IsAtEnd still_left)
      ⊎ ((old.unfed ≡ true) × (still_left ≡ left))

-- octets were read behind those that were kept, not more than an input may have and a piece
pub record ReadsOn (old : Reading) (left still_left : Option (List ℕ)) (read : List ℕ) : Type 0 where
  pub consumed : Consumes left still_left read
  pub bounded : old.place.before + length (old.kept ++ read) ≤ INPUT_OCTETS + PIECE_OCTETS

-- what stands from the place on begins with a fault
pub record FindsFault (old : Reading) (left still_left : Option (List ℕ)) (found : InputFault) : Type 0 where
  pub read : List ℕ
  pub reads : ReadsOn old left still_left read
  pub says : (more : List ℕ) → (IsAtEnd still_left → more ≡ [])
      → messages_from old.place ((old.kept ++ read) ++ more)
      ≡ record { messages = []; fault = Some found }

-- why no line was taken
abbrev pub StopsAt : TakeFault → Reading → (left still_left : Option (List ℕ)) → (faults now_faults : ℕ) → Type 0
StopsAt (fault.Input found) old left still_left faults now_faults =
    FindsFault old left still_left found × (old.unfed ≡ false) × (now_faults ≡ faults)
StopsAt fault.Source old left still_left faults now_faults =
    ((read : List ℕ) × ReadsOn old left still_left read × (list_all no_feed (old.kept ++ read) ≡ true))
    × (old.unfed ≡ false) × Rose faults now_faults

-- why the line of this number gave nothing
abbrev pub FailsAt : {A : Type 0} → TakeFault → ℕ → Result A LineFault → Type 0
FailsAt (fault.Input found) number read =
    (f : LineFault) × (read ≡ Err f)
    × (found ≡ record { line = number; column = f.column; reason = f.reason })
FailsAt fault.Source number read = ⊥

-- what was taken
abbrev pub Takes : Result Line TakeFault → (old new : Reading) → (left still_left : Option (List ℕ))
    → (faults now_faults : ℕ) → Type 0
Takes (Ok line.End) old new left still_left faults now_faults =
    TakesEnd old new left still_left × (now_faults ≡ faults)
Takes (Ok said) old new left still_left faults now_faults =
    TakesLine old new left still_left said × (now_faults ≡ faults)
Takes (Err why) old new left still_left faults now_faults = StopsAt why old left still_left faults now_faults

-- messages, and then what is left of an input
abbrev pub behind_messages : List (List ℕ) → Messages → Messages
behind_messages messages rest = record { messages = messages ++ rest.messages; fault = rest.fault }

-- the message of a line, in a list
abbrev pub messages_in : Line → List ℕ → List (List ℕ)
messages_in line.Message text = decoded text ∷ []
messages_in other text = []

-- An input was read up to here from its beginning: whole lines were taken, which have these
-- messages, and some octets are kept.
pub record HasRead (reading : Reading) (left still_left : Option (List ℕ)) (messages : List (List ℕ)) : Type 0 where
  pub taken : List ℕ
  pub consumed : Consumes left still_left (taken ++ reading.kept)
  pub whole : ((reading.unfed ≡ false) × (lines : List (List ℕ)) × (taken ≡ with_line_feeds lines))
      ⊎ ((reading.unfed ≡ true) × (reading.kept ≡ []) × IsAtEnd still_left)
  pub says : (more : List ℕ) → MayFollow reading more
      → messages_of (taken ++ more) ≡ behind_messages messages (messages_from reading.place more)
  pub before : reading.place.before ≡ length taken
  pub kept : length reading.kept ≤ PIECE_OCTETS

-- a reader of which nothing was read
pub record IsNew (reading : Reading) : Type 0 where
  pub kept : reading.kept ≡ []
  pub unfed : reading.unfed ≡ false
  pub place : reading.place ≡ first_place
