-- Reading the fields of a line from left to right, with the first fault that is met.
use Rattle.std.specs.Prelude.{◌≡◌, ℕ, ◌+◌, List, [], ◌∷◌, length, codes, Result, Ok, Err, if◌then◌else◌}
use Rattle.std.specs.Str.{bytes_eq}
use Rattle.ha_base.specs.declared.key_material.KeySize.{KeySize}
use Rattle.ha_base.specs.declared.key_material.KeySize.TheVariants.{Bits128, Bits256}
use Rattle.line_fields.specs.declared.fault.LineReason.{LineReason}
use Rattle.line_fields.specs.declared.fault.LineReason.TheVariants as reasons
use Rattle.line_fields.specs.declared.fault.LineFault.{LineFault}
use Rattle.line_fields.specs.Words.{Cursor}

infixl 10 ◌>>=◌
abbrev pub ◌>>=◌ : {A B : Type 0} → Result A LineFault → (A → Result B LineFault)
    → Result B LineFault
(Ok x) >>= f = f x
(Err e) >>= f = Err e

abbrev pub fault_at : ℕ → LineReason → LineFault
fault_at c r = record { column = c; reason = r }

-- What a reader gave, seen by view, and what it left are what reading gives, or its fault is.
abbrev pub Reads : {X Y : Type 0} → (X → Y) → Result X LineFault → Cursor
    → Result (Y × Cursor) LineFault → Type 0
Reads view (Ok x) new read = read ≡ Ok (view x, new)
Reads view (Err f) new read = read ≡ Err f

-- what is left behind a word
abbrev pub behind_field : ℕ → List ℕ → List (List ℕ) → Cursor
behind_field c w ws = record { column = c + length w + 1; words = ws }

abbrev pub word_in : ℕ → List (List ℕ) → Result (List ℕ × Cursor) LineFault
word_in c [] = Err (fault_at c reasons.Missing)
word_in c (w ∷ ws) = Ok (w, behind_field c w ws)

-- the next word
abbrev pub word_at : Cursor → Result (List ℕ × Cursor) LineFault
word_at s = word_in s.column s.words

abbrev pub end_in : ℕ → List (List ℕ) → Result Unit LineFault
end_in c [] = Ok tt
end_in c (w ∷ ws) = Err (fault_at c reasons.Extra)

-- no word is left
abbrev pub ended_at : Cursor → Result Unit LineFault
ended_at s = end_in s.column s.words

abbrev pub located : {A : Type 0} → ℕ → Result A LineReason → Result A LineFault
located c (Ok x) = Ok x
located c (Err r) = Err (fault_at c r)

-- A field is one word.
unfoldable pub field : {A : Type 0} → (List ℕ → Result A LineReason) → Cursor
    → Result (A × Cursor) LineFault
field read s = do
  w ← word_at s
  x ← located s.column (read w.0)
  Ok (x, w.1)

abbrev pub key_size_of : List ℕ → Result KeySize LineReason
key_size_of w = if bytes_eq w (codes "128") then Ok Bits128
    else if bytes_eq w (codes "256") then Ok Bits256 else Err reasons.Word

abbrev pub size_text : KeySize → List ℕ
size_text Bits128 = codes "128"
size_text Bits256 = codes "256"
