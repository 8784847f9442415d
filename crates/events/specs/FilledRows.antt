-- Events as rows of the table, filled in, and the words of their lines.
use Rattle.std.specs.Prelude.{ℕ, List, [], ◌∷◌, ◌++◌}
use Rattle.events.specs.Events.{PlainEvent, Cluster, Import, Join, Own, Draw, Crash, Send, Ask, Again, Sync, Ticket, Forget, Deliver, Alter, Cut, Inject}
use Rattle.events.specs.EventTable.{EventFields, Whole, Then, EventRow, again_row, alter_row, ask_row, cluster_row, crash_row, cut_row, deliver_row, draw_row, forget_row, import_row, inject_row, join_row, own_row, send_row, sync_row, ticket_row}

-- a value for each field
abbrev pub Values : EventFields → Type 0
Values (Whole event) = Unit {0}
Values (Then {A = A} kind rest) = (x : A) × Values (rest x)

-- the event that values make
abbrev pub event_of : (fields : EventFields) → Values fields → PlainEvent
event_of (Whole event) values = event
event_of (Then kind rest) values = event_of (rest values.0) values.1

-- the words of values
abbrev pub value_words : (fields : EventFields) → Values fields → List (List ℕ)
value_words (Whole event) values = []
value_words (Then kind rest) values = kind.text values.0 ++ value_words (rest values.0) values.1

-- a row, filled with a value for each of its fields
pub data FilledRow : Type 1 where
  Filled : (row : EventRow) → Values row.fields → FilledRow

-- a function that takes a value for each field, one after another
abbrev pub Curried : EventFields → Type 1 → Type 1
Curried (Whole event) R = R
Curried (Then {A = A} kind rest) R = (x : A) → Curried (rest x) R

-- a function of all values, which takes them one after another
abbrev pub curry : {R : Type 1} → (fields : EventFields) → (Values fields → R) → Curried fields R
curry (Whole event) f = f tt
curry (Then kind rest) f = λ x. curry (rest x) (λ values. f (x, values))

-- a row takes a value for each of its fields, in their order
abbrev pub fill : (row : EventRow) → Curried row.fields FilledRow
fill row = curry row.fields (λ values. Filled row values)

-- each event as its row, filled in
abbrev pub filled_row : PlainEvent → FilledRow
filled_row (Cluster identity lifetime window ticket_key) =
    fill cluster_row identity lifetime window ticket_key
filled_row (Import a) =
    fill import_row a.spii a.spir a.size a.identity a.keys a.spi_in a.spi_out a.child a.starts
filled_row (Join fresh) = fill join_row fresh
filled_row (Own member spir) = fill own_row member spir
filled_row (Draw member spir) = fill draw_row member spir
filled_row (Crash member) = fill crash_row member
filled_row (Send from spir payload) = fill send_row from spir payload
filled_row (Ask from spir request) = fill ask_row from spir request
filled_row (Again from spir id) = fill again_row from spir id
filled_row (Sync member spir) = fill sync_row member spir
filled_row (Ticket spir) = fill ticket_row spir
filled_row (Forget spir) = fill forget_row spir
filled_row (Deliver which to) = fill deliver_row which to
filled_row (Alter which to place octet) = fill alter_row which to place octet
filled_row (Cut which to keep) = fill cut_row which to keep
filled_row (Inject to medium octets) = fill inject_row to medium octets

abbrev pub row_words : FilledRow → List (List ℕ)
row_words (Filled row values) = row.word ∷ value_words row.fields values

-- the event's word and those of its fields
abbrev pub event_words : PlainEvent → List (List ℕ)
event_words event = row_words (filled_row event)
