-- What is read of an event's words is spelled so by its row of the table, and what is spelled so is read.
use Rattle.std.proofs.Common.{◌≡◌, ℕ, ◌+◌, true, List, [], ◌∷◌, ◌++◌, length, Result, Ok, Err, refl, sym, ap, ◌∙◌, subst, append-nil, append_assoc}
use Rattle.std.proofs.lemmas.List.Folds.{list_all-append}
use Rattle.std.proofs.lemmas.Slice.Eq.{bytes_eq-Decides}
use Rattle.std.specs.List.{list_all}
use Rattle.std.specs.Str.{bytes_eq}
use Rattle.line_fields.specs.declared.fault.LineFault.{LineFault}
use Rattle.line_fields.specs.Words.{Cursor}
use Rattle.line_fields.specs.Fields.{◌>>=◌, behind_field, word_at, word_in}
use Rattle.line_fields.proofs.FieldLaws.{column_behind, ok_is, pick, then_words, walk}
use Rattle.line_fields.proofs.SpacelessLaws.{is_plain}
use Rattle.events.specs.Events.{PlainEvent, Cluster, Import, Join, Own, Draw, Crash, Send, Ask, Again, Sync, Ticket, Forget, Deliver, Alter, Cut, Inject}
use Rattle.events.specs.EventTable.{EventFields, Whole, Then, EventRow, again_row, alter_row, ask_row, cluster_row, crash_row, cut_row, deliver_row, draw_row, event_table, forget_row, import_row, inject_row, join_row, own_row, read_fields, read_row, send_row, sync_row, ticket_row}
use Rattle.events.specs.FilledRows.{FilledRow, Filled, Values, event_of, event_words, filled_row, row_words, value_words}
use Rattle.events.specs.Ranges.{AreWithinRanges, Fits, IsMadeBy}
use Rattle.event_text.specs.Reading.{event_at}
use Rattle.event_text.proofs.KindLaws.{IsKind, datagram_kind, domain_name_kind, end_kind, esp_keys_kind, esp_spi_kind, identity_kind, ike_keys_kind, key_size_kind, lifetime_kind, medium_kind, member_kind, message_id_kind, octet_kind, octets_kind, place_kind, spi_kind, starts_kind, ticket_key_kind, window_kind}

-- ---- fields in a row

AreKinds : EventFields → Type 0
AreKinds (Whole event) = Unit {0}
AreKinds (Then kind rest) = IsKind kind × ((x : _) → AreKinds (rest x))

-- an event was read: the words that stood there spell values in their ranges, which make it
record IsRead (fields : EventFields) (s : Cursor) (y : PlainEvent × Cursor) : Type 0 where
  values : Values fields
  words : s.words ≡ value_words fields values ++ y.1.words
  ranges : AreWithinRanges fields values
  made : event_of fields values ≡ y.0

fields_take : (fields : EventFields) → AreKinds fields → (s : Cursor) (y : PlainEvent × Cursor) → read_fields fields s ≡ Ok y → IsRead fields s y
unfolding AreKinds
fields_take (Whole event) kinds s y e =
    let same = ok_is (event, s) y e in
    record { values = tt; words = ap (λ (q : PlainEvent × Cursor). q.1.words) same; ranges = tt; made = ap (λ (q : PlainEvent × Cursor). q.0) same }
fields_take (Then kind rest) kinds s y e =
    walk kinds.0.reads s (λ x. read_fields (rest x.0) x.1) y e (λ x t w f e1.
    let others = fields_take (rest x) (kinds.1 x) t y e1 in
    record {
      values = (x, others.values);
      words = then_words (kind.text x) w others.words ∙ sym (append_assoc (kind.text x) (value_words (rest x) others.values) y.1.words);
      ranges = (f, others.ranges);
      made = others.made;
    })

column_behind-append : (c : ℕ) (xs ys : List (List ℕ)) → column_behind (column_behind c xs) ys ≡ column_behind c (xs ++ ys)
column_behind-append c [] ys = refl
column_behind-append c (x ∷ xs) ys = column_behind-append (c + length x + 1) xs ys

fields_again : (fields : EventFields) → AreKinds fields → (values : Values fields) → AreWithinRanges fields values → (c : ℕ) (ws : List (List ℕ))
    → read_fields fields (record { column = c; words = value_words fields values ++ ws })
    ≡ Ok (event_of fields values, record { column = column_behind c (value_words fields values); words = ws })
unfolding AreKinds
fields_again (Whole event) kinds values h c ws = refl
fields_again (Then kind rest) kinds values h c ws =
    let others = value_words (rest values.0) values.1 in
    rw (
      append_assoc (kind.text values.0) others ws,
      kinds.0.reads.again values.0 h.0 c (others ++ ws),
      ← column_behind-append c (kind.text values.0) others,
    )
    (fields_again (rest values.0) (kinds.1 values.0) values.1 h.1 (column_behind c (kind.text values.0)) ws)

fields_plain : (fields : EventFields) → AreKinds fields → (values : Values fields) → AreWithinRanges fields values → list_all is_plain (value_words fields values) ≡ true
unfolding AreKinds
fields_plain (Whole event) kinds values h = refl
fields_plain (Then kind rest) kinds values h =
    rw (list_all-append is_plain (kind.text values.0) (value_words (rest values.0) values.1), kinds.0.plain values.0 h.0)
    (fields_plain (rest values.0) (kinds.1 values.0) values.1 h.1)

-- ---- the table

send_kinds : AreKinds send_row.fields
unfolding AreKinds
send_kinds = (end_kind, λ from. (spi_kind, λ spir. (octets_kind 0 1400, λ payload. tt)))

ask_kinds : AreKinds ask_row.fields
unfolding AreKinds
ask_kinds = (end_kind, λ from. (spi_kind, λ spir. (octets_kind 0 256, λ request. tt)))

inject_kinds : AreKinds inject_row.fields
unfolding AreKinds
inject_kinds = (end_kind, λ to. (medium_kind, λ medium. (octets_kind 0 2048, λ octets. tt)))

cluster_kinds : AreKinds cluster_row.fields
unfolding AreKinds
cluster_kinds = (domain_name_kind, λ identity. (lifetime_kind, λ lifetime. (window_kind, λ window. (ticket_key_kind, λ key. tt))))

import_kinds : AreKinds import_row.fields
unfolding AreKinds
import_kinds = (
  spi_kind,
  λ spii. (
    spi_kind,
    λ spir. (
      key_size_kind,
      λ size. (
        identity_kind,
        λ identity. (
          ike_keys_kind size,
          λ keys.
              (esp_spi_kind, λ spi_in. (esp_spi_kind, λ spi_out. (esp_keys_kind size, λ child. (starts_kind, λ starts. tt)))),
        ),
      ),
    ),
  ),
)

join_kinds : AreKinds join_row.fields
unfolding AreKinds
join_kinds = (octets_kind 24 24, λ fresh. tt)

own_kinds : AreKinds own_row.fields
unfolding AreKinds
own_kinds = (member_kind, λ member. (spi_kind, λ spir. tt))

draw_kinds : AreKinds draw_row.fields
unfolding AreKinds
draw_kinds = (member_kind, λ member. (spi_kind, λ spir. tt))

crash_kinds : AreKinds crash_row.fields
unfolding AreKinds
crash_kinds = (member_kind, λ member. tt)

again_kinds : AreKinds again_row.fields
unfolding AreKinds
again_kinds = (end_kind, λ from. (spi_kind, λ spir. (message_id_kind, λ id. tt)))

sync_kinds : AreKinds sync_row.fields
unfolding AreKinds
sync_kinds = (member_kind, λ member. (spi_kind, λ spir. tt))

ticket_kinds : AreKinds ticket_row.fields
unfolding AreKinds
ticket_kinds = (spi_kind, λ spir. tt)

forget_kinds : AreKinds forget_row.fields
unfolding AreKinds
forget_kinds = (spi_kind, λ spir. tt)

deliver_kinds : AreKinds deliver_row.fields
unfolding AreKinds
deliver_kinds = (datagram_kind, λ which. (end_kind, λ to. tt))

alter_kinds : AreKinds alter_row.fields
unfolding AreKinds
alter_kinds = (datagram_kind, λ which. (end_kind, λ to. (place_kind, λ place. (octet_kind, λ octet. tt))))

cut_kinds : AreKinds cut_row.fields
unfolding AreKinds
cut_kinds = (datagram_kind, λ which. (end_kind, λ to. (place_kind, λ keep. tt)))

-- The event that a row makes of values is spelled by them, and fits where they are in their ranges.
-- The row is the one that its word finds in the table.
record IsRow (row : EventRow) : Type 0 where
  kinds : AreKinds row.fields
  spelled : (values : Values row.fields) → event_words (event_of row.fields values) ≡ row.word ∷ value_words row.fields values
  fits : (values : Values row.fields) → AreWithinRanges row.fields values → Fits (event_of row.fields values)
  found : (c : ℕ) (s : Cursor) → read_row event_table c row.word s ≡ read_fields row.fields s
  plain : is_plain row.word ≡ true

send_is : IsRow send_row
send_is = record { kinds = send_kinds; spelled = λ v. refl; fits = λ v h. record { ranges = h; made = refl }; found = λ c s. refl; plain = refl }

ask_is : IsRow ask_row
ask_is = record { kinds = ask_kinds; spelled = λ v. refl; fits = λ v h. record { ranges = h; made = refl }; found = λ c s. refl; plain = refl }

inject_is : IsRow inject_row
inject_is = record { kinds = inject_kinds; spelled = λ v. refl; fits = λ v h. record { ranges = h; made = refl }; found = λ c s. refl; plain = refl }

cluster_is : IsRow cluster_row
cluster_is = record { kinds = cluster_kinds; spelled = λ v. refl; fits = λ v h. record { ranges = h; made = refl }; found = λ c s. refl; plain = refl }

import_is : IsRow import_row
import_is = record { kinds = import_kinds; spelled = λ v. refl; fits = λ v h. record { ranges = h; made = refl }; found = λ c s. refl; plain = refl }

join_is : IsRow join_row
join_is = record { kinds = join_kinds; spelled = λ v. refl; fits = λ v h. record { ranges = h; made = refl }; found = λ c s. refl; plain = refl }

own_is : IsRow own_row
own_is = record { kinds = own_kinds; spelled = λ v. refl; fits = λ v h. record { ranges = h; made = refl }; found = λ c s. refl; plain = refl }

draw_is : IsRow draw_row
draw_is = record { kinds = draw_kinds; spelled = λ v. refl; fits = λ v h. record { ranges = h; made = refl }; found = λ c s. refl; plain = refl }

crash_is : IsRow crash_row
crash_is = record { kinds = crash_kinds; spelled = λ v. refl; fits = λ v h. record { ranges = h; made = refl }; found = λ c s. refl; plain = refl }

again_is : IsRow again_row
again_is = record { kinds = again_kinds; spelled = λ v. refl; fits = λ v h. record { ranges = h; made = refl }; found = λ c s. refl; plain = refl }

sync_is : IsRow sync_row
sync_is = record { kinds = sync_kinds; spelled = λ v. refl; fits = λ v h. record { ranges = h; made = refl }; found = λ c s. refl; plain = refl }

ticket_is : IsRow ticket_row
ticket_is = record { kinds = ticket_kinds; spelled = λ v. refl; fits = λ v h. record { ranges = h; made = refl }; found = λ c s. refl; plain = refl }

forget_is : IsRow forget_row
forget_is = record { kinds = forget_kinds; spelled = λ v. refl; fits = λ v h. record { ranges = h; made = refl }; found = λ c s. refl; plain = refl }

deliver_is : IsRow deliver_row
deliver_is = record { kinds = deliver_kinds; spelled = λ v. refl; fits = λ v h. record { ranges = h; made = refl }; found = λ c s. refl; plain = refl }

alter_is : IsRow alter_row
alter_is = record { kinds = alter_kinds; spelled = λ v. refl; fits = λ v h. record { ranges = h; made = refl }; found = λ c s. refl; plain = refl }

cut_is : IsRow cut_row
cut_is = record { kinds = cut_kinds; spelled = λ v. refl; fits = λ v h. record { ranges = h; made = refl }; found = λ c s. refl; plain = refl }

AreRows : List EventRow → Type 0
AreRows [] = Unit {0}
AreRows (row ∷ rows) = IsRow row × AreRows rows

table_rows : AreRows event_table
unfolding AreRows
table_rows = (send_is, (ask_is, (inject_is, (cluster_is, (import_is, (join_is, (own_is, (draw_is, (crash_is, (again_is, (sync_is, (ticket_is, (forget_is, (deliver_is, (alter_is, (cut_is, tt))))))))))))))))

HasRow : FilledRow → Type 0
HasRow (Filled row values) = IsRow row

event_row : (event : PlainEvent) → HasRow (filled_row event)
unfolding HasRow
event_row (Cluster identity lifetime window key) = cluster_is
event_row (Import a) = import_is
event_row (Join fresh) = join_is
event_row (Own member spir) = own_is
event_row (Draw member spir) = draw_is
event_row (Crash member) = crash_is
event_row (Send from spir payload) = send_is
event_row (Ask from spir request) = ask_is
event_row (Again from spir id) = again_is
event_row (Sync member spir) = sync_is
event_row (Ticket spir) = ticket_is
event_row (Forget spir) = forget_is
event_row (Deliver which to) = deliver_is
event_row (Alter which to place octet) = alter_is
event_row (Cut which to keep) = cut_is
event_row (Inject to medium octets) = inject_is

-- ---- events

rows_take : (rows : List EventRow) → AreRows rows → (c : ℕ) (w : List ℕ) (s : Cursor) (y : PlainEvent × Cursor)
    → read_row rows c w s ≡ Ok y → (w ∷ s.words ≡ event_words y.0 ++ y.1.words) × Fits y.0
unfolding AreRows
rows_take [] h c w s y e = absurd cc
rows_take (row ∷ rows) h c w s y e =
    pick (bytes_eq w row.word) _ _ _ e
    (λ hit same.
    let read = fields_take row.fields h.0.kinds s y same in
    let word = ap (λ (v : List ℕ). v ∷ s.words) ((bytes_eq-Decides w row.word).0 hit) in
    let words = ap (λ (t : List (List ℕ)). row.word ∷ t) read.words in
    let spelled = ap (λ (t : List (List ℕ)). t ++ y.1.words) (sym (h.0.spelled read.values)) in
    subst (λ (event : PlainEvent). (w ∷ s.words ≡ event_words event ++ y.1.words) × Fits event) read.made
    (word ∙ words ∙ spelled, h.0.fits read.values read.ranges))
    (λ _ others. rows_take rows h.1 c w s y others)

-- a step was run, and then the rest
pub after : {A B P : Type 0} (r : Result A LineFault) (k : A → Result B LineFault) (y : B) → (r >>= k) ≡ Ok y → ((x : A) → r ≡ Ok x → k x ≡ Ok y → P) → P
after (Err f) k y e go = absurd cc
after (Ok x) k y e go = go x refl e

word_is : (c : ℕ) (ws : List (List ℕ)) (p : List ℕ × Cursor) → word_in c ws ≡ Ok p → ws ≡ p.0 ∷ p.1.words
word_is c [] p e = absurd cc
word_is c (v ∷ vs) p e = ap (λ (q : List ℕ × Cursor). q.0 ∷ q.1.words) (ok_is (v, behind_field c v vs) p e)

pub event_takes : (s : Cursor) (y : PlainEvent × Cursor) → event_at s ≡ Ok y → (s.words ≡ event_words y.0 ++ y.1.words) × Fits y.0
unfolding event_at
event_takes s y e =
    after (word_at s) (λ w. read_row event_table s.column w.0 w.1) y e (λ w found rest.
    let taken = rows_take event_table table_rows s.column w.0 w.1 y rest in
    (word_is s.column s.words w found ∙ taken.0, taken.1))

filled_again : (filled : FilledRow) → HasRow filled → (e : PlainEvent) → IsMadeBy filled e → (c : ℕ)
    → event_at (record { column = c; words = row_words filled }) ≡ Ok (e, record { column = column_behind c (row_words filled); words = [] })
unfolding event_at HasRow
filled_again (Filled row values) is e fits c =
    let words = value_words row.fields values in
    let behind = c + length row.word + 1 in
    let read = fields_again row.fields is.kinds values fits.ranges behind [] in
    is.found c (record { column = behind; words = words })
    ∙ (rw (append-nil words) at read)
    ∙ ap (λ (d : PlainEvent). Ok (d, record { column = column_behind behind words; words = [] })) fits.made

pub event_again : (e : PlainEvent) → Fits e → (c : ℕ)
    → event_at (record { column = c; words = event_words e }) ≡ Ok (e, record { column = column_behind c (event_words e); words = [] })
event_again e fits c = filled_again (filled_row e) (event_row e) e fits c

filled_plain : (filled : FilledRow) → HasRow filled → (e : PlainEvent) → IsMadeBy filled e → list_all is_plain (row_words filled) ≡ true
unfolding HasRow
filled_plain (Filled row values) is e fits = rw is.plain (fields_plain row.fields is.kinds values fits.ranges)

-- no word of an event has a space
pub event_plain : (e : PlainEvent) → Fits e → list_all is_plain (event_words e) ≡ true
event_plain e fits = filled_plain (filled_row e) (event_row e) e fits
