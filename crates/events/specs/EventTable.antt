-- The grammar of events: for each its word, and the kinds of its fields.
use Rattle.std.specs.Prelude.{ℕ, List, [], ◌∷◌, codes, Result, Ok, Err, if◌then◌else◌}
use Rattle.std.specs.Str.{bytes_eq}
use Rattle.ha_base.specs.declared.counter_names.Origin.TheVariants.{Imported}
use Rattle.ha_base.specs.declared.limits.TheConstants.{DATAGRAM_OCTETS, PAYLOAD_OCTETS}
use Rattle.ha_base.specs.declared.services.TheConstants.{LONGEST_REQUEST}
use Rattle.line_fields.specs.declared.fault.LineReason.TheVariants as reasons
use Rattle.line_fields.specs.declared.fault.LineFault.{LineFault}
use Rattle.line_fields.specs.Words.{Cursor}
use Rattle.line_fields.specs.Fields.{◌>>=◌, fault_at}
use Rattle.events.specs.Events.{PlainEvent, Cluster, Import, Join, Own, Draw, Crash, Send, Ask, Again, Sync, Ticket, Forget, Deliver, Alter, Cut, Inject}
use Rattle.events.specs.FieldKinds.{FieldKind, a_datagram, a_medium, an_end, any_identity, datagram_place, domain_name, esp_keys, esp_spi, five_starts, ike_keys, ike_spi, key_size, lifetime_seconds, member_number, message_id, octets_from, one_octet, ticket_key, window_size}

-- the kinds of an event's fields in their order, and the event that their values make
pub data EventFields : Type 1 where
  Whole : PlainEvent → EventFields
  Then : {A : Type 0} → FieldKind A → (A → EventFields) → EventFields

-- an event: its word and its fields
pub record EventRow : Type 1 where
  pub word : List ℕ
  pub fields : EventFields

abbrev pub send_row : EventRow
send_row = record {
  word = codes "send";
  fields =
      Then an_end (λ from.
      Then ike_spi (λ spir.
      Then (octets_from 0 PAYLOAD_OCTETS) (λ payload.
      Whole (Send from spir payload))));
}

abbrev pub ask_row : EventRow
ask_row = record {
  word = codes "ask";
  fields =
      Then an_end (λ from.
      Then ike_spi (λ spir.
      Then (octets_from 0 LONGEST_REQUEST) (λ request.
      Whole (Ask from spir request))));
}

abbrev pub inject_row : EventRow
inject_row = record {
  word = codes "inject";
  fields =
      Then an_end (λ to.
      Then a_medium (λ medium.
      Then (octets_from 0 DATAGRAM_OCTETS) (λ octets.
      Whole (Inject to medium octets))));
}

abbrev pub cluster_row : EventRow
cluster_row = record {
  word = codes "cluster";
  fields =
      Then domain_name (λ identity.
      Then lifetime_seconds (λ lifetime.
      Then window_size (λ window.
      Then ticket_key (λ key.
      Whole (Cluster identity lifetime window key)))));
}

abbrev pub import_row : EventRow
import_row = record {
  word = codes "import";
  fields =
      Then ike_spi (λ spii.
      Then ike_spi (λ spir.
      Then key_size (λ size.
      Then any_identity (λ identity.
      Then (ike_keys size) (λ keys.
      Then esp_spi (λ spi_in.
      Then esp_spi (λ spi_out.
      Then (esp_keys size) (λ child.
      Then five_starts (λ starts.
      Whole (Import (record {
        origin = Imported spir;
        spii = spii;
        spir = spir;
        size = size;
        identity = identity;
        keys = keys;
        spi_in = spi_in;
        spi_out = spi_out;
        child = child;
        starts = starts;
      })))))))))));
}

abbrev pub join_row : EventRow
join_row = record {
  word = codes "join";
  fields =
      Then (octets_from 24 24) (λ fresh.
      Whole (Join fresh));
}

abbrev pub own_row : EventRow
own_row = record {
  word = codes "own";
  fields =
      Then member_number (λ member.
      Then ike_spi (λ spir.
      Whole (Own member spir)));
}

abbrev pub draw_row : EventRow
draw_row = record {
  word = codes "draw";
  fields =
      Then member_number (λ member.
      Then ike_spi (λ spir.
      Whole (Draw member spir)));
}

abbrev pub crash_row : EventRow
crash_row = record {
  word = codes "crash";
  fields =
      Then member_number (λ member.
      Whole (Crash member));
}

abbrev pub again_row : EventRow
again_row = record {
  word = codes "again";
  fields =
      Then an_end (λ from.
      Then ike_spi (λ spir.
      Then message_id (λ id.
      Whole (Again from spir id))));
}

abbrev pub sync_row : EventRow
sync_row = record {
  word = codes "sync";
  fields =
      Then member_number (λ member.
      Then ike_spi (λ spir.
      Whole (Sync member spir)));
}

abbrev pub ticket_row : EventRow
ticket_row = record {
  word = codes "ticket";
  fields =
      Then ike_spi (λ spir.
      Whole (Ticket spir));
}

abbrev pub forget_row : EventRow
forget_row = record {
  word = codes "forget";
  fields =
      Then ike_spi (λ spir.
      Whole (Forget spir));
}

abbrev pub deliver_row : EventRow
deliver_row = record {
  word = codes "deliver";
  fields =
      Then a_datagram (λ which.
      Then an_end (λ to.
      Whole (Deliver which to)));
}

abbrev pub alter_row : EventRow
alter_row = record {
  word = codes "alter";
  fields =
      Then a_datagram (λ which.
      Then an_end (λ to.
      Then datagram_place (λ place.
      Then one_octet (λ octet.
      Whole (Alter which to place octet)))));
}

abbrev pub cut_row : EventRow
cut_row = record {
  word = codes "cut";
  fields =
      Then a_datagram (λ which.
      Then an_end (λ to.
      Then datagram_place (λ keep.
      Whole (Cut which to keep))));
}

-- all events
abbrev pub event_table : List EventRow
event_table =
    send_row
    ∷ ask_row
    ∷ inject_row
    ∷ cluster_row
    ∷ import_row
    ∷ join_row
    ∷ own_row
    ∷ draw_row
    ∷ crash_row
    ∷ again_row
    ∷ sync_row
    ∷ ticket_row
    ∷ forget_row
    ∷ deliver_row
    ∷ alter_row
    ∷ cut_row
    ∷ []

-- fields are read one after another
abbrev pub read_fields : EventFields → Cursor → Result (PlainEvent × Cursor) LineFault
read_fields (Whole event) s = Ok (event, s)
read_fields (Then kind rest) s = kind.reading s >>= λ x. read_fields (rest x.0) x.1

-- the event that a word names is read, by rows of a table; the word's column first
abbrev pub read_row : List EventRow → ℕ → List ℕ → Cursor → Result (PlainEvent × Cursor) LineFault
read_row [] c w s = Err (fault_at c reasons.Word)
read_row (row ∷ rows) c w s = if bytes_eq w row.word then read_fields row.fields s
    else read_row rows c w s
