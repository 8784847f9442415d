-- The kinds of fields of an event's line, each with its text, its range and its reading.
use Rattle.std.specs.Prelude.{ℕ, ◌^◌, ◌<◌, ◌≤◌, List, [], ◌∷◌, Result}
use Rattle.std.specs.Fmt.{decimal}
use Rattle.ha_base.specs.declared.identities.Identity.{Identity}
use Rattle.ha_base.specs.declared.key_material.KeySize.{KeySize}
use Rattle.ha_base.specs.declared.key_material.SaKeys.{SaKeys}
use Rattle.ha_base.specs.declared.key_material.ChildKeys.{ChildKeys}
use Rattle.ha_base.specs.declared.limits.TheConstants.{NUMBER_END}
use Rattle.keeper_book.specs.declared.counters.Five.{Five}
use Rattle.line_fields.specs.declared.fault.LineReason.{LineReason}
use Rattle.line_fields.specs.declared.fault.LineFault.{LineFault}
use Rattle.line_fields.specs.Words.{Cursor}
use Rattle.line_fields.specs.Numbers.{number_in_word}
use Rattle.line_fields.specs.Octets.{IsOctetField, esp_spi_of, esp_spi_text, octet_of, octets_text, sized, spi_in_word, spi_text}
use Rattle.line_fields.specs.Identities.{IsDomainName, IsIdentity, domain_name_of, identity_of, identity_text}
use Rattle.line_fields.specs.Fields.{field, key_size_of, size_text}
use Rattle.replay_set.specs.Window.{IsWindowSize}
use Rattle.events.specs.FieldRanges.{AreChildKeys, AreSaKeys, AreStarts, IsParty, IsTicketKey, IsWhich}
use Rattle.events.specs.declared.event.Party.{Party}
use Rattle.events.specs.declared.event.Which.{Which}
use Rattle.events.specs.declared.turn.Medium.{Medium}
use Rattle.events.specs.EventFields.{medium_of, member_in_word, party_of, ticket_key_of, which_of, window_in_word}
use Rattle.events.specs.KeyFields.{child_keys_at, sa_keys_at, starts_at}
use Rattle.events.specs.FieldWords.{child_key_words, five_words, medium_word, party_text, sa_key_words, which_text}

-- a kind of field, of one word or several: its words, its range, and how it is read
pub record FieldKind (A : Type 0) : Type 1 where
  pub text : A → List (List ℕ)
  pub range : A → Type 0
  pub reading : Cursor → Result (A × Cursor) LineFault

-- a kind of one word
abbrev pub one_word : {A : Type 0} → (A → List ℕ) → (A → Type 0) → (List ℕ → Result A LineReason)
    → FieldKind A
one_word text range read = record { text = λ x. text x ∷ []; range = range; reading = field read }

abbrev pub member_number : FieldKind ℕ
member_number = one_word decimal (λ n. n < NUMBER_END) member_in_word

-- seconds of a lifetime
abbrev pub lifetime_seconds : FieldKind ℕ
lifetime_seconds = one_word decimal (λ n. (1 ≤ n) × (n < 2 ^ 32)) (number_in_word 1 (2 ^ 32))

-- a place in a datagram, or a number of its octets
abbrev pub datagram_place : FieldKind ℕ
datagram_place = one_word decimal (λ n. n < 2 ^ 32) (number_in_word 0 (2 ^ 32))

-- the Message ID of a request (RFC 7296, section 2.2)
abbrev pub message_id : FieldKind ℕ
message_id = one_word decimal (λ n. n < 2 ^ 32) (number_in_word 0 (2 ^ 32))

abbrev pub ike_spi : FieldKind ℕ
ike_spi = one_word spi_text (λ n. n < 2 ^ 64) spi_in_word

abbrev pub esp_spi : FieldKind ℕ
esp_spi = one_word esp_spi_text (λ n. n < 2 ^ 32) esp_spi_of

-- octets of a number from least to most
abbrev pub octets_from : ℕ → ℕ → FieldKind (List ℕ)
octets_from least most = one_word octets_text (IsOctetField least most) (sized least most)

abbrev pub one_octet : FieldKind ℕ
one_octet = one_word (λ n. octets_text (n ∷ [])) (λ n. n < 256) octet_of

abbrev pub key_size : FieldKind KeySize
key_size = one_word size_text (λ _. Unit {0}) key_size_of

abbrev pub any_identity : FieldKind Identity
any_identity = one_word identity_text IsIdentity identity_of

abbrev pub domain_name : FieldKind Identity
domain_name = one_word identity_text IsDomainName domain_name_of

abbrev pub window_size : FieldKind ℕ
window_size = one_word decimal IsWindowSize window_in_word

abbrev pub ticket_key : FieldKind (List ℕ)
ticket_key = one_word octets_text IsTicketKey ticket_key_of

abbrev pub an_end : FieldKind Party
an_end = one_word party_text IsParty party_of

abbrev pub a_datagram : FieldKind Which
a_datagram = one_word which_text IsWhich which_of

abbrev pub a_medium : FieldKind Medium
a_medium = one_word medium_word (λ _. Unit {0}) medium_of

abbrev pub ike_keys : KeySize → FieldKind SaKeys
ike_keys size = record { text = sa_key_words; range = AreSaKeys size; reading = sa_keys_at size }

abbrev pub esp_keys : KeySize → FieldKind ChildKeys
esp_keys size = record {
  text = child_key_words;
  range = AreChildKeys size;
  reading = child_keys_at size;
}

abbrev pub five_starts : FieldKind Five
five_starts = record { text = five_words; range = AreStarts; reading = starts_at }
