-- Each kind of field is read as it is written, and none of its words has a space.
use Rattle.std.proofs.Common.{◌≡◌, ℕ, ◌-◌, ◌^◌, true, List, Result, refl, lit≤}
use Rattle.std.specs.List.{list_all}
use Rattle.ha_base.specs.declared.key_material.KeySize.{KeySize}
use Rattle.line_fields.specs.declared.fault.LineReason.{LineReason}
use Rattle.line_fields.proofs.FieldLaws.{IsField, IsReader, domain_name_field, esp_spi_field, identity_field, key_size_field, octet_field, reader, sized_field, spi_field}
use Rattle.line_fields.proofs.SpacelessLaws.{is_plain, number_word, word_domain_name, word_esp_spi, word_identity, word_octet, word_octets, word_size, word_spi}
use Rattle.events.specs.FieldKinds.{FieldKind, a_datagram, a_medium, an_end, any_identity, datagram_place, domain_name, esp_keys, esp_spi, five_starts, ike_keys, ike_spi, key_size, lifetime_seconds, member_number, message_id, octets_from, one_octet, one_word, ticket_key, window_size}
use Rattle.events.specs.FieldRanges.{IsParty, IsWhich}
use Rattle.events.specs.FieldWords.{medium_word, party_text, which_text}
use Rattle.events.specs.declared.event.Party.{Party}
use Rattle.events.specs.declared.event.Party.TheVariants as parties
use Rattle.events.specs.declared.event.Which.{Which}
use Rattle.events.specs.declared.event.Which.TheVariants as whiches
use Rattle.events.specs.declared.turn.Medium.{Medium}
use Rattle.events.specs.declared.turn.Medium.TheVariants as mediums
use Rattle.event_text.proofs.EventFieldLaws.{count_field, key_octets, medium_field, member_field, party_field, place_field, ticket_key_field, which_field, window_field, window_small}
use Rattle.event_text.proofs.KeyLaws.{child_keys_reader, sa_keys_reader, starts_reader}

pub record IsKind {A : Type 0} (kind : FieldKind A) : Type 0 where
  pub reads : IsReader kind.reading kind.text kind.range
  pub plain : (x : A) → kind.range x → list_all is_plain (kind.text x) ≡ true

word_kind : {A : Type 0} {read : List ℕ → Result A LineReason} {text : A → List ℕ} {range : A → Type 0} → IsField read text range → ((x : A) → range x → is_plain (text x) ≡ true) → IsKind (one_word text range read)
word_kind is plain = record { reads = reader is; plain = λ x h. rw (plain x h) refl }

word_party : (x : Party) → IsParty x → is_plain (party_text x) ≡ true
word_party parties.Peer h = refl
word_party (parties.Member n) h = number_word n (2 ^ 63) h (lit≤ tt)

word_which : (x : Which) → IsWhich x → is_plain (which_text x) ≡ true
word_which (whiches.Number n) h = number_word n (2 ^ 32) h.1 (lit≤ tt)
word_which whiches.Last h = refl

word_medium : (x : Medium) → is_plain (medium_word x) ≡ true
word_medium mediums.Ike = refl
word_medium mediums.Esp = refl

pub member_kind : IsKind member_number
member_kind = word_kind member_field (λ n h. number_word n (2 ^ 63) h (lit≤ tt))

pub lifetime_kind : IsKind lifetime_seconds
lifetime_kind = word_kind count_field (λ n h. number_word n (2 ^ 32) h.1 (lit≤ tt))

pub place_kind : IsKind datagram_place
place_kind = word_kind place_field (λ n h. number_word n (2 ^ 32) h (lit≤ tt))

pub message_id_kind : IsKind message_id
message_id_kind = place_kind

pub spi_kind : IsKind ike_spi
spi_kind = word_kind spi_field (λ n h. word_spi n)

pub esp_spi_kind : IsKind esp_spi
esp_spi_kind = word_kind esp_spi_field (λ n h. word_esp_spi n)

pub octets_kind : (least most : ℕ) → IsKind (octets_from least most)
octets_kind least most = word_kind (sized_field least most) (word_octets least most)

pub octet_kind : IsKind one_octet
octet_kind = word_kind octet_field word_octet

pub key_size_kind : IsKind key_size
key_size_kind = word_kind key_size_field (λ size h. word_size size)

pub identity_kind : IsKind any_identity
identity_kind = word_kind identity_field word_identity

pub domain_name_kind : IsKind domain_name
domain_name_kind = word_kind domain_name_field word_domain_name

pub window_kind : IsKind window_size
window_kind = word_kind window_field (λ n h. number_word n (2 ^ 32) (window_small n h) (lit≤ tt))

pub ticket_key_kind : IsKind ticket_key
ticket_key_kind = word_kind ticket_key_field (λ xs h. word_octets 0 36 xs (key_octets xs h))

pub end_kind : IsKind an_end
end_kind = word_kind party_field word_party

pub datagram_kind : IsKind a_datagram
datagram_kind = word_kind which_field word_which

pub medium_kind : IsKind a_medium
medium_kind = word_kind medium_field (λ x h. word_medium x)

pub ike_keys_kind : (size : KeySize) → IsKind (ike_keys size)
ike_keys_kind size = record {
  reads = sa_keys_reader size;
  plain = λ keys h. rw (word_octets _ _ keys.sk_d h.sk_d, word_octets _ _ keys.sk_ei h.sk_ei, word_octets _ _ keys.sk_er h.sk_er, word_octets _ _ keys.sk_pi h.sk_pi, word_octets _ _ keys.sk_pr h.sk_pr) refl;
}

pub esp_keys_kind : (size : KeySize) → IsKind (esp_keys size)
esp_keys_kind size = record {
  reads = child_keys_reader size;
  plain = λ keys h. rw (word_octets _ _ keys.to_cluster h.to_cluster, word_octets _ _ keys.to_peer h.to_peer) refl;
}

pub starts_kind : IsKind five_starts
starts_kind = record {
  reads = starts_reader;
  plain = λ five h. rw (
    number_word five.esp_out (2 ^ 63) h.esp_out (lit≤ tt),
    number_word five.esp_in (2 ^ 63) h.esp_in (lit≤ tt),
    number_word five.iv (2 ^ 63) h.iv (lit≤ tt),
    number_word five.ask (2 ^ 32 - 1) h.ask (lit≤ tt),
    number_word five.answer (2 ^ 32 - 1) h.answer (lit≤ tt),
  ) refl;
}
