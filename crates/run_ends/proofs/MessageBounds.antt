-- How long the IKE messages are that an end sends.
use Rattle.std.proofs.Common.{◌≡◌, ℕ, ◌+◌, ◌≤◌, ◌⊎◌, Option, Some, None, List, [], ◌∷◌, length, option_to_list, ap, sym, ◌∙◌, subst, arith, IfSome}
use Rattle.std.proofs.lemmas.List.{length-append}
use Rattle.std.specs.Int.{to_be_bytes, w64}
use Rattle.std.specs.List.{AllByRecursion}
use Rattle.std.specs.Option.{option_map}
use Rattle.aes_gcm.proofs.Seals.{sealing}
use Rattle.aes_gcm.specs.Gcm.{Sealed}
use Rattle.events.specs.declared.turn.Step.{Step}
use Rattle.ike_sas.specs.Answers.{answer_payloads, error_of, request_payloads}
use Rattle.ike_sas.specs.Held.{IkeHeld}
use Rattle.ike_values.specs.Notifications.{notify_of}
use Rattle.ike_values.specs.Values.{PayloadValue, sk}
use Rattle.ike_values.specs.Writing.{body_written, chain_written}
use Rattle.ike_values.specs.declared.header.Header.{Header}
use Rattle.ike_values.specs.declared.notify_types.TheConstants.{IKEV2_MESSAGE_ID_SYNC, IPSEC_REPLAY_COUNTER_SYNC, REQUEST_DATA, TICKET_REQUEST}
use Rattle.sync_exchange.specs.Laws.{request_with, response_of}
use Rattle.sync_exchange.specs.Notifications.{message_ids_spelling}
use Rattle.sync_exchange.specs.declared.message_ids.MessageIds.{MessageIds}
use Rattle.sk_payload.specs.Message.{IsDatagram, associated_data, plain_of}
use Rattle.sk_payload.specs.declared.open.Opened.{Opened}
use Rattle.turn_rules.specs.Datagrams.{plain_datagram}
use Rattle.turn_rules.specs.Messages.{with_ticket, SendsAfter}
use Rattle.run_ends.specs.Parties.{IsShort}
use Rattle.events.specs.declared.seals.Seal.{Seal}
use Rattle.ike_sas.specs.TicketMessages.{ticket_request_payloads, IsShortTicket}
use Rattle.ike_sas.proofs.TicketSizes.{answer_size, answers_fit}
use Rattle.ike_sas.specs.declared.ticket_messages.TicketAnswer.{TicketAnswer}

-- what is given is short
abbrev pub IsBrief : Step → Type 0
IsBrief step = AllByRecursion IsShort (option_to_list (option_map plain_datagram step.gives))

-- a message has 57 octets more than its inner payloads
message_length : (key : List ℕ) → (length key ≡ 20) ⊎ (length key ≡ 36) → (iv : ℕ) (header : Header) (payloads : List PayloadValue) (octets : List ℕ) → IsDatagram key iv header payloads octets → length octets ≡ 57 + length (chain_written payloads)
message_length key sized iv header payloads octets d =
    let s = sealing key sized in
    let plain = plain_of payloads in
    let text : length d.body.ciphertext ≡ length plain = sym (ap (λ (x : Sealed). length x.ciphertext) d.is.text) ∙ s.ciphertext_length d.body.iv (associated_data octets) plain in
    let tag : length d.body.icv ≡ 16 = sym (ap (λ (x : Sealed). length x.tag) d.is.text) ∙ s.tag_length d.body.iv (associated_data octets) plain in
    omega (
      arith,
      ap length d.written,
      text,
      tag,
      length-append d.body.ciphertext d.body.icv,
      length-append (body_written (sk d.body)) [],
      length-append (chain_written payloads) (0 ∷ []),
    )

-- a message is sent with few inner payloads
pub sends_message-brief : {before : List Seal} (held : IkeHeld) (iv : ℕ) (header : Header) (payloads : List PayloadValue) (step : Step) → (length held.keys.sending.octets ≡ 20) ⊎ (length held.keys.sending.octets ≡ 36) → length (chain_written payloads) ≤ 788
    → SendsAfter before held iv header payloads step → IsBrief step
sends_message-brief held iv header payloads step sized few s =
    subst (λ gives. AllByRecursion IsShort (option_to_list (option_map plain_datagram gives))) (sym s.gives)
    (omega (arith, few, ap length s.sends.same, message_length held.keys.sending.octets sized iv header payloads s.sent.seal.sealed.octets s.sends.sealed), tt)

notify-length : (kind : ℕ) (content : List ℕ) → length (chain_written (notify_of kind content ∷ [])) ≡ 8 + length content
notify-length kind content = omega (arith, length-append (body_written (notify_of kind content)) [])

-- the payloads of a request
pub request-few : (request : List ℕ) → length request ≤ 256 → length (chain_written (request_payloads request)) ≤ 264
request-few request size = omega (arith, size, notify-length REQUEST_DATA request)

pub ticket_request-few : length (chain_written ticket_request_payloads) ≤ 264
ticket_request-few = omega (arith, notify-length TICKET_REQUEST [])

-- those of a request to synchronise, and of the response to one
pub sync-few : (ids : MessageIds) (delta : ℕ) → length (chain_written (request_with ids delta)) ≤ 264
sync-few ids delta = omega (
  arith,
  length-append (body_written (notify_of IKEV2_MESSAGE_ID_SYNC (message_ids_spelling ids))) (chain_written (notify_of IPSEC_REPLAY_COUNTER_SYNC (to_be_bytes w64 delta) ∷ [])),
  notify-length IPSEC_REPLAY_COUNTER_SYNC (to_be_bytes w64 delta),
)

pub synced-few : (ids : MessageIds) → length (chain_written (response_of ids)) ≤ 264
synced-few ids = omega (arith, notify-length IKEV2_MESSAGE_ID_SYNC (message_ids_spelling ids))

-- and of a response
pub answer-few : (request : Opened) (reply : List ℕ) → length reply ≤ 256 → length (chain_written (answer_payloads request reply)) ≤ 264
answer-few request reply size = answer_size (error_of request) request.inner reply size

-- and with what is said of a ticket
pub answered-few : (request : Opened) (reply : List ℕ) (ticket : Option TicketAnswer) → length reply ≤ 256 → IfSome ticket IsShortTicket → length (chain_written (with_ticket (answer_payloads request reply) ticket)) ≤ 788
answered-few request reply None size short = omega (arith, answer-few request reply size)
answered-few request reply (Some answer) size short = answers_fit request reply answer size short
