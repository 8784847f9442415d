-- What is said of a ticket in an answer is read in the response.
use Rattle.std.proofs.Common.{◌≡◌, ℕ, ◌<◌, ◌≤◌, ◌^◌, true, List, [], ◌∷◌, ◌++◌, length, Option, Some, None, Result, Ok, Err, refl, ap, arith}
use Rattle.std.proofs.lemmas.Bool.Decides.{nat_tests}
use Rattle.std.proofs.lemmas.Nat.{from_be_bytes-to_be_bytes_4}
use Rattle.std.specs.Int.{w32, to_be_bytes}
use Rattle.ike_sas.specs.Answers.{answer_by, answer_payloads, error_of, error_payload, reply_to}
use Rattle.ike_sas.specs.TicketLaws.{TicketAnswersAreRead}
use Rattle.ike_sas.specs.TicketMessages.{first_ticket, is_ticket_size, nack_payload, ticket_in, ticket_payload}
use Rattle.ike_sas.specs.declared.answers.RequestError.{RequestError}
use Rattle.ike_sas.specs.declared.answers.RequestError.TheVariants.{InvalidSyntax, NoProposalChosen, UnsupportedCriticalPayload}
use Rattle.ike_sas.specs.declared.ticket_messages.TicketAnswer.TheVariants.{Declined, Issued}
use Rattle.ike_values.specs.Notifications.{first_notify}
use Rattle.ike_values.specs.Values.{PayloadValue}
use Rattle.ike_values.specs.declared.fault.Bad.{Bad}
use Rattle.ike_values.specs.declared.notify_types.TheConstants.{REQUEST_DATA, TICKET_NACK}
use Rattle.sk_payload.specs.declared.open.Opened.{Opened}

-- nothing is said of tickets in front of these payloads
record SaysNothing (front : List PayloadValue) : Type 0 where
  ticket : (rest : List PayloadValue) → first_ticket (front ++ rest) ≡ first_ticket rest
  nack : (rest : List PayloadValue) → first_notify TICKET_NACK (front ++ rest) ≡ first_notify TICKET_NACK rest

nothing_in_error : (error : RequestError) → SaysNothing (error_payload error ∷ [])
nothing_in_error (UnsupportedCriticalPayload kind) = record { ticket = λ rest. refl; nack = λ rest. refl }
nothing_in_error InvalidSyntax = record { ticket = λ rest. refl; nack = λ rest. refl }
nothing_in_error NoProposalChosen = record { ticket = λ rest. refl; nack = λ rest. refl }

nothing_in_reply : (asked : Option (List ℕ)) (told : List ℕ) → SaysNothing (reply_to asked told)
nothing_in_reply (Some octets) told = record { ticket = λ rest. refl; nack = λ rest. refl }
nothing_in_reply None told = record { ticket = λ rest. refl; nack = λ rest. refl }

nothing_in_answer : (error : Option RequestError) (inner : Result (List PayloadValue) Bad) (told : List ℕ) →
    SaysNothing (answer_by error inner told)
nothing_in_answer (Some error) inner told = nothing_in_error error
nothing_in_answer None (Ok payloads) told = nothing_in_reply (first_notify REQUEST_DATA payloads) told
nothing_in_answer None (Err bad) told = record { ticket = λ rest. refl; nack = λ rest. refl }

-- a notification with a ticket of this size counts
counts : (lifetime : ℕ) (ticket : List ℕ) → length ticket ≤ 512 →
    is_ticket_size (length (to_be_bytes w32 lifetime ++ ticket)) ≡ true
counts lifetime ticket short = grind (arith, nat_tests)

issued : (lifetime : ℕ) (ticket : List ℕ) → length ticket ≤ 512 → lifetime < 2 ^ 32 →
    ticket_in (ticket_payload lifetime ticket ∷ []) ≡ Some (record { lifetime = lifetime; octets = ticket })
issued lifetime ticket short within =
    let same = from_be_bytes-to_be_bytes_4 lifetime within in
    rw (counts lifetime ticket short) (ap (λ n. Some (record { lifetime = n; octets = ticket })) same)

after_answer : (request : Opened) (told : List ℕ) → SaysNothing (answer_payloads request told)
after_answer request told = nothing_in_answer (error_of request) request.inner told

pub answers_are_read : TicketAnswersAreRead
answers_are_read request told (Issued lifetime seal) short within =
    let front = after_answer request told in
    let rest = ticket_payload lifetime seal.sealed.octets ∷ [] in (
      rw (front.ticket rest) (issued lifetime seal.sealed.octets short within),
      rw (front.nack rest) refl,
    )
answers_are_read request told Declined short within =
    let front = after_answer request told in
    (rw (front.ticket (nack_payload ∷ [])) refl, rw (front.nack (nack_payload ∷ [])) refl)
