-- How long the inner payloads are of an answer to a request for a ticket.
use Rattle.std.proofs.Common.{ℕ, ◌≤◌, List, [], ◌∷◌, length, Option, Some, None, Result, Ok, Err, arith}
use Rattle.ike_sas.proofs.Drafts.{chain_longer}
use Rattle.ike_sas.specs.Answers.{answer_by, answer_payloads, error_of, error_payload, reply_payloads, reply_to}
use Rattle.ike_sas.specs.TicketLaws.{TicketAnswersFit}
use Rattle.ike_sas.specs.TicketMessages.{nack_payload, ticket_payload}
use Rattle.ike_sas.specs.declared.answers.RequestError.{RequestError}
use Rattle.ike_sas.specs.declared.answers.RequestError.TheVariants.{InvalidSyntax, NoProposalChosen, UnsupportedCriticalPayload}
use Rattle.ike_sas.specs.declared.ticket_messages.TicketAnswer.TheVariants.{Declined, Issued}
use Rattle.ike_values.specs.Notifications.{first_notify, notify_of}
use Rattle.ike_values.specs.Values.{PayloadValue}
use Rattle.ike_values.specs.Writing.{chain_written}
use Rattle.ike_values.specs.declared.fault.Bad.{Bad}
use Rattle.ike_values.specs.declared.notify_types.TheConstants.{REPLY_DATA, REQUEST_DATA}

error_size : (error : RequestError) → length (chain_written (error_payload error ∷ [])) ≤ 264
error_size (UnsupportedCriticalPayload kind) = omega arith
error_size InvalidSyntax = omega arith
error_size NoProposalChosen = omega arith

reply_size : (asked : Option (List ℕ)) (told : List ℕ) → length told ≤ 256 →
    length (chain_written (reply_to asked told)) ≤ 264
reply_size (Some octets) told short = omega (arith, short, chain_longer [] (notify_of REPLY_DATA told))
reply_size None told short = omega arith

replies_size : (inner : Result (List PayloadValue) Bad) (told : List ℕ) → length told ≤ 256 →
    length (chain_written (reply_payloads inner told)) ≤ 264
replies_size (Ok payloads) told short = reply_size (first_notify REQUEST_DATA payloads) told short
replies_size (Err bad) told short = omega arith

pub answer_size : (error : Option RequestError) (inner : Result (List PayloadValue) Bad) (told : List ℕ) →
    length told ≤ 256 →
    length (chain_written (answer_by error inner told)) ≤ 264
answer_size (Some error) inner told short = error_size error
answer_size None inner told short = replies_size inner told short

pub answers_fit : TicketAnswersFit
answers_fit request told (Issued lifetime seal) short ticket = omega (
  arith,
  ticket,
  answer_size (error_of request) request.inner told short,
  chain_longer (answer_payloads request told) (ticket_payload lifetime seal.sealed.octets),
)
answers_fit request told Declined short ticket = omega (
  arith,
  answer_size (error_of request) request.inner told short,
  chain_longer (answer_payloads request told) nack_payload,
)
