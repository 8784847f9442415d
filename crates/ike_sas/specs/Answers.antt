-- What a new request is answered with (RFC 7296, sections 1.4, 2.5 and 2.21).
use Rattle.std.specs.Prelude.{ℕ, ◌==◌, nat_lt, List, [], ◌∷◌, length, Option, None, Some, unwrap_or, Result, Ok, Err, if◌then◌else◌}
use Rattle.ha_base.specs.declared.services.TheConstants.{LONGEST_REQUEST}
use Rattle.ike_values.specs.declared.fault.Bad.{Bad}
use Rattle.ike_values.specs.declared.fault.Reason.{Reason}
use Rattle.ike_values.specs.declared.fault.Reason.TheVariants.{UnknownCritical}
use Rattle.ike_sas.specs.declared.answers.RequestError.{RequestError}
use Rattle.ike_sas.specs.declared.answers.RequestError.TheVariants.{InvalidSyntax, NoProposalChosen, UnsupportedCriticalPayload}
use Rattle.ike_sas.specs.declared.exchanges.TheConstants.{CREATE_CHILD_SA, IKE_AUTH}
use Rattle.ike_values.specs.Notifications.{first_notify, notify_of}
use Rattle.ike_values.specs.Values.{PayloadValue}
use Rattle.ike_values.specs.declared.notify_types.TheConstants.{INVALID_SYNTAX, NO_PROPOSAL_CHOSEN, REPLY_DATA, REQUEST_DATA, UNSUPPORTED_CRITICAL_PAYLOAD}
use Rattle.sk_payload.specs.declared.open.Opened.{Opened}

-- ---- requests to a service

-- what asks for the execution of these data
abbrev pub request_payloads : List ℕ → List PayloadValue
request_payloads octets = notify_of REQUEST_DATA octets ∷ []

-- what is executed: the data of the first such notification, or none
abbrev pub data_in : List PayloadValue → List ℕ
data_in payloads = unwrap_or (first_notify REQUEST_DATA payloads) []

abbrev pub data_of : Result (List PayloadValue) Bad → List ℕ
data_of (Ok payloads) = data_in payloads
data_of (Err bad) = []

-- ---- errors

-- a critical payload of an unknown type is told by its type (section 2.5), every other fault is one
-- of syntax
abbrev pub inner_error : Reason → RequestError
inner_error (UnknownCritical kind) = UnsupportedCriticalPayload kind
inner_error _ = InvalidSyntax

-- with good inner payloads: nothing is authenticated or made in an association that stands, and a
-- service takes no longer request
abbrev pub error_in : ℕ → List PayloadValue → Option RequestError
error_in exchange payloads =
    if exchange == IKE_AUTH then Some InvalidSyntax
    else if exchange == CREATE_CHILD_SA then Some NoProposalChosen
    else if nat_lt LONGEST_REQUEST (length (data_in payloads)) then Some InvalidSyntax
    else None

-- the error that a new request is answered with, or none: faulty inner payloads come first
abbrev pub error_by : ℕ → Result (List PayloadValue) Bad → Option RequestError
error_by exchange (Ok payloads) = error_in exchange payloads
error_by exchange (Err bad) = Some (inner_error bad.reason)

abbrev pub error_of : Opened → Option RequestError
error_of request = error_by request.header.exchange request.inner

abbrev pub notify_type_of : RequestError → ℕ
notify_type_of (UnsupportedCriticalPayload kind) = UNSUPPORTED_CRITICAL_PAYLOAD
notify_type_of InvalidSyntax = INVALID_SYNTAX
notify_type_of NoProposalChosen = NO_PROPOSAL_CHOSEN

abbrev pub notify_data_of : RequestError → List ℕ
notify_data_of (UnsupportedCriticalPayload kind) = kind ∷ []
notify_data_of _ = []

abbrev pub error_payload : RequestError → PayloadValue
error_payload error = notify_of (notify_type_of error) (notify_data_of error)

-- ---- answers

-- the reply is told where the request had data for the service, be they empty
abbrev pub reply_to : Option (List ℕ) → List ℕ → List PayloadValue
reply_to (Some octets) reply = notify_of REPLY_DATA reply ∷ []
reply_to None reply = []

abbrev pub reply_payloads : Result (List PayloadValue) Bad → List ℕ → List PayloadValue
reply_payloads (Ok payloads) reply = reply_to (first_notify REQUEST_DATA payloads) reply
reply_payloads (Err bad) reply = []

abbrev pub answer_by :
    Option RequestError → Result (List PayloadValue) Bad → List ℕ → List PayloadValue
answer_by (Some error) inner reply = error_payload error ∷ []
answer_by None inner reply = reply_payloads inner reply

-- the inner payloads of the answer to a new request, where this is the reply of the service that
-- executed it
abbrev pub answer_payloads : Opened → List ℕ → List PayloadValue
answer_payloads request reply = answer_by (error_of request) request.inner reply
