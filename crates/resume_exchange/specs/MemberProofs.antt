-- What a peer makes of the response to its IKE_AUTH (RFC 7296, section 1.2).
use Rattle.std.specs.Prelude.{◌≡◌, ℕ, ◌&&◌, ◌==◌, if◌then◌else◌, Bool, true, false, List, length, slice_get, Option, Some, None, is_some, MatchOption, Result, Ok, Err}
use Rattle.std.specs.Int.{w32, from_be_bytes}
use Rattle.std.specs.List.{filter_map}
use Rattle.ha_base.specs.declared.counter_names.End.TheVariants.{Cluster}
use Rattle.ike_sas.specs.Errors.{first_error}
use Rattle.ike_values.specs.declared.fault.Bad.{Bad}
use Rattle.ike_values.specs.Values.{IdValue, PayloadValue, ProposalValue, idr}
use Rattle.ike_values.specs.Writing.{numbered_written}
use Rattle.keeper_book.specs.declared.records.Record.{Record}
use Rattle.key_schedule.specs.Codes.{auth_code}
use Rattle.resume_exchange.specs.Attempts.{child_spi, keys_of_attempt}
use Rattle.resume_exchange.specs.Parts.{auth_data, first_of, sa_data}
use Rattle.resume_exchange.specs.ResumedKeys.{sealing_key}
use Rattle.resume_exchange.specs.ResumedRecords.{IsRecordResumed}
use Rattle.resume_exchange.specs.declared.attempts.Attempt.{Attempt}
use Rattle.resume_exchange.specs.declared.attempts.Awaited.{Awaited}
use Rattle.resume_exchange.specs.declared.drops.ResumeDrop.TheVariants as drop
use Rattle.resume_exchange.specs.declared.offers.TheConstants.{ESP}
use Rattle.resume_exchange.specs.declared.parts.TheConstants.{SHARED_KEY}
use Rattle.resume_exchange.specs.declared.peer_auth.PeerAuth.{PeerAuth}
use Rattle.resume_exchange.specs.declared.peer_auth.PeerAuth.TheVariants as answer
use Rattle.sk_payload.specs.Answers.{IsOpening}
use Rattle.sk_payload.specs.declared.not_read.OpenFault.{OpenFault}
use Rattle.sk_payload.specs.declared.not_read.OpenFault.TheVariants as fault
use Rattle.sk_payload.specs.declared.open.Opened.{Opened}

-- the member's identity
abbrev pub idr_data : PayloadValue → Option IdValue
idr_data (idr x) = Some x
idr_data _ = None

-- the code of the member signs its answer, the peer's nonce and its own identity (RFC 7296, section
-- 2.15)
abbrev pub member_code : Attempt → Awaited → IdValue → List ℕ
member_code attempt awaited identity =
    auth_code (keys_of_attempt attempt.keys awaited.from).sk_pr awaited.response.octets
    awaited.from.ni (numbered_written identity.kind identity.content)

-- the member has the resumed keys
pub record IsProven (attempt : Attempt) (awaited : Awaited) (payloads : List PayloadValue) :
    Type 0 where
  pub identity : IdValue
  pub identity_is : first_of idr_data payloads ≡ Some identity
  pub code_is : first_of auth_data payloads ≡ Some (record {
    method = SHARED_KEY;
    content = member_code attempt awaited identity;
  })

-- the SPI of a proposal for ESP, where it has four octets
abbrev pub proposal_spi : ProposalValue → Option ℕ
proposal_spi x =
    if x.protocol == ESP && length x.spi == 4 then Some (from_be_bytes w32 x.spi) else None

-- the first such SPI of some proposals
abbrev pub first_esp_spi : List ProposalValue → Option ℕ
first_esp_spi proposals = slice_get (filter_map proposal_spi proposals) 0

-- the first association has a proposal with this SPI, and none has one before
abbrev pub OffersSpi : List PayloadValue → ℕ → Type 0
OffersSpi payloads spi = (proposals : List ProposalValue)
    × (first_of sa_data payloads ≡ Some proposals) × (first_esp_spi proposals ≡ Some spi)

-- the payloads are authentic, and tell no error
pub record IsGood (attempt : Attempt) (awaited : Awaited) (payloads : List PayloadValue) :
    Type 0 where
  pub no_error : first_error payloads ≡ None
  pub proven : IsProven attempt awaited payloads

-- what is made of good inner payloads, where an association may have the responder's SPI
abbrev pub IsAuthAnswer : Attempt → Awaited → List PayloadValue → Bool → PeerAuth → Type 0
IsAuthAnswer attempt awaited payloads in_use (answer.Refused kind) =
    first_error payloads ≡ Some kind
IsAuthAnswer attempt awaited payloads in_use (answer.Dropped drop.AuthWrong) =
    (first_error payloads ≡ None) × ¬ IsProven attempt awaited payloads
IsAuthAnswer attempt awaited payloads in_use (answer.Dropped drop.Form) =
    IsGood attempt awaited payloads × ((spi : ℕ) → ¬ OffersSpi payloads spi)
IsAuthAnswer attempt awaited payloads in_use (answer.Dropped drop.SpiInUse) =
    IsGood attempt awaited payloads × ((spi : ℕ) × OffersSpi payloads spi) × (in_use ≡ true)
IsAuthAnswer attempt awaited payloads in_use (answer.Dropped why) = ⊥
IsAuthAnswer attempt awaited payloads in_use (answer.Resumed sa) =
    IsGood attempt awaited payloads × (in_use ≡ false)
    × ((spi : ℕ) × OffersSpi payloads spi × IsRecordResumed attempt.keys.sk_d attempt.keys.size
    attempt.keys.identity awaited.from spi (child_spi attempt.number) sa)

-- what is made of the inner payloads, which may be faulty
abbrev pub IsInnerAnswer :
    Attempt → Awaited → Result (List PayloadValue) Bad → Bool → PeerAuth → Type 0
IsInnerAnswer attempt awaited (Err bad) in_use made = made ≡ answer.Dropped (drop.Bad bad)
IsInnerAnswer attempt awaited (Ok payloads) in_use made =
    IsAuthAnswer attempt awaited payloads in_use made

-- what is made of a message that may open
abbrev pub IsOpenedAnswer :
    Attempt → Awaited → Result Opened OpenFault → Bool → PeerAuth → Type 0
IsOpenedAnswer attempt awaited (Err fault.NotOpened) in_use made =
    made ≡ answer.Dropped drop.NotOpened
IsOpenedAnswer attempt awaited (Err fault.Memory) in_use made = ⊥
IsOpenedAnswer attempt awaited (Ok opened) in_use made =
    IsInnerAnswer attempt awaited opened.inner in_use made

-- what is made of octets that come while this is awaited
abbrev pub IsAwaitedAnswer : Attempt → Awaited → List ℕ → Bool → PeerAuth → Type 0
IsAwaitedAnswer attempt awaited octets in_use made =
    (opening : Result Opened OpenFault)
    × IsOpening (sealing_key (keys_of_attempt attempt.keys awaited.from) awaited.from Cluster).octets
    octets opening
    × IsOpenedAnswer attempt awaited opening in_use made

-- what is made of a response of these octets
abbrev pub IsPeerAuth : Attempt → List ℕ → Bool → PeerAuth → Type 0
IsPeerAuth attempt octets in_use made = MatchOption attempt.awaited
    (made ≡ answer.Dropped drop.NotAsked)
    (λ awaited. IsAwaitedAnswer attempt awaited octets in_use made)
