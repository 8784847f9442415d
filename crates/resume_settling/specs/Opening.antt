-- What a message for a half-open association opens to, or why it is dropped: the first case that
-- applies (RFC 5723, section 4.3.3; RFC 7296, section 1.2).
use Rattle.std.specs.Prelude.{◌≡◌, ℕ, ◌&&◌, ◌==◌, Bool, true, false, not, List, Result, Ok, Err}
use Rattle.ha_base.specs.declared.counter_names.End.TheVariants.{Peer}
use Rattle.ike_sas.specs.declared.exchanges.TheConstants.{IKE_AUTH}
use Rattle.ike_values.specs.Values.{PayloadValue}
use Rattle.ike_values.specs.declared.fault.Bad.{Bad}
use Rattle.ike_values.specs.declared.header.Header.{Header}
use Rattle.resume_exchange.specs.Auth.{keys_of}
use Rattle.resume_exchange.specs.ResumedKeys.{sealing_key}
use Rattle.resume_exchange.specs.declared.drops.ResumeDrop.{ResumeDrop}
use Rattle.resume_exchange.specs.declared.drops.ResumeDrop.TheVariants as drop
use Rattle.resume_exchange.specs.declared.half_opens.HalfOpen.{HalfOpen}
use Rattle.sk_payload.specs.Answers.{IsOpening}
use Rattle.sk_payload.specs.declared.not_read.OpenFault.{OpenFault}
use Rattle.sk_payload.specs.declared.not_read.OpenFault.TheVariants as fault
use Rattle.sk_payload.specs.declared.open.Opened.{Opened}

-- a request of IKE_AUTH has the Message ID 1, since IKE_SESSION_RESUME had 0
abbrev pub is_auth_request : Header → Bool
is_auth_request header = header.exchange == IKE_AUTH && header.id == 1 && not header.response

-- what the octets open to under the key with which the peer seals
abbrev pub IsPeerOpening : HalfOpen → List ℕ → Result Opened OpenFault → Type 0
IsPeerOpening half_open octets opening =
    IsOpening (sealing_key (keys_of half_open) half_open.derivation Peer).octets octets opening

-- they open, and these are their inner payloads or the first fault of them
abbrev pub OpensInner : HalfOpen → List ℕ → Result (List PayloadValue) Bad → Type 0
OpensInner half_open octets inner = (opened : Opened)
    × IsPeerOpening half_open octets (Ok opened) × (opened.inner ≡ inner)

abbrev pub IsAuthOpened :
    HalfOpen → Header → List ℕ → Result (List PayloadValue) ResumeDrop → Type 0
IsAuthOpened half_open header octets (Err (drop.Exchange kind)) =
    (is_auth_request header ≡ false) × (kind ≡ header.exchange)
IsAuthOpened half_open header octets (Err drop.NotOpened) =
    (is_auth_request header ≡ true) × IsPeerOpening half_open octets (Err fault.NotOpened)
IsAuthOpened half_open header octets (Err (drop.Bad bad)) =
    (is_auth_request header ≡ true) × OpensInner half_open octets (Err bad)
IsAuthOpened half_open header octets (Err why) = ⊥
IsAuthOpened half_open header octets (Ok payloads) =
    (is_auth_request header ≡ true) × OpensInner half_open octets (Ok payloads)
