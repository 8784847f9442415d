-- How a member has a ticket settled: the keeper spends it, and puts the resumed association in
-- place of the old one (RFC 5723, section 4.3.3).
use Rattle.std.specs.Prelude.{◌≡◌, ℕ, List, [], ◌∷◌}
use Rattle.std.specs.Int.{w32, from_be_bytes}
use Rattle.std.specs.List.{remove}
use Rattle.ha_base.specs.declared.counter_names.End.TheVariants.{Cluster}
use Rattle.ha_base.specs.declared.identities.Identity.{Identity}
use Rattle.ike_values.specs.Notifications.{notify_of}
use Rattle.ike_values.specs.Values.{PayloadValue, ProposalValue, SelectorValue}
use Rattle.ike_values.specs.declared.notify_types.TheConstants.{AUTHENTICATION_FAILED}
use Rattle.keeper_book.specs.Told.{seen}
use Rattle.keeper_book.specs.declared.calls.Call.{Call}
use Rattle.keeper_book.specs.declared.calls.KeeperAnswer.{KeeperAnswer}
use Rattle.keeper_book.specs.declared.calls.KeeperAnswer.TheVariants as answer
use Rattle.keeper_book.specs.declared.calls.KeeperAsk.TheVariants as ask
use Rattle.keeper_book.specs.declared.faults.KeeperFault.TheVariants as fault
use Rattle.keeper_book.specs.declared.records.Record.{Record}
use Rattle.resume_exchange.specs.Attempts.{child_spi}
use Rattle.resume_exchange.specs.AuthMessages.{auth_payloads, identity_payload, offered}
use Rattle.resume_exchange.specs.ResumedRecords.{IsRecordResumed}
use Rattle.resume_exchange.specs.declared.half_opens.HalfOpen.{HalfOpen}
use Rattle.resume_settling.specs.Choosing.{Chooses}
use Rattle.resume_settling.specs.Replies.{Replies, own_code}
use Rattle.resume_settling.specs.declared.answers.MemberAuth.{MemberAuth}
use Rattle.resume_settling.specs.declared.answers.MemberAuth.TheVariants as out
use Rattle.resume_settling.specs.declared.answers.Why.{Why}
use Rattle.resume_settling.specs.declared.answers.Why.TheVariants as why
use Rattle.resume_settling.specs.declared.settling.Settling.{Settling}

-- the resumed association, and what a member of this identity says of it to its peer
pub record IsAccepted (identity : Identity) (half_open : HalfOpen) (payloads : List PayloadValue)
    (sa : Record) (accepted : List PayloadValue) : Type 0 where
  pub proposal : ProposalValue
  pub initiator : SelectorValue
  pub responder : SelectorValue
  pub chosen : Chooses half_open.content.size payloads proposal initiator responder
  -- the cluster receives at the SPI of the drawn number, and the peer at that of its proposal
  pub resumed : IsRecordResumed half_open.content.sk_d half_open.content.size
      half_open.content.identity half_open.derivation (child_spi half_open.derivation.spir)
      (from_be_bytes w32 proposal.spi) sa
  pub accepted_is : accepted ≡ auth_payloads (identity_payload Cluster identity)
      (own_code identity half_open)
      (offered proposal.number (child_spi half_open.derivation.spir) half_open.content.size)
      initiator responder

-- the peer is not authenticated
abbrev pub failure_payloads : List PayloadValue
failure_payloads = notify_of AUTHENTICATION_FAILED [] ∷ []

-- AUTHENTICATION_FAILED is answered, and the half-open association at this place is gone
abbrev pub FailsAuth : HalfOpen → List HalfOpen → ℕ → Why → MemberAuth → List HalfOpen → Type 0
FailsAuth half_open old place why (out.AuthFailed told sent) new =
    (told ≡ why) × Replies half_open failure_payloads sent × (new ≡ remove old place)
FailsAuth half_open old place why answered new = ⊥

-- the association is resumed, and is half open no more
abbrev pub Resumes : HalfOpen → List HalfOpen → ℕ → Record → List PayloadValue → MemberAuth
    → List HalfOpen → Type 0
Resumes half_open old place sa accepted (out.Resumed told sent) new =
    (told ≡ sa) × Replies half_open accepted sent × (new ≡ remove old place)
Resumes half_open old place sa accepted answered new = ⊥

-- what follows the answer of the keeper. Where it failed or was refused otherwise than as spent the
-- association stays half open, so that the peer may send its IKE_AUTH once more
abbrev pub FollowsSettle : HalfOpen → List HalfOpen → ℕ → Record → List PayloadValue
    → KeeperAnswer → MemberAuth → List HalfOpen → Type 0
FollowsSettle half_open old place sa accepted answer.Done answered new =
    Resumes half_open old place sa accepted answered new
FollowsSettle half_open old place sa accepted (answer.Refused fault.Spent) answered new =
    FailsAuth half_open old place why.Spent answered new
FollowsSettle half_open old place sa accepted (answer.Refused fault.Memory) answered new = ⊥
FollowsSettle half_open old place sa accepted (answer.Refused refused) answered new =
    (answered ≡ out.Refused refused) × (new ≡ old)
FollowsSettle half_open old place sa accepted other answered new = ⊥

-- the keeper is asked once: to settle the ticket, and to close the association of its issue
abbrev pub Settles : ℕ → HalfOpen → List HalfOpen → ℕ → Record → List PayloadValue → List Call
    → MemberAuth → List HalfOpen → Type 0
Settles member half_open old place sa accepted [] answered new = ⊥
Settles member half_open old place sa accepted (call ∷ calls) answered new = (calls ≡ [])
    × (call.asked ≡ ask.Settle half_open.ticket half_open.content.spir sa member)
    × FollowsSettle half_open old place sa accepted (seen call) answered new

-- no more was asked than one call, for which the keeper lacked memory
abbrev pub IsInVain : List Call → Type 0
IsInVain [] = Unit {0}
IsInVain (call ∷ calls) = (calls ≡ []) × (seen call ≡ answer.Refused fault.Memory)

-- what is held ready for the call
pub record IsSettlingOf (half_open : HalfOpen) (settling : Settling) : Type 0 where
  pub ticket_is : settling.ticket ≡ half_open.ticket
  pub old_spir_is : settling.old_spir ≡ half_open.content.spir
  pub spent_is : settling.spent ≡ failure_payloads
