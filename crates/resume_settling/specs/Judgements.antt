-- What a member answers to an IKE_AUTH, with the keeper's calls: the first case that applies.
use Rattle.std.specs.Prelude.{◌≡◌, ℕ, ◌⊎◌, false, List, [], ◌∷◌, Result, Ok, Err}
use Rattle.std.specs.List.{list_any, remove}
use Rattle.ike_values.specs.Notifications.{notify_of}
use Rattle.ike_values.specs.Values.{PayloadValue}
use Rattle.ike_values.specs.declared.header.Header.{Header}
use Rattle.ike_values.specs.declared.notify_types.TheConstants.{NO_PROPOSAL_CHOSEN}
use Rattle.keeper_book.specs.declared.calls.Call.{Call}
use Rattle.keeper_book.specs.declared.records.Record.{Record}
use Rattle.resume_answers.specs.declared.parts.OwnParts.{OwnParts}
use Rattle.resume_exchange.specs.Auth.{IsAuthJudged}
use Rattle.resume_exchange.specs.declared.auth.AuthJudged.{AuthJudged}
use Rattle.resume_exchange.specs.declared.auth.AuthJudged.TheVariants as judged
use Rattle.resume_exchange.specs.declared.drops.ResumeDrop.{ResumeDrop}
use Rattle.resume_exchange.specs.declared.drops.ResumeDrop.TheVariants as drop
use Rattle.resume_exchange.specs.declared.half_opens.HalfOpen.{HalfOpen}
use Rattle.resume_settling.specs.Finding.{IsLastMeant, is_meant}
use Rattle.resume_settling.specs.Opening.{IsAuthOpened}
use Rattle.resume_settling.specs.Replies.{Replies}
use Rattle.resume_settling.specs.Settling.{FailsAuth, IsAccepted, Settles}
use Rattle.resume_settling.specs.declared.answers.MemberAuth.{MemberAuth}
use Rattle.resume_settling.specs.declared.answers.MemberAuth.TheVariants as out
use Rattle.resume_settling.specs.declared.answers.Why.TheVariants as why

-- all is as it has to be
abbrev pub IsCorrect : HalfOpen → List PayloadValue → Type 0
IsCorrect half_open payloads = (now : ℕ) × (number : ℕ)
    × IsAuthJudged half_open now payloads (judged.Correct number)

-- no proposal fits
abbrev pub DeclinesProposals : HalfOpen → List HalfOpen → ℕ → MemberAuth → List HalfOpen → Type 0
DeclinesProposals half_open old place (out.NoProposal sent) new =
    Replies half_open (notify_of NO_PROPOSAL_CHOSEN [] ∷ []) sent × (new ≡ remove old place)
DeclinesProposals half_open old place answered new = ⊥

-- what follows the judgement of the inner payloads
abbrev pub FollowsJudgement : OwnParts → HalfOpen → List HalfOpen → ℕ → List PayloadValue
    → AuthJudged → List Call → MemberAuth → List HalfOpen → Type 0
FollowsJudgement own half_open old place payloads judged.Payload calls answered new =
    (calls ≡ []) × FailsAuth half_open old place why.Payload answered new
FollowsJudgement own half_open old place payloads judged.Identity calls answered new =
    (calls ≡ []) × FailsAuth half_open old place why.Identity answered new
FollowsJudgement own half_open old place payloads judged.Code calls answered new =
    (calls ≡ []) × FailsAuth half_open old place why.Code answered new
FollowsJudgement own half_open old place payloads judged.NoProposal calls answered new =
    (calls ≡ []) × DeclinesProposals half_open old place answered new
FollowsJudgement own half_open old place payloads judged.Expired calls answered new =
    (calls ≡ []) × FailsAuth half_open old place why.Expired answered new
FollowsJudgement own half_open old place payloads (judged.Correct number) calls answered new =
    (sa : Record) × (accepted : List PayloadValue)
    × IsAccepted own.identity half_open payloads sa accepted
    × Settles own.member half_open old place sa accepted calls answered new

-- the message is dropped: the keeper is not asked, and nothing is sealed
pub record IsDropped (why : ResumeDrop) (old : List HalfOpen) (calls : List Call)
    (answered : MemberAuth) (new : List HalfOpen) : Type 0 where
  pub unasked : calls ≡ []
  pub told : answered ≡ out.Dropped why
  pub left : new ≡ old

-- the payloads are judged
abbrev pub FollowsPayloads : OwnParts → ℕ → HalfOpen → List HalfOpen → ℕ → List PayloadValue
    → List Call → MemberAuth → List HalfOpen → Type 0
FollowsPayloads own now half_open old place payloads calls answered new = (found : AuthJudged)
    × IsAuthJudged half_open now payloads found
    × FollowsJudgement own half_open old place payloads found calls answered new

-- what follows what the message opens to
abbrev pub FollowsOpening : OwnParts → ℕ → HalfOpen → List HalfOpen → ℕ
    → Result (List PayloadValue) ResumeDrop → List Call → MemberAuth → List HalfOpen → Type 0
FollowsOpening own now half_open old place (Err why) calls answered new =
    IsDropped why old calls answered new
FollowsOpening own now half_open old place (Ok payloads) calls answered new =
    FollowsPayloads own now half_open old place payloads calls answered new

-- the message is for the half-open association at this place
pub record IsForOne (own : OwnParts) (now : ℕ) (header : Header) (octets : List ℕ)
    (old : List HalfOpen) (place : ℕ) (calls : List Call) (answered : MemberAuth)
    (new : List HalfOpen) : Type 0 where
  pub is_last : IsLastMeant now header old place
  pub opened : Result (List PayloadValue) ResumeDrop
  pub opens : IsAuthOpened is_last.half_open header octets opened
  pub follows : FollowsOpening own now is_last.half_open old place opened calls answered new

-- the message is for none of them
pub record IsForNone (now : ℕ) (header : Header) (old : List HalfOpen) (calls : List Call)
    (answered : MemberAuth) (new : List HalfOpen) : Type 0 where
  pub none : list_any (is_meant now header) old ≡ false
  pub drops : IsDropped drop.UnknownSpi old calls answered new

-- the calls that a message of these octets makes, what is answered, and what is half open then
abbrev pub AnswersAuth : OwnParts → ℕ → Header → List ℕ → List HalfOpen → List Call → MemberAuth
    → List HalfOpen → Type 0
AnswersAuth own now header octets old calls answered new =
    IsForNone now header old calls answered new
    ⊎ ((place : ℕ) × IsForOne own now header octets old place calls answered new)
