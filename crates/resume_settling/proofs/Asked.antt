-- What is answered to an IKE_AUTH, from the call that it made.
use Rattle.std.proofs.Common.{◌≡◌, ℕ, List, [], slice_get, get_or, Some, Result, Ok, Err, IfOk, sym, subst, ◌∙◌, inr}
use Rattle.std.proofs.lemmas.Option.{get_or_from_slice_get}
use Rattle.ike_values.specs.Values.{PayloadValue}
use Rattle.ike_values.specs.declared.header.Header.{Header}
use Rattle.keeper_book.proofs.Asking.{asks_for_none}
use Rattle.keeper_book.specs.Asks.{AsksFor}
use Rattle.keeper_book.specs.declared.calls.Call.{Call}
use Rattle.keeper_book.specs.declared.keepers.Keeper.{Ghosts}
use Rattle.resume_answers.specs.declared.parts.OwnParts.{OwnParts}
use Rattle.resume_exchange.specs.Auth.{IsAuthJudged}
use Rattle.resume_exchange.specs.declared.auth.AuthJudged.{AuthJudged}
use Rattle.resume_exchange.specs.declared.auth.AuthJudged.TheVariants as judged
use Rattle.resume_exchange.specs.declared.drops.ResumeDrop.{ResumeDrop}
use Rattle.resume_exchange.specs.declared.half_opens.HalfOpen.{HalfOpen}
use Rattle.resume_settling.specs.Finding.{IsLastMeant}
use Rattle.resume_settling.specs.Judgements.{AnswersAuth, FollowsJudgement, FollowsOpening, FollowsPayloads}
use Rattle.resume_settling.specs.Opening.{IsAuthOpened}
use Rattle.resume_settling.specs.Settling.{IsAccepted, Settles}
use Rattle.resume_settling.specs.declared.answers.MemberAuth.{MemberAuth}
use Rattle.resume_settling.specs.declared.settling.Settling.{Settling}

-- what holds of each answer holds of the one that is given
pub mapped : {A B : Type 0} (given : Result A B) (P Q : A → Type 0) → ((a : A) → P a → Q a) → IfOk given P → IfOk given Q
mapped (Ok a) P Q goes is = goes a is
mapped (Err b) P Q goes is = tt

-- the half-open association at a place
pub at_place : (xs ys : List HalfOpen) (place : ℕ) (half_open read : HalfOpen) → ys ≡ xs → read ≡ get_or ys place read → slice_get xs place ≡ Some half_open → read ≡ half_open
at_place xs ys place half_open read same is here =
    is ∙ subst (λ l. get_or l place read ≡ half_open) (sym same) (get_or_from_slice_get xs place half_open read here)

pub moved : (read half_open : HalfOpen) (header : Header) (octets : List ℕ) (found opened : Result (List PayloadValue) ResumeDrop) → read ≡ half_open → found ≡ opened →
    IsAuthOpened read header octets found → IsAuthOpened half_open header octets opened
moved read half_open header octets found opened same is opens =
    subst (λ h. IsAuthOpened h header octets opened) same (subst (IsAuthOpened read header octets) is opens)

module _ {K : Type 0} (keeper : Ghosts K) (k k' : K) where
  -- the keeper was not asked
  pub none_asked : {rule : List Call → Type 0} → k' ≡ k → rule [] → AsksFor keeper k k' rule
  none_asked {rule} same follows = subst (λ x. AsksFor keeper k x rule) (sym same) (asks_for_none keeper k follows)

  module _ (own : OwnParts) (now : ℕ) (old : List HalfOpen) (place : ℕ) (answered : MemberAuth) (new : List HalfOpen) where
    -- the payloads were judged, and the ticket was to be settled
    pub correct : (half_open : HalfOpen) (payloads : List PayloadValue) (number : ℕ) (settling : Settling) → IsAuthJudged half_open now payloads (judged.Correct number) →
        IsAccepted own.identity half_open payloads settling.sa settling.accepted →
        AsksFor keeper k k' (λ calls. Settles own.member half_open old place settling.sa settling.accepted calls answered new) →
        AsksFor keeper k k' (λ calls. FollowsPayloads own now half_open old place payloads calls answered new)
    correct half_open payloads number settling is accepted asks = record {
      calls = asks.calls;
      follows = (judged.Correct number, is, (settling.sa, settling.accepted, accepted, asks.follows));
      asked = asks.asked;
      held = asks.held;
    }

    -- the payloads were judged otherwise
    pub refuses : (half_open : HalfOpen) (payloads : List PayloadValue) (is : AuthJudged) → k' ≡ k → IsAuthJudged half_open now payloads is →
        FollowsJudgement own half_open old place payloads is [] answered new →
        AsksFor keeper k k' (λ calls. FollowsPayloads own now half_open old place payloads calls answered new)
    refuses half_open payloads is same found follows = none_asked same (is, found, follows)

    -- the message was for the half-open association at this place
    pub heard : (header : Header) (octets : List ℕ) (last : IsLastMeant now header old place) (opened : Result (List PayloadValue) ResumeDrop) →
        IsAuthOpened last.half_open header octets opened →
        AsksFor keeper k k' (λ calls. FollowsOpening own now last.half_open old place opened calls answered new) →
        AsksFor keeper k k' (λ calls. AnswersAuth own now header octets old calls answered new)
    heard header octets last opened is asks = record {
      calls = asks.calls;
      follows = inr (place, record { is_last = last; opened = opened; opens = is; follows = asks.follows });
      asked = asks.asked;
      held = asks.held;
    }
