-- What is answered to a request, from the calls that it made.
use Rattle.std.proofs.Common.{◌≡◌, ℕ, List, [], ◌∷◌, ◌++◌, Result, Ok, Option, Some, is_some, subst, sym}
use Rattle.ha_base.specs.Octets.{WithRoom}
use Rattle.ike_values.specs.declared.header.Message.{Message}
use Rattle.keeper_book.proofs.Asking.{asks_for_none}
use Rattle.keeper_book.specs.Asks.{AsksFor}
use Rattle.keeper_book.specs.declared.faults.KeeperFault.{KeeperFault}
use Rattle.keeper_book.specs.declared.keepers.Keeper.{Ghosts}
use Rattle.spend_once.specs.Lot.{Drawn, Remaining}
use Rattle.tickets.specs.declared.content.Content.{Content}
use Rattle.resume_exchange.specs.Judgements.{IsJudged}
use Rattle.resume_exchange.specs.declared.half_opens.HalfOpen.{HalfOpen}
use Rattle.resume_exchange.specs.declared.judging.Judged.{Judged}
use Rattle.resume_exchange.specs.declared.judging.Judged.TheVariants as judged
use Rattle.resume_answers.specs.Members.{AnswersPresented, AnswersResume, FollowsJudged, IsAskedBy, IsOpened}
use Rattle.resume_answers.specs.Unspent.{DrawsUnlessSpent}
use Rattle.resume_answers.specs.declared.parts.MemberAnswer.{MemberAnswer}
use Rattle.resume_answers.specs.declared.parts.MemberAnswer.TheVariants as out
use Rattle.resume_answers.specs.declared.parts.OwnParts.{OwnParts}
use Rattle.resume_answers.specs.declared.parts.Presented.{Presented}
use Rattle.resume_answers.specs.declared.parts.Resumptions.{Resumptions}

module _ {K : Type 0} (keeper : Ghosts K) (k k' : K) (own : OwnParts) (octets : List ℕ) where
  -- a number was drawn
  pub opens : (asked : Presented) (old : Resumptions) (number : Drawn) (half_open : HalfOpen) (answered : WithRoom) (left : Remaining) (kept : List HalfOpen)
      (drawn : Result (Option Drawn) KeeperFault) (spir : ℕ) →
      AsksFor keeper k k' (λ calls. DrawsUnlessSpent asked.ticket old.nonces calls drawn left) → drawn ≡ Ok (Some number) → spir ≡ number.value →
      IsOpened own asked octets spir half_open → answered.octets ≡ half_open.response.octets → kept ≡ old.half_opens ++ half_open ∷ [] →
      AsksFor keeper k k' (λ calls. AnswersPresented own asked octets old calls (out.HalfOpen spir answered) (record { half_opens = kept; nonces = left }))
  opens asked old number half_open answered left kept drawn spir draws is its opened same put = record {
    calls = draws.calls;
    follows = record {
      drawn = Ok (Some number);
      draws = subst (λ r. DrawsUnlessSpent asked.ticket old.nonces draws.calls r left) is draws.follows;
      answers = (its, record { half_open = half_open; opened = subst (λ n. IsOpened own asked octets n half_open) its opened; kept = put; same = same });
    };
    asked = draws.asked;
    held = draws.held;
  }

  module _ (now : ℕ) (message : Message) (old : Resumptions) (kept : List HalfOpen) (answer : MemberAnswer) (new : Resumptions) where
    -- the keeper was not asked
    pub quiet : (j : Judged) → k' ≡ k → IsJudged own.ticket_key (is_some own.steered) now message old.half_opens j kept →
        FollowsJudged own now message octets j (record old { half_opens = kept }) [] answer new →
        AsksFor keeper k k' (λ calls. AnswersResume own now message octets old calls answer new)
    quiet j same is follows = subst (λ x. AsksFor keeper k x (λ calls. AnswersResume own now message octets old calls answer new)) (sym same)
        (asks_for_none keeper k (record { judged = j; kept = kept; is_judged = is; follows = follows }))

    -- it was, for a ticket that is taken otherwise
    pub presents : (ticket : ℕ) (content : Content) (asked : Presented) →
        IsJudged own.ticket_key (is_some own.steered) now message old.half_opens (judged.Presented ticket content) kept →
        IsAskedBy now message ticket content asked →
        AsksFor keeper k k' (λ calls. AnswersPresented own asked octets (record old { half_opens = kept }) calls answer new) →
        AsksFor keeper k k' (λ calls. AnswersResume own now message octets old calls answer new)
    presents ticket content asked is by answers = record {
      calls = answers.calls;
      follows = record { judged = judged.Presented ticket content; kept = kept; is_judged = is; follows = (asked, by, answers.follows) };
      asked = answers.asked;
      held = answers.held;
    }
