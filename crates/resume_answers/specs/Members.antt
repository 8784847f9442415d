-- What a member answers to a request to resume, with the keeper's calls (RFC 5723, section 4.3.2):
-- the first case that applies.
use Rattle.std.specs.Prelude.{ℕ, ◌≡◌, List, [], ◌∷◌, ◌++◌, Result, Ok, Err, Option, Some, None, is_some}
use Rattle.ike_values.specs.declared.header.Message.{Message}
use Rattle.keeper_book.specs.declared.calls.Call.{Call}
use Rattle.keeper_book.specs.declared.faults.KeeperFault.{KeeperFault}
use Rattle.ha_base.specs.declared.counter_names.Derivation.{Derivation}
use Rattle.spend_once.specs.Lot.{Drawn}
use Rattle.tickets.specs.declared.content.Content.{Content}
use Rattle.resume_exchange.specs.FirstMessages.{numbered_nonce}
use Rattle.resume_exchange.specs.Judgements.{IsJudged}
use Rattle.resume_exchange.specs.Requests.{first_nonce}
use Rattle.resume_exchange.specs.declared.drops.ResumeDrop.TheVariants as drop
use Rattle.resume_exchange.specs.declared.half_opens.HalfOpen.{HalfOpen}
use Rattle.resume_exchange.specs.declared.judging.Judged.{Judged}
use Rattle.resume_exchange.specs.declared.judging.Judged.TheVariants as judged
use Rattle.resume_answers.specs.Octets.{nack_answer, nonce_answer, redirect_answer}
use Rattle.resume_answers.specs.Unspent.{DrawsUnlessSpent}
use Rattle.resume_answers.specs.declared.parts.MemberAnswer.{MemberAnswer}
use Rattle.resume_answers.specs.declared.parts.MemberAnswer.TheVariants as out
use Rattle.resume_answers.specs.declared.parts.OwnParts.{OwnParts}
use Rattle.resume_answers.specs.declared.parts.Presented.{Presented}
use Rattle.resume_answers.specs.declared.parts.Resumptions.{Resumptions}

-- what the keys are derived from, once the member gave this number
abbrev pub derivation_of : OwnParts → Presented → ℕ → Derivation
derivation_of own asked number = record {
  old_spir = asked.content.spir;
  ni = asked.ni;
  nr = numbered_nonce own.fresh number;
  spii = asked.spii;
  spir = number;
}

-- what is half open by a request of these octets; those of the answer are kept to be signed
pub record IsOpened (own : OwnParts) (asked : Presented) (octets : List ℕ) (number : ℕ)
    (half_open : HalfOpen) : Type 0 where
  pub begun_is : half_open.begun ≡ asked.came
  pub ticket_is : half_open.ticket ≡ asked.ticket
  pub content_is : half_open.content ≡ asked.content
  pub derivation_is : half_open.derivation ≡ derivation_of own asked number
  pub request_is : half_open.request.octets ≡ octets
  pub response_is : half_open.response.octets
      ≡ nonce_answer asked.spii number (numbered_nonce own.fresh number)

-- one more is half open, and the answer is what is kept of it
pub record Opens (own : OwnParts) (asked : Presented) (octets : List ℕ) (number : ℕ)
    (old : List HalfOpen) (answered : List ℕ) (new : List HalfOpen) : Type 0 where
  pub half_open : HalfOpen
  pub opened : IsOpened own asked octets number half_open
  pub kept : new ≡ old ++ half_open ∷ []
  pub same : answered ≡ half_open.response.octets

-- what is answered, and what is half open then, once a number was drawn, or the ticket was spent,
-- or the keeper refused
abbrev pub AnswersDrawn : OwnParts → Presented → List ℕ → Result (Option Drawn) KeeperFault
    → List HalfOpen → MemberAnswer → List HalfOpen → Type 0
AnswersDrawn own asked octets (Ok (Some n)) old (out.HalfOpen spir answered) new =
    (spir ≡ n.value) × Opens own asked octets n.value old answered.octets new
AnswersDrawn own asked octets (Ok None) old (out.Nack answered) new =
    (answered.octets ≡ nack_answer asked.spii) × (new ≡ old)
AnswersDrawn own asked octets (Err why) old (out.Refused fault) new = (fault ≡ why) × (new ≡ old)
AnswersDrawn own asked octets drawn old answer new = ⊥

-- the calls that a ticket makes which the member takes, and what is answered
pub record AnswersPresented (own : OwnParts) (asked : Presented) (octets : List ℕ)
    (old : Resumptions) (calls : List Call) (answer : MemberAnswer) (new : Resumptions) :
    Type 0 where
  pub drawn : Result (Option Drawn) KeeperFault
  pub draws : DrawsUnlessSpent asked.ticket old.nonces calls drawn new.nonces
  pub answers : AnswersDrawn own asked octets drawn old.half_opens answer new.half_opens

-- the request, by its parts
pub record IsAskedBy (now : ℕ) (message : Message) (ticket : ℕ) (content : Content)
    (asked : Presented) : Type 0 where
  pub came_is : asked.came.0 ≡ now
  pub spii_is : asked.spii ≡ message.header.spii
  pub ni_is : first_nonce message.payloads ≡ Some asked.ni
  pub ticket_is : asked.ticket ≡ ticket
  pub content_is : asked.content ≡ content

-- the peer is sent to the member's gateway, with the nonce of its request
abbrev pub Redirects : OwnParts → Message → MemberAnswer → Type 0
Redirects own message (out.Redirecting gateway answered) = (own.steered ≡ Some gateway)
    × ((ni : List ℕ) × (first_nonce message.payloads ≡ Some ni)
    × (answered.octets ≡ redirect_answer message.header.spii gateway ni))
Redirects own message answer = ⊥

-- the ticket is not taken
abbrev pub Declines : Message → MemberAnswer → Type 0
Declines message (out.Nack answered) = answered.octets ≡ nack_answer message.header.spii
Declines message answer = ⊥

-- the keeper is not asked, and what the member holds is this
pub record Rests (calls : List Call) (kept new : Resumptions) : Type 0 where
  pub unasked : calls ≡ []
  pub left : new ≡ kept

-- what follows what the member makes of the request by itself
abbrev pub FollowsJudged : OwnParts → ℕ → Message → List ℕ → Judged → Resumptions → List Call
    → MemberAnswer → Resumptions → Type 0
FollowsJudged own now message octets judged.Form kept calls answer new =
    Rests calls kept new × (answer ≡ out.Dropped drop.Form)
FollowsJudged own now message octets judged.Full kept calls answer new =
    Rests calls kept new × (answer ≡ out.Dropped drop.HalfOpenFull)
FollowsJudged own now message octets judged.Redirected kept calls answer new =
    Rests calls kept new × Redirects own message answer
FollowsJudged own now message octets judged.Nack kept calls answer new =
    Rests calls kept new × Declines message answer
FollowsJudged own now message octets (judged.Presented ticket content) kept calls answer new =
    (asked : Presented) × IsAskedBy now message ticket content asked
    × AnswersPresented own asked octets kept calls answer new

-- the calls that a request of these octets makes, what is answered, and what the member holds then:
-- half-open associations past their age are gone first
pub record AnswersResume (own : OwnParts) (now : ℕ) (message : Message) (octets : List ℕ)
    (old : Resumptions) (calls : List Call) (answer : MemberAnswer) (new : Resumptions) :
    Type 0 where
  pub judged : Judged
  pub kept : List HalfOpen
  pub is_judged : IsJudged own.ticket_key (is_some own.steered) now message old.half_opens judged
      kept
  pub follows : FollowsJudged own now message octets judged (record old { half_opens = kept })
      calls answer new
