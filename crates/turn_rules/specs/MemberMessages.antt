-- What a member does with IKE messages.
use Rattle.std.specs.Prelude.{ℕ, ◌+◌, ◌≡◌, ◌==◌, MatchBool, MatchOption, Option, Some, None, List, [], take, if◌then◌else◌, Result, Ok, Err}
use Rattle.std.specs.Int.{w32, from_be_bytes}
use Rattle.std.specs.Int.Bits.{bit_xor}
use Rattle.events.specs.declared.turn.Step.{Step}
use Rattle.events.specs.declared.ike_outcomes.IkeDrop.TheVariants as drop
use Rattle.events.specs.declared.ike_outcomes.Kept.{Kept}
use Rattle.events.specs.declared.ike_outcomes.Kept.TheVariants as kept
use Rattle.events.specs.declared.verdict.Refusal.TheVariants as refusal
use Rattle.events.specs.declared.verdict.Verdict.TheVariants as out
use Rattle.ha_base.specs.declared.counter_names.End.TheVariants as end
use Rattle.ha_base.specs.declared.outside.Moment.{Moment}
use Rattle.horizons.specs.Ready.{Ready}
use Rattle.ike_sas.specs.Held.{IkeHeld, request_header}
use Rattle.ike_sas.specs.declared.keys.IkeKeys.{IkeKeys}
use Rattle.ike_sas.specs.declared.synchronising.TheConstants.{SYNC_DELTA}
use Rattle.ike_values.specs.Values.{PayloadValue}
use Rattle.keeper_book.specs.Counters.{five_at}
use Rattle.keeper_book.specs.declared.calls.Call.{Call}
use Rattle.keeper_book.specs.declared.counters.Counter.{Counter}
use Rattle.keeper_book.specs.declared.counters.Counter.TheVariants as counter
use Rattle.keeper_book.specs.declared.records.Record.{Record}
use Rattle.sk_payload.specs.declared.open.Opened.{Opened}
use Rattle.sync_exchange.specs.Answers.{IsMemberAnswer}
use Rattle.sync_exchange.specs.Laws.{request_with}
use Rattle.sync_exchange.specs.declared.message_ids.MessageIds.{MessageIds}
use Rattle.sync_exchange.specs.declared.sync_drop.SyncDrop.{SyncDrop}
use Rattle.sync_exchange.specs.declared.sync_drop.SyncDrop.TheVariants as why
use Rattle.turn_rules.specs.Configurations.{fresh_octets}
use Rattle.turn_rules.specs.Draws.{counter_name, reach_of, refusal_of_stop}
use Rattle.turn_rules.specs.Held.{Held}
use Rattle.turn_rules.specs.MemberStates.{MemberHeld}
use Rattle.turn_rules.specs.MemberTickets.{TellsTicket}
use Rattle.turn_rules.specs.Messages.{AnswersRequest, Listener, Resends, SendsMessage, SendsRequest, Windowed}
use Rattle.turn_rules.specs.Slots.{peer_counter}
use Rattle.turn_rules.specs.Steps.{RefusesThen, Says}

-- the cluster seals with SK_er, and opens what the peer sealed with SK_ei (RFC 7296, section 2.14)
abbrev pub cluster_keys : Record → IkeKeys
cluster_keys sa = record {
  end = end.Cluster;
  spii = sa.spii;
  spir = sa.spir;
  sending = record { name = counter_name sa counter.Iv; octets = sa.keys.sk_er };
  receiving = record { name = peer_counter sa counter.Iv; octets = sa.keys.sk_ei };
}

-- what a member holds of IKE messages in an association
abbrev pub held_ike : Held → IkeHeld
held_ike held = record {
  keys = cluster_keys held.sa;
  asked = held.asked;
  next = held.nexts.ask;
  answered = held.answered;
  synced = held.synced;
}

-- what follows once a number is ready, and then the next IV
abbrev pub ReadiesThen : Held → Counter → ℕ → List Call → Step → (List Call → Type 0) → Type 0
ReadiesThen held c at calls step goes = Ready (reach_of held c) at calls
    (λ why rest. RefusesThen (refusal_of_stop why) rest step)
    (λ high rest. Ready (reach_of held counter.Iv) (five_at held.nexts counter.Iv) rest
    (λ why rest. RefusesThen (refusal_of_stop why) rest step)
    (λ high rest. goes rest))

-- two numbers are used, once the first is ready, and then the next IV
abbrev pub ReadiesWithIv : Held → Counter → ℕ → List Call → Step → Type 0 → Type 0
ReadiesWithIv held c at calls step done =
    ReadiesThen held c at calls step (λ rest. (rest ≡ []) × done)

-- A new request is answered under the next IV, once its Message ID and the IV are ready, and a
-- number of a ticket besides, where it asks for a ticket and the cluster has a key of tickets.
abbrev pub HeldAnswers : MemberHeld → Moment → Held → Opened → List Call → Step → Type 0
HeldAnswers member now held request calls step =
    ReadiesThen held counter.Answer request.header.id calls step
    (λ rest. TellsTicket member now held.sa request rest step (λ ticket.
    AnswersRequest (counter_name held.sa counter.Answer) (held_ike held)
    (five_at held.nexts counter.Iv) request ticket step))

-- what is held of an association, where it has this initiator's SPI
abbrev pub of_spii : ℕ → Option Held → Option Held
of_spii spii None = None
of_spii spii (Some held) = if held.sa.spii == spii then Some held else None

-- The Message ID that a member announces as that of its next request: the one after it where it
-- announced one before (RFC 6311, section 5.1).
abbrev pub sync_id : Held → ℕ
sync_id held = five_at held.nexts counter.Ask + later held.attempt
  where
    later : Option ℕ → ℕ
    later None = 0
    later (Some before) = 1

-- the nonce of a synchronisation: that Message ID, and the first four of the member's fresh octets
abbrev pub sync_nonce : List ℕ → ℕ → ℕ
sync_nonce fresh id = bit_xor id (from_be_bytes w32 (take 4 fresh))

-- what it announces
abbrev pub sync_ids : List ℕ → Held → MessageIds
sync_ids fresh held = record {
  nonce = sync_nonce fresh (sync_id held);
  send = sync_id held;
  receive = held.answered.floor;
}

-- a request to synchronise was sent under an IV; its own Message ID is 0
pub record SendsSync (fresh : List ℕ) (held : Held) (iv : ℕ) (step : Step) : Type 0 where
  pub said : step.verdict ≡ out.Syncing (sync_id held) held.answered.floor
  pub served : step.served ≡ None
  pub sends : SendsMessage (held_ike held) iv (request_header (cluster_keys held.sa) 0)
      (request_with (sync_ids fresh held) SYNC_DELTA) step

-- a member that has yet to synchronise asks for it, once its next Message ID and an IV are ready
abbrev pub HeldSyncs : List ℕ → Held → List Call → Step → Type 0
HeldSyncs fresh held calls step = MatchBool held.synced (RefusesThen refusal.NoSync calls step)
    (ReadiesWithIv held counter.Ask (sync_id held) calls step
    (SendsSync fresh held (five_at held.nexts counter.Iv) step))

-- what the response to the last attempt is answered with, by what its Message IDs say to the member
abbrev pub TakesSyncAnswer : Held → Result (ℕ × ℕ) SyncDrop → Step → Type 0
TakesSyncAnswer held (Ok ids) step =
    Says (out.Synced (counter_name held.sa counter.Answer) ids.0 ids.1) step
TakesSyncAnswer held (Err why.Nonce) step = Says (out.DroppedIke drop.Nonce) step
TakesSyncAnswer held (Err other) step = ⊥

-- the response to the attempt which announced this Message ID, or to one before
pub record TakesSyncOf (fresh : List ℕ) (held : Held) (id : ℕ) (response : Opened)
    (step : Step) : Type 0 where
  pub payloads : List PayloadValue
  pub inner : response.inner ≡ Ok payloads
  pub answer : Result (ℕ × ℕ) SyncDrop
  pub is : IsMemberAnswer (five_at held.nexts counter.Ask) held.answered.floor (sync_nonce fresh id)
      payloads answer
  pub takes : TakesSyncAnswer held answer step

-- the Message ID of the attempt whose response is awaited
abbrev pub awaits_sync : Held → Option ℕ
awaits_sync held = if held.synced then None else held.attempt

-- what a member does with a response to a synchronisation
abbrev pub HeldTakesSync : List ℕ → Held → Opened → List Call → Step → Type 0
HeldTakesSync fresh held response calls step = (calls ≡ []) × MatchOption (awaits_sync held)
    (Says (out.DroppedIke drop.NotAsked) step)
    (λ id. TakesSyncOf fresh held id response step)

-- the peer alone is asked to synchronise: to a member such a request is one as any other
abbrev pub HeldSynchronises : Held → Opened → List Call → Step → Type 0
HeldSynchronises held request calls step = ⊥

-- a member keeps nothing of a response
abbrev pub KeepsNothing : List PayloadValue → Kept → Type 0
KeepsNothing payloads is = is ≡ kept.Plain

-- what a member is to IKE messages at a moment
abbrev pub member_listener : MemberHeld → Moment → Listener Held
member_listener member now = record {
  end = end.Cluster;
  held_under = λ spii spir. of_spii spii (member.held spir);
  ike = held_ike;
  asks = λ h. counter_name h.sa counter.Ask;
  Keeps = KeepsNothing;
  Answers = HeldAnswers member now;
  Synchronises = HeldSynchronises;
  TakesSync = HeldTakesSync (fresh_octets member.given);
}

-- a request with these inner payloads is sent under the next Message ID and the next IV, once both
-- are ready
abbrev pub HeldSendsRequest : Held → List PayloadValue → List Call → Step → Type 0
HeldSendsRequest held payloads calls step =
    ReadiesWithIv held counter.Ask (five_at held.nexts counter.Ask) calls step
    (SendsRequest (held_ike held) (five_at held.nexts counter.Ask)
    (five_at held.nexts counter.Iv) payloads step)

-- A later epoch asks nothing before it has synchronised, and the window has to have room.
abbrev pub HeldAsks : Held → List PayloadValue → List Call → Step → Type 0
HeldAsks held payloads calls step = MatchBool held.synced
    (Windowed (held_ike held) (five_at held.nexts counter.Ask)
    (λ least. RefusesThen (refusal.WindowFull least) calls step)
    (HeldSendsRequest held payloads calls step))
    (RefusesThen refusal.NotSynced calls step)

-- a member sends a request with these inner payloads by what it holds
abbrev pub AsksOf : Option Held → List PayloadValue → List Call → Step → Type 0
AsksOf None payloads calls step = RefusesThen refusal.NotOwner calls step
AsksOf (Some held) payloads calls step = HeldAsks held payloads calls step

-- and sends a request again
abbrev pub ResendsOf : Option Held → ℕ → List Call → Step → Type 0
ResendsOf None id calls step = RefusesThen refusal.NotOwner calls step
ResendsOf (Some held) id calls step = (calls ≡ []) × Resends id (held_ike held) step

-- a member asks the peer to synchronise by what it holds
abbrev pub SyncsOf : List ℕ → Option Held → List Call → Step → Type 0
SyncsOf fresh None calls step = RefusesThen refusal.NotOwner calls step
SyncsOf fresh (Some held) calls step = HeldSyncs fresh held calls step
