-- What a holding is, by what it had, once a member agreed with the peer on Message IDs.
use Rattle.std.proofs.Common.{◌≡◌, ℕ, ◌≤◌, max, Option, Ok, Err, List, [], ap, sym, ◌∙◌, subst, arith}
use Rattle.events.specs.declared.ike_outcomes.IkeDrop.TheVariants as drop
use Rattle.events.specs.declared.turn.Step.{Step}
use Rattle.events.specs.declared.verdict.Verdict.TheVariants as out
use Rattle.horizons.specs.Reaches.{Reach}
use Rattle.ike_sas.specs.Held.{IkeHeld, with_synced}
use Rattle.ike_values.specs.Values.{PayloadValue}
use Rattle.ike_window.specs.Stored.{raised_to}
use Rattle.ike_window.specs.Windows.{ResponseWindow}
use Rattle.keeper_book.specs.declared.counters.Counter.TheVariants as counter
use Rattle.keeper_book.specs.declared.records.Record.{Record}
use Rattle.sk_payload.specs.declared.open.Opened.{Opened}
use Rattle.sync_exchange.specs.Answers.{IsMemberAnswer}
use Rattle.sync_exchange.specs.declared.sync_drop.SyncDrop.TheVariants as why
use Rattle.turn_rules.specs.Draws.{counter_name}
use Rattle.turn_rules.specs.Held.{Held}
use Rattle.turn_rules.specs.MemberMessages.{TakesSyncOf, sync_nonce}
use Rattle.turn_rules.specs.Packets.{Inbound, Outbound}
use Rattle.turn_rules.specs.Steps.{Says}
use Rattle.turn_rules.specs.Tasks as task
use Rattle.cluster_member.proofs.Answers.{least-from}
use Rattle.cluster_member.proofs.Asked.{held, holding_of}
use Rattle.cluster_member.proofs.SyncTaken.{drop-advances, synced-advances}
use Rattle.cluster_member.specs.Advances.{Advances}
use Rattle.cluster_member.specs.Holdings.{IsHolding, IsHorizon}

-- a window that is raised answers no Message ID below those that it answered
raised-low : (floor : ℕ) (old : ResponseWindow) → old.low ≤ (raised_to floor old).low
raised-low floor old = let least : max old.low floor ≤ (raised_to floor old).low = least-from (max old.low floor) old.responses in omega (arith, least)

module _ (sa : Record) (epoch : ℕ) (esp_out esp_in iv ask answer : Reach) (outbound : Outbound) (inbound : Inbound) (ike : IkeHeld)
    (is : IsHolding sa epoch esp_out esp_in iv ask answer outbound inbound ike)
    (nonce : ℕ) (payloads : List PayloadValue) (next floor : ℕ) (accepts : IsMemberAnswer ike.next ike.answered.floor nonce payloads (Ok (next, floor)))
    (ask_now : Reach) (ike_now : IkeHeld) (jumps : ask_now ≡ record ask { next = max ask.next next }) (agrees : ike_now ≡ with_synced next floor ike) where
  next_is : max ask.next next ≡ next
  next_is =
      let of : next ≡ max ike.next accepts.0.receive = ap (λ (x : ℕ × ℕ). x.0) accepts.3 in
      let here : ike.next ≡ ask.next = is.messages.next in
      omega (arith, of, here)

  -- the invariant holds of it
  pub holding-synced : IsHolding sa epoch esp_out esp_in iv ask_now answer outbound inbound ike_now
  holding-synced = record {
    horizons = record {
      of_esp_out = is.horizons.of_esp_out;
      of_esp_in = is.horizons.of_esp_in;
      of_iv = is.horizons.of_iv;
      of_ask = subst (IsHorizon sa epoch counter.Ask) (sym jumps) (record {
        name = is.horizons.of_ask.name;
        counter = is.horizons.of_ask.counter;
        spir = is.horizons.of_ask.spir;
        epoch_is = is.horizons.of_ask.epoch_is;
        end_is = is.horizons.of_ask.end_is;
      });
      of_answer = is.horizons.of_answer;
    };
    packets = is.packets;
    messages = record {
      keys = ap (λ (m : IkeHeld). m.keys) agrees ∙ is.messages.keys;
      next = ap (λ (m : IkeHeld). m.next) agrees ∙ sym (ap (λ (r : Reach). r.next) jumps ∙ next_is);
    };
    answered_from = subst (λ (m : IkeHeld). answer.base ≤ m.answered.low) (sym agrees) (omega (arith, is.answered_from, raised-low floor ike.answered));
  }

  module _ (attempt : Option ℕ) (was : Held) (view : held sa epoch esp_out esp_in iv ask answer outbound inbound ike attempt is ≡ was)
      (fresh : List ℕ) (id : ℕ) (response : Opened) (step : Step) (nonce_is : nonce ≡ sync_nonce fresh id) (inner : response.inner ≡ Ok payloads)
      (says : Says (out.Synced (counter_name sa counter.Answer) next floor) step) where
    abbrev view_with : Reach → IkeHeld → Held
    view_with asks messages = holding_of sa epoch esp_out esp_in iv ask answer outbound inbound ike attempt is iv asks messages

    takes_here : TakesSyncOf fresh (view_with ask ike) id response step
    takes_here = record {
      payloads = payloads;
      inner = inner;
      answer = Ok (next, floor);
      is = subst (λ n. IsMemberAnswer n ike.answered.floor (sync_nonce fresh id) payloads (Ok (next, floor))) is.messages.next
          (subst (λ k. IsMemberAnswer ike.next ike.answered.floor k payloads (Ok (next, floor))) nonce_is accepts);
      takes = says;
    }

    jumps_to : ask_now ≡ record ask { next = max next ask.next }
    jumps_to = let same : max ask.next next ≡ max next ask.next = omega arith in jumps ∙ (λ i. record ask { next = same i })

    pub takes-synced : TakesSyncOf fresh was id response step × Advances was task.Receive [] step (view_with ask_now ike_now)
    takes-synced = subst (λ h. TakesSyncOf fresh h id response step × Advances h task.Receive [] step (view_with ask_now ike_now)) view
        (takes_here, synced-advances (view_with ask ike) (view_with ask_now ike_now) next floor step says (λ i. view_with (jumps_to i) (agrees i)))

-- a response of another nonce is dropped
module _ (sa : Record) (epoch : ℕ) (esp_out esp_in iv ask answer : Reach) (outbound : Outbound) (inbound : Inbound) (ike : IkeHeld) (attempt : Option ℕ)
    (is : IsHolding sa epoch esp_out esp_in iv ask answer outbound inbound ike)
    (was : Held) (view : held sa epoch esp_out esp_in iv ask answer outbound inbound ike attempt is ≡ was)
    (fresh : List ℕ) (id nonce : ℕ) (response : Opened) (step : Step) (payloads : List PayloadValue) (nonce_is : nonce ≡ sync_nonce fresh id)
    (inner : response.inner ≡ Ok payloads) (says : Says (out.DroppedIke drop.Nonce) step) where
  abbrev holds : IkeHeld → Held
  holds messages = holding_of sa epoch esp_out esp_in iv ask answer outbound inbound ike attempt is iv ask messages

  pub takes-other : IsMemberAnswer ike.next ike.answered.floor nonce payloads (Err why.Nonce) → (ike_now : IkeHeld) → ike_now ≡ ike
      → TakesSyncOf fresh was id response step × Advances was task.Receive [] step (holds ike_now)
  takes-other refuses ike_now stays = subst (λ h. TakesSyncOf fresh h id response step × Advances h task.Receive [] step (holds ike_now)) view (
    record {
      payloads = payloads;
      inner = inner;
      answer = Err why.Nonce;
      is = subst (λ n. IsMemberAnswer n ike.answered.floor (sync_nonce fresh id) payloads (Err why.Nonce)) is.messages.next
          (subst (λ k. IsMemberAnswer ike.next ike.answered.floor k payloads (Err why.Nonce)) nonce_is refuses);
      takes = says;
    },
    drop-advances (holds ike) (holds ike_now) step drop.Nonce says (λ i. holds (stays i)),
  )
