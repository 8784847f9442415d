-- What a holding is, by what it had, once a request to synchronise was sent, or was refused.
use Rattle.std.proofs.Common.{◌≡◌, ℕ, ◌≤◌, max, true, false, Option, Some, List, [], Result, Ok, Err, refl, ap, sym, ◌∙◌, subst, arith}
use Rattle.std.specs.Prelude.{MatchBool}
use Rattle.events.specs.declared.turn.Step.{Step}
use Rattle.events.specs.declared.verdict.Refusal.TheVariants as refusal
use Rattle.events.specs.declared.verdict.Verdict.TheVariants as out
use Rattle.ha_base.specs.declared.limits.TheConstants.{MESSAGE_ID_END}
use Rattle.horizons.specs.Reaches.{IsSameCounter, Reach}
use Rattle.horizons.specs.declared.stop.Stop.{Stop}
use Rattle.ike_sas.specs.Held.{IkeHeld, with_sync_begun}
use Rattle.ike_values.specs.Values.{PayloadValue}
use Rattle.keeper_book.specs.declared.calls.Call.{Call}
use Rattle.keeper_book.specs.declared.counters.Counter.TheVariants as counter
use Rattle.keeper_book.specs.declared.records.Record.{Record}
use Rattle.spend_once.specs.Lot.{Drawn}
use Rattle.turn_rules.proofs.Readies.{none-vain}
use Rattle.turn_rules.specs.Draws.{refusal_of_stop}
use Rattle.turn_rules.specs.Held.{Held}
use Rattle.turn_rules.specs.MemberMessages.{HeldSyncs, ReadiesWithIv, SendsSync, sync_id}
use Rattle.turn_rules.specs.Packets.{Inbound, Outbound}
use Rattle.turn_rules.specs.Steps.{RefusesThen, Says}
use Rattle.turn_rules.specs.Tasks as task
use Rattle.cluster_member.proofs.Advancing.{refused-advances}
use Rattle.cluster_member.proofs.Asked.{ask_reach, held, holding-stopped, holding_of, iv_reach, same-next}
use Rattle.cluster_member.proofs.HeldMessages.{held_ike-is}
use Rattle.cluster_member.proofs.SyncSent.{Sends, SyncsNext, syncs-are}
use Rattle.cluster_member.proofs.UsingIv.{uses-given, uses-stopped}
use Rattle.cluster_member.specs.Advances.{Advances}
use Rattle.cluster_member.specs.Holdings.{IsHolding, IsHorizon}
use Rattle.cluster_member.specs.Numbers.{ReadiesBoth}
use Rattle.cluster_member.specs.Synchronising.{Announces, SendsPrepared}

module _ (sa : Record) (epoch : ℕ) (esp_out esp_in iv ask answer : Reach) (outbound : Outbound) (inbound : Inbound) (ike : IkeHeld) (attempt : Option ℕ)
    (is : IsHolding sa epoch esp_out esp_in iv ask answer outbound inbound ike) where
  abbrev pub before : Held
  before = held sa epoch esp_out esp_in iv ask answer outbound inbound ike attempt is

  abbrev id : ℕ
  id = sync_id before

  module _ (ask_now iv_now : Reach) (calls : List Call) (result : Result Drawn Stop) (both : ReadiesBoth ask id iv calls result ask_now iv_now) where
    -- one of the numbers was refused
    pub syncs-stopped : (was : Held) → before ≡ was → (payloads : List PayloadValue) (step : Step) (why : Stop) → result ≡ Err why → Says
        (out.Refused (refusal_of_stop why)) step
        → SendsPrepared payloads was calls step
        × Advances was (task.Sync was.sa.spir) calls step (holding_of sa epoch esp_out esp_in iv ask answer outbound inbound ike attempt is iv_now
        ask_now ike)
    syncs-stopped was view payloads step why stopped says = syncs-are was (at iv_now ask_now) payloads calls step
        (subst (λ h. SyncsNext h (at iv_now ask_now) payloads calls step) view
        (uses-stopped before (at iv_now ask_now) counter.Ask id (Sends before (at iv_now ask_now) payloads calls step) calls step ask iv ask_now iv_now result
        (ask_reach sa epoch esp_out esp_in iv ask answer outbound inbound ike attempt is)
        (iv_reach sa epoch esp_out esp_in iv ask answer outbound inbound ike attempt is) both
        why stopped says (λ a v i. at (v i) (a i)) (λ high a v i. at (v i) (a i))))
      where
        at : Reach → Reach → Held
        at ivs asks = holding_of sa epoch esp_out esp_in iv ask answer outbound inbound ike attempt is ivs asks ike

    -- the Message ID was announced
    module _ (jumped : Reach) (ike_now : IkeHeld) (jumps : jumped ≡ record ask_now { next = max ask_now.next id })
        (begins : ike_now ≡ with_sync_begun id ike) where
      jumped_next : max ask_now.next id ≡ id
      jumped_next =
          let same : ask_now.next ≡ ask.next = same-next ask iv ask_now iv_now id calls result both in
          let above : ask.next ≤ id = omega arith in
          omega (arith, same, above)

      jumped_to : max ask_now.next id ≡ max id ask.next
      jumped_to =
          let same : ask_now.next ≡ ask.next = same-next ask iv ask_now iv_now id calls result both in
          omega (arith, same)

      pub holding-announced : IsSameCounter ask ask_now → IsSameCounter iv iv_now → IsHolding sa epoch esp_out esp_in iv_now jumped answer outbound
          inbound ike_now
      holding-announced same same_iv =
          let then = holding-stopped sa epoch esp_out esp_in iv ask answer outbound inbound ike attempt is id ask_now iv_now calls result both same same_iv in
          record {
            horizons = record {
              of_esp_out = is.horizons.of_esp_out;
              of_esp_in = is.horizons.of_esp_in;
              of_iv = then.horizons.of_iv;
              of_ask = subst (IsHorizon sa epoch counter.Ask) (sym jumps) (record {
                name = then.horizons.of_ask.name;
                counter = then.horizons.of_ask.counter;
                spir = then.horizons.of_ask.spir;
                epoch_is = then.horizons.of_ask.epoch_is;
                end_is = then.horizons.of_ask.end_is;
              });
              of_answer = is.horizons.of_answer;
            };
            packets = is.packets;
            messages = record {
              keys = ap (λ (m : IkeHeld). m.keys) begins ∙ is.messages.keys;
              next = ap (λ (m : IkeHeld). m.next) begins ∙ sym (ap (λ (r : Reach). r.next) jumps ∙ jumped_next);
            };
            answered_from = subst (λ (m : IkeHeld). answer.base ≤ m.answered.low) (sym begins) is.answered_from;
          }

      abbrev after : Reach → Reach → IkeHeld → Held
      after ivs asks messages = holding_of sa epoch esp_out esp_in iv ask answer outbound inbound ike (Some id) is ivs asks messages

      pub syncs-given : (was : Held) → before ≡ was → (payloads : List PayloadValue) (step : Step) (number : Drawn) → result ≡ Ok number
          → Announces ike id iv.next payloads step
          → SendsPrepared payloads was calls step × Advances was (task.Sync was.sa.spir) calls step (after iv_now jumped ike_now)
      syncs-given was view payloads step number given announces = syncs-are was (after iv_now jumped ike_now) payloads calls step
          (subst (λ h. SyncsNext h (after iv_now jumped ike_now) payloads calls step) view
          (uses-given before (after iv_now jumped ike_now) counter.Ask id (Sends before (after iv_now jumped ike_now) payloads calls step) calls step
          ask iv ask_now iv_now result
          (ask_reach sa epoch esp_out esp_in iv ask answer outbound inbound ike attempt is)
          (iv_reach sa epoch esp_out esp_in iv ask answer outbound inbound ike attempt is) both
          number given
          (λ high above a v.
          let now : jumped ≡ record ask { next = max id ask.next; high = high } = jumps ∙ (λ i. record (a i) { next = jumped_to i }) in (
            subst (λ m. Announces m id iv.next payloads step) (sym (held_ike-is before ask ike is.messages)) announces,
            λ i. after (v i) (now i) (begins i),
          ))))

-- ---- by the rule

module _ (fresh : List ℕ) (held : Held) (calls : List Call) (step : Step) where
  abbrev Tested : Type 0
  Tested = ReadiesWithIv held counter.Ask (sync_id held) calls step (SendsSync fresh held held.nexts.iv step)

  unsynced : held.synced ≡ false → Tested → HeldSyncs fresh held calls step
  unsynced is sends = subst (λ b. MatchBool b (RefusesThen refusal.NoSync calls step) Tested) (sym is) sends

module _ (fresh : List ℕ) (held now : Held) (step : Step) (same : now ≡ held) where
  pub synced-refuses : held.synced ≡ true → Says (out.Refused refusal.NoSync) step
      → HeldSyncs fresh held [] step × Advances held (task.Sync held.sa.spir) [] step now
  synced-refuses is says = (
    subst (λ b. MatchBool b (RefusesThen refusal.NoSync [] step) (Tested fresh held [] step)) (sym is) (refl, says),
    refused-advances (task.Sync held.sa.spir) [] step held now refusal.NoSync (none-vain [] refl) says same,
  )

  -- no Message ID is left to be announced
  pub ended-refuses : held.synced ≡ false → held.highs.ask ≤ MESSAGE_ID_END → MESSAGE_ID_END ≤ sync_id held → Says (out.Refused refusal.Exhausted) step
      → HeldSyncs fresh held [] step × Advances held (task.Sync held.sa.spir) [] step now
  ended-refuses is within ended says = (
    unsynced fresh held [] step is (record {
      within = λ below. absurd (omega (arith, within, ended, below));
      ended = λ low e. (refl, says);
      asked = λ low below. absurd (omega (arith, ended, below));
    }),
    refused-advances (task.Sync held.sa.spir) [] step held now refusal.Exhausted (none-vain [] refl) says same,
  )
