-- What is held once a request to synchronise was sent.
use Rattle.std.proofs.Common.{◌≡◌, ℕ, ◌+◌, ◌==◌, max, false, Some, None, List, refl, ap, sym, ◌∙◌, arith, if◌then◌else◌}
use Rattle.std.proofs.lemmas.Bool.{eq-eqb}
use Rattle.events.specs.declared.turn.Step.{Step}
use Rattle.ha_base.specs.declared.counter_names.End.TheVariants as end
use Rattle.ike_values.specs.Values.{PayloadValue}
use Rattle.keeper_book.specs.Counters.{five_at, with_five}
use Rattle.keeper_book.specs.declared.calls.Call.{Call}
use Rattle.keeper_book.specs.declared.counters.Counter.TheVariants as counter
use Rattle.turn_rules.specs.Draws.{refusal_of_stop}
use Rattle.turn_rules.specs.Held.{Held, after_number, first_some, five_of, greatest, iv_in}
use Rattle.turn_rules.specs.MemberMessages.{SendsSync, held_ike, sync_id}
use Rattle.turn_rules.specs.Synchronised.{after_jump, announced_in}
use Rattle.turn_rules.specs.Tasks as task
use Rattle.turn_rules.specs.Tasks.{Task}
use Rattle.cluster_member.proofs.Answers.{iv-sealed}
use Rattle.cluster_member.proofs.Covering.{AreCoversTo}
use Rattle.cluster_member.proofs.Requests.{raised-refused}
use Rattle.cluster_member.proofs.UsingIv.{with-iv-elim, with-iv-rule}
use Rattle.cluster_member.proofs.Uses.{UsesWithIv}
use Rattle.cluster_member.specs.Advances.{Advances}
use Rattle.cluster_member.specs.Synchronising.{Announces, AreOfSync, SendsPrepared}

-- what is held once the next Message ID was announced under the next IV, below these highs
abbrev pub announced_below : ℕ → ℕ → Held → Held
announced_below high above held = record held {
  nexts = record held.nexts { ask = max (sync_id held) held.nexts.ask; iv = held.nexts.iv + 1 };
  highs = record held.highs { ask = high; iv = above };
  attempt = Some (sync_id held);
}

module _ (held now : Held) (payloads : List PayloadValue) (calls : List Call) (step : Step) where
  abbrev asked : Task
  asked = task.Sync held.sa.spir

  module _ (a : Announces (held_ike held) (sync_id held) held.nexts.iv payloads step) where
    uses : (spir : ℕ) → iv_in end.Cluster spir step.seals ≡ (if held.sa.spir == spir then Some held.nexts.iv else None)
    uses = iv-sealed held held.nexts.iv step a.sends.sent.seal a.sends.seals a.sends.sends.named a.sends.sends.iv_is

    announces : (spir : ℕ) → announced_in spir asked step.verdict ≡ (if held.sa.spir == spir then Some (sync_id held) else None)
    announces spir = ap (announced_in spir asked) a.said

    own : (n : ℕ) → (if held.sa.spir == held.sa.spir then Some n else None) ≡ Some n
    own n = ap (λ b. if b then Some n else None) (eq-eqb held.sa.spir held.sa.spir refl)

    others : (spir n : ℕ) → (held.sa.spir == spir) ≡ false → (if held.sa.spir == spir then Some n else None) ≡ None
    others spir n other = ap (λ b. if b then Some n else None) other

    own_next : after_number (iv_in end.Cluster held.sa.spir step.seals) held.nexts.iv ≡ held.nexts.iv + 1
    own_next =
        let more : max (held.nexts.iv + 1) held.nexts.iv ≡ held.nexts.iv + 1 = omega arith in
        ap (λ n. after_number n held.nexts.iv) (uses held.sa.spir ∙ own held.nexts.iv) ∙ more

    own_id : announced_in held.sa.spir asked step.verdict ≡ Some (sync_id held)
    own_id = announces held.sa.spir ∙ own (sync_id held)

    announced-advances : (high above : ℕ) → AreCoversTo held calls (with_five counter.Iv above (with_five counter.Ask high held.highs))
        → now ≡ announced_below high above held → Advances held asked calls step now
    announced-advances high above covers same = record {
      no_grant = covers.no_grant;
      now = same ∙ sym (λ i. record held {
        nexts = record held.nexts {
          ask = after_jump (own_id i) held.nexts.ask;
          iv = own_next i;
        };
        highs = covers.here i;
        attempt = first_some (own_id i) held.attempt;
      });
      elsewhere = λ spir other there i. record there {
        nexts = record there.nexts {
          ask = after_jump ((announces spir ∙ others spir (sync_id held) other) i) there.nexts.ask;
          iv = after_number ((uses spir ∙ others spir held.nexts.iv other) i) there.nexts.iv;
        };
        highs = five_of (λ c. greatest (five_at there.highs c) (covers.elsewhere spir other c i));
        attempt = first_some ((announces spir ∙ others spir (sync_id held) other) i) there.attempt;
      };
    }

  abbrev pub Sends : ℕ → ℕ → Type 0
  Sends high above = Announces (held_ike held) (sync_id held) held.nexts.iv payloads step × (now ≡ announced_below high above held)

  -- the next Message ID and the next IV are used, once both are ready
  abbrev pub SyncsNext : Type 0
  SyncsNext = UsesWithIv held counter.Ask (sync_id held) Sends calls step now

  sends-sync : (fresh : List ℕ) → AreOfSync fresh held payloads → Announces (held_ike held) (sync_id held) held.nexts.iv payloads step
      → SendsSync fresh held held.nexts.iv step
  sends-sync fresh of a = record {
    said = a.said;
    served = a.served;
    sends = record {
      sent = a.sends.sent;
      sends = rw (sym of) a.sends.sends;
      seals = a.sends.seals;
      gives = a.sends.gives;
    };
  }

  syncs-rule : SyncsNext → SendsPrepared payloads held calls step
  syncs-rule it fresh of = with-iv-rule held now counter.Ask (sync_id held) Sends calls step (SendsSync fresh held held.nexts.iv step)
      (λ high above s. sends-sync fresh of s.0) it

  syncs-advances : SyncsNext → Advances held asked calls step now
  syncs-advances = with-iv-elim held now counter.Ask (sync_id held) Sends calls step (Advances held asked calls step now) (λ high. refl)
      (λ why highs covers says same. raised-refused asked calls step held now highs (refusal_of_stop why) covers says same)
      (λ high above covers s. announced-advances s.0 high above covers s.1)

  pub syncs-are : SyncsNext → SendsPrepared payloads held calls step × Advances held asked calls step now
  syncs-are it = (syncs-rule it, syncs-advances it)
