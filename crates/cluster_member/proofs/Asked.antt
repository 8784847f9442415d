-- What a holding is once a request was sent under the numbers that its horizons gave, or was refused.
use Rattle.std.proofs.Common.{◌≡◌, ℕ, ◌+◌, ◌≤◌, max, false, Option, None, List, Result, Ok, Err, refl, ap, sym, ◌∙◌, subst, arith}
use Rattle.events.specs.declared.turn.Step.{Step}
use Rattle.events.specs.declared.verdict.Verdict.TheVariants as out
use Rattle.horizons.specs.Reaches.{IsSameCounter, Reach}
use Rattle.horizons.specs.Ready.{Ready, next_number}
use Rattle.horizons.specs.declared.stop.Stop.{Stop}
use Rattle.ike_sas.specs.Held.{IkeHeld}
use Rattle.ike_values.specs.Values.{PayloadValue}
use Rattle.keeper_book.specs.declared.calls.Call.{Call}
use Rattle.keeper_book.specs.declared.counters.Counter.{Counter}
use Rattle.keeper_book.specs.declared.counters.Counter.TheVariants as counter
use Rattle.keeper_book.specs.declared.records.Record.{Record}
use Rattle.spend_once.specs.Lot.{Drawn}
use Rattle.turn_rules.proofs.Readies.{ready-map}
use Rattle.turn_rules.specs.Draws.{reach_of, refusal_of_stop}
use Rattle.turn_rules.specs.Held.{Held}
use Rattle.turn_rules.specs.IkeState.{kept_under, outstanding_after}
use Rattle.turn_rules.specs.MemberMessages.{HeldSendsRequest, held_ike}
use Rattle.turn_rules.specs.Messages.{SendsRequest}
use Rattle.turn_rules.specs.Packets.{Inbound, Outbound}
use Rattle.turn_rules.specs.Steps.{Says}
use Rattle.turn_rules.specs.Tasks as task
use Rattle.cluster_member.proofs.HeldMessages.{held_ike-is}
use Rattle.cluster_member.proofs.Readying.{ready-any}
use Rattle.cluster_member.proofs.Requests.{next-is}
use Rattle.cluster_member.proofs.UsingIv.{uses-given, uses-stopped}
use Rattle.cluster_member.specs.Holdings.{IsHolding, IsHorizon}
use Rattle.cluster_member.specs.Numbers.{LeavesBoth, ReadiesBoth}
use Rattle.cluster_member.proofs.Uses.{AsksNext, asked_below}
use Rattle.cluster_member.specs.Advances.{Advances}

-- ---- the first of two horizons goes on at the same number

module _ (one other one_now other_now : Reach) (at : ℕ) (calls : List Call) (result : Result Drawn Stop) where
  pub same-next : ReadiesBoth one at other calls result one_now other_now → one_now.next ≡ one.next
  same-next both = ready-any one at calls (ready-map
      {P = λ why rest. LeavesBoth rest result (Err why) one_now one other_now other}
      {G = λ high rest. Ready other other.next rest
      (λ why more. LeavesBoth more result (Err why) one_now (record one { high = high }) other_now other)
      (λ above more. LeavesBoth more result (Ok (next_number other)) one_now (record one { high = high }) other_now (record other { next = other.next + 1; high = above }))}
      (λ why rest l. ap (λ (r : Reach). r.next) l.first_after)
      (λ high rest r. ready-any other other.next rest (ready-map
      {P = λ why more. LeavesBoth more result (Err why) one_now (record one { high = high }) other_now other}
      {G = λ above more. LeavesBoth more result (Ok (next_number other)) one_now (record one { high = high }) other_now (record other { next = other.next + 1; high = above })}
      (λ why more l. ap (λ (r : Reach). r.next) l.first_after)
      (λ above more l. ap (λ (r : Reach). r.next) l.first_after)
      other other.next rest r)) one at calls both)

pub same-horizon : (sa : Record) (epoch : ℕ) (c : Counter) (old new : Reach) → IsSameCounter old new → IsHorizon sa epoch c old → IsHorizon sa epoch c new
same-horizon sa epoch c old new same is = record {
  name = same.name ∙ is.name;
  counter = same.counter ∙ is.counter;
  spir = same.spir ∙ is.spir;
  epoch_is = same.epoch ∙ is.epoch_is;
  end_is = same.end ∙ is.end_is;
}

module _ (sa : Record) (epoch : ℕ) (esp_out esp_in iv ask answer : Reach) (outbound : Outbound) (inbound : Inbound) (ike : IkeHeld) (attempt : Option ℕ) (is : IsHolding sa epoch esp_out esp_in iv ask answer outbound inbound ike) where
  -- what is held where the horizons of IVs and of requests, and what is held of messages, are these
  abbrev pub holding_of : Reach → Reach → IkeHeld → Held
  holding_of ivs asks messages = record {
    sa = sa;
    epoch = epoch;
    bases = record { esp_out = esp_out.base; esp_in = esp_in.base; iv = ivs.base; ask = asks.base; answer = answer.base };
    nexts = record { esp_out = esp_out.next; esp_in = esp_in.next; iv = ivs.next; ask = asks.next; answer = answer.next };
    highs = record { esp_out = esp_out.high; esp_in = esp_in.high; iv = ivs.high; ask = asks.high; answer = answer.high };
    window = inbound.window;
    asked = messages.asked;
    answered = messages.answered;
    synced = messages.synced;
    attempt = attempt;
  }

  abbrev pub held : Held
  held = holding_of iv ask ike

  reach : (c : Counter) (h : Reach) → IsHorizon sa epoch c h → (base next high : ℕ) → h.base ≡ base → h.next ≡ next → h.high ≡ high
      → h ≡ record (reach_of held c) { base = base; next = next; high = high }
  reach c h of base next high b n u i = record {
    name = of.name i;
    counter = of.counter i;
    spir = of.spir i;
    epoch = of.epoch_is i;
    base = b i;
    next = n i;
    high = u i;
    end = of.end_is i;
  }

  pub ask_reach : ask ≡ reach_of held counter.Ask
  ask_reach = reach counter.Ask ask is.horizons.of_ask ask.base ask.next ask.high refl refl refl

  pub iv_reach : iv ≡ reach_of held counter.Iv
  iv_reach = reach counter.Iv iv is.horizons.of_iv iv.base iv.next iv.high refl refl refl

  module _ (at : ℕ) (ask_now iv_now : Reach) (calls : List Call) (result : Result Drawn Stop) (both : ReadiesBoth ask at iv calls result ask_now iv_now) where
    -- the invariant, where one of the numbers was refused
    pub holding-stopped : IsSameCounter ask ask_now → IsSameCounter iv iv_now → IsHolding sa epoch esp_out esp_in iv_now ask_now answer outbound inbound ike
    holding-stopped same same_iv = record {
      horizons = record {
        of_esp_out = is.horizons.of_esp_out;
        of_esp_in = is.horizons.of_esp_in;
        of_iv = same-horizon sa epoch counter.Iv iv iv_now same_iv is.horizons.of_iv;
        of_ask = same-horizon sa epoch counter.Ask ask ask_now same is.horizons.of_ask;
        of_answer = is.horizons.of_answer;
      };
      packets = is.packets;
      messages = record {
        keys = is.messages.keys;
        next = is.messages.next ∙ sym (same-next ask iv ask_now iv_now at calls result both);
      };
      answered_from = is.answered_from;
    }

  module _ (ask_now iv_now : Reach) (calls : List Call) (result : Result Drawn Stop) (both : ReadiesBoth ask ask.next iv calls result ask_now iv_now) where
    pub asks-stopped : (was : Held) → held ≡ was → (request : List PayloadValue) (step : Step) (why : Stop) → result ≡ Err why → Says (out.Refused (refusal_of_stop why)) step
        → HeldSendsRequest was request calls step × Advances was (task.Ask was.sa.spir request) calls step (holding_of iv_now ask_now ike)
    asks-stopped was view request step why stopped says = next-is was (holding_of iv_now ask_now ike) request calls step (subst (λ h. AsksNext h request calls step (holding_of iv_now ask_now ike)) view (uses-stopped held (holding_of iv_now ask_now ike) counter.Ask ask.next
        (λ high above. SendsRequest (held_ike held) ask.next iv.next request step × (holding_of iv_now ask_now ike ≡ asked_below high above step held)) calls step ask iv ask_now iv_now result ask_reach iv_reach both
        why stopped says (λ a v i. holding_of (v i) (a i) ike) (λ high a v i. holding_of (v i) (a i) ike)))

    -- the Message ID is used then
    module _ (jumped : Reach) (ike_now : IkeHeld) (step : Step) (jumps : jumped ≡ record ask_now { next = max ask_now.next (ask.next + 1) })
        (messages : ike_now ≡ record ike { asked = outstanding_after false (kept_under ask.next step.gives) None ike.asked; next = ask.next + 1 }) where
      jumped_next : max ask_now.next (ask.next + 1) ≡ ask.next + 1
      jumped_next =
          let same = same-next ask iv ask_now iv_now ask.next calls result both in
          let more : max ask.next (ask.next + 1) ≡ ask.next + 1 = omega arith in
          ap (λ n. max n (ask.next + 1)) same ∙ more

      pub holding-asked : IsSameCounter ask ask_now → IsSameCounter iv iv_now → IsHolding sa epoch esp_out esp_in iv_now jumped answer outbound inbound ike_now
      holding-asked same same_iv =
          let before = holding-stopped ask.next ask_now iv_now calls result both same same_iv in
          record {
            horizons = record {
              of_esp_out = is.horizons.of_esp_out;
              of_esp_in = is.horizons.of_esp_in;
              of_iv = before.horizons.of_iv;
              of_ask = subst (IsHorizon sa epoch counter.Ask) (sym jumps) (record {
                name = before.horizons.of_ask.name;
                counter = before.horizons.of_ask.counter;
                spir = before.horizons.of_ask.spir;
                epoch_is = before.horizons.of_ask.epoch_is;
                end_is = before.horizons.of_ask.end_is;
              });
              of_answer = is.horizons.of_answer;
            };
            packets = is.packets;
            messages = record {
              keys = ap (λ (m : IkeHeld). m.keys) messages ∙ is.messages.keys;
              next = ap (λ (m : IkeHeld). m.next) messages ∙ sym (ap (λ (r : Reach). r.next) jumps ∙ jumped_next);
            };
            answered_from = subst (λ (m : IkeHeld). answer.base ≤ m.answered.low) (sym messages) is.answered_from;
          }

      pub asks-next : (was : Held) → held ≡ was → (request : List PayloadValue) (number : Drawn) → result ≡ Ok number → SendsRequest ike ask.next iv.next request step
          → HeldSendsRequest was request calls step × Advances was (task.Ask was.sa.spir request) calls step (holding_of iv_now jumped ike_now)
      asks-next was view request number given sends = next-is was (holding_of iv_now jumped ike_now) request calls step (subst (λ h. AsksNext h request calls step (holding_of iv_now jumped ike_now)) view (uses-given held (holding_of iv_now jumped ike_now) counter.Ask ask.next
          (λ high above. SendsRequest (held_ike held) ask.next iv.next request step × (holding_of iv_now jumped ike_now ≡ asked_below high above step held)) calls step ask iv ask_now iv_now result ask_reach iv_reach both
          number given
          (λ high above a v.
          let now : jumped ≡ record ask { next = ask.next + 1; high = high } = jumps ∙ (λ i. record (a i) { next = jumped_next i }) in
          (subst (λ m. SendsRequest m ask.next iv.next request step) (sym (held_ike-is held ask ike is.messages)) sends, λ i. holding_of (v i) (now i) (messages i)))))
