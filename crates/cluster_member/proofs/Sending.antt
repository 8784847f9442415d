-- What a holding is once a number that its horizon gave was used or noted, or was refused.
use Rattle.std.proofs.Common.{◌≡◌, ℕ, ◌+◌, Option, List, [], Result, Ok, Err, ap, ◌∙◌, subst}
use Rattle.events.specs.declared.turn.Step.{Step}
use Rattle.events.specs.declared.verdict.EspVerdict.{EspVerdict}
use Rattle.events.specs.declared.verdict.EspVerdict.TheVariants as esp
use Rattle.events.specs.declared.verdict.Verdict.TheVariants as out
use Rattle.ha_base.specs.declared.esp_outcomes.EspOpened.{EspOpened}
use Rattle.horizons.specs.Reaches.{Reach}
use Rattle.horizons.specs.Ready.{Leaves, Readies, ReadiesNext, Ready, next_number}
use Rattle.horizons.specs.declared.stop.Stop.{Stop}
use Rattle.ike_sas.specs.Held.{IkeHeld}
use Rattle.keeper_book.specs.declared.calls.Call.{Call}
use Rattle.keeper_book.specs.declared.counters.Counter.TheVariants as counter
use Rattle.keeper_book.specs.declared.records.Record.{Record}
use Rattle.replay_set.specs.Window.{Window}
use Rattle.spend_once.specs.Lot.{Drawn}
use Rattle.turn_rules.proofs.Readies.{ready-map}
use Rattle.turn_rules.specs.Draws.{counter_name, reach_of, refusal_of_stop}
use Rattle.turn_rules.specs.Held.{Held}
use Rattle.turn_rules.specs.MemberPackets.{inbound_of, outbound_of}
use Rattle.turn_rules.specs.Packets.{Inbound, Outbound, noted}
use Rattle.turn_rules.specs.Steps.{Says}
use Rattle.cluster_member.proofs.Readying.{no-number, no-stop, same-refusal}
use Rattle.cluster_member.proofs.Uses.{Notes, UsesNext, received_below, sent_below}
use Rattle.cluster_member.specs.Holdings.{IsHolding}

module _ (sa : Record) (epoch : ℕ) (esp_out esp_in iv ask answer : Reach) (outbound : Outbound) (inbound : Inbound) (ike : IkeHeld) (attempt : Option ℕ)
    (is : IsHolding sa epoch esp_out esp_in iv ask answer outbound inbound ike) where
  -- what is held where the horizons of the numbers that are sent and received, and the window, are these
  abbrev pub holding_with : Reach → Reach → Window → Held
  holding_with sends receives window = record {
    sa = sa;
    epoch = epoch;
    bases = record { esp_out = sends.base; esp_in = receives.base; iv = iv.base; ask = ask.base; answer = answer.base };
    nexts = record { esp_out = sends.next; esp_in = receives.next; iv = iv.next; ask = ask.next; answer = answer.next };
    highs = record { esp_out = sends.high; esp_in = receives.high; iv = iv.high; ask = ask.high; answer = answer.high };
    window = window;
    asked = ike.asked;
    answered = ike.answered;
    synced = ike.synced;
    attempt = attempt;
  }

  abbrev pub held_now : Held
  held_now = holding_with esp_out esp_in inbound.window

  reach_out : esp_out ≡ reach_of held_now counter.EspOut
  reach_out i =
      let of = is.horizons.of_esp_out in
      record { name = of.name i; counter = of.counter i; spir = of.spir i; epoch = of.epoch_is i; base = esp_out.base; next = esp_out.next; high = esp_out.high; end = of.end_is i }

  reach_in : esp_in ≡ reach_of held_now counter.EspIn
  reach_in i =
      let of = is.horizons.of_esp_in in
      record { name = of.name i; counter = of.counter i; spir = of.spir i; epoch = of.epoch_is i; base = esp_in.base; next = esp_in.next; high = esp_in.high; end = of.end_is i }

  pub outbound-is : outbound ≡ outbound_of held_now
  outbound-is i =
      let of = is.packets in
      record { key = record { name = of.sent_name i; octets = of.sent_key i }; spi = of.sent_spi i }

  -- the next number that is sent
  module _ (now : Reach) (calls : List Call) (result : Result Drawn Stop) (step : Step) (was : Held) (view : held_now ≡ was) (done : Held → Type 0)
      (gives : ReadiesNext esp_out calls result now) where
    abbrev after : Held
    after = holding_with now esp_in inbound.window

    abbrev Stops : Stop → List Call → Type 0
    Stops why rest = (rest ≡ []) × Says (out.Refused (refusal_of_stop why)) step × (after ≡ held_now)

    abbrev Goes : ℕ → List Call → Type 0
    Goes high rest = (rest ≡ []) × done held_now × (after ≡ sent_below high held_now)

    as_was : Ready esp_out esp_out.next calls Stops Goes → UsesNext was (done was) calls step after
    as_was ready = subst (λ h. UsesNext h (done h) calls step after) view (subst (λ (r : Reach). Ready r r.next calls Stops Goes) reach_out ready)

    pub number-used : (number : Drawn) → result ≡ Ok number → done held_now → UsesNext was (done was) calls step after
    number-used number given it = as_was (ready-map
        {P = λ why rest. Leaves rest result (Err why) now esp_out}
        {G = λ high rest. Leaves rest result (Ok (next_number esp_out)) now (record esp_out { next = esp_out.next + 1; high = high })}
        (λ why rest l. absurd (no-number number result why given l.answered))
        (λ high rest l. (l.no_more, it, λ i. holding_with (l.after i) esp_in inbound.window))
        esp_out esp_out.next calls gives)

    pub number-stopped : (why : Stop) → result ≡ Err why → Says (out.Refused (refusal_of_stop why)) step → UsesNext was (done was) calls step after
    number-stopped why stopped says = as_was (ready-map
        {P = λ why rest. Leaves rest result (Err why) now esp_out}
        {G = λ high rest. Leaves rest result (Ok (next_number esp_out)) now (record esp_out { next = esp_out.next + 1; high = high })}
        (λ other rest l. (l.no_more, same-refusal result why other step stopped l.answered says, λ i. holding_with (l.after i) esp_in inbound.window))
        (λ high rest l. absurd (no-number (next_number esp_out) result why l.answered stopped))
        esp_out esp_out.next calls gives)

  -- the number of a packet
  module _ (packet : EspOpened) (now : Reach) (calls : List Call) (result : Result (Unit {0}) Stop) (was : Held) (view : held_now ≡ was)
      (admits : Readies esp_in packet.number calls result now) (answered : EspVerdict) where
    module _ (window : Window) where
      abbrev noted_after : Held
      noted_after = holding_with esp_out now window

      abbrev Halts : Stop → List Call → Type 0
      Halts why rest = (rest ≡ []) × (answered ≡ esp.Refused (refusal_of_stop why)) × (noted_after ≡ held_now)

      abbrev Takes : ℕ → List Call → Type 0
      Takes high rest = (rest ≡ []) × (answered ≡ esp.Accepted (counter_name sa counter.EspIn) packet) × (noted_after ≡ received_below packet.number high held_now)

      notes_was : Ready esp_in packet.number calls Halts Takes → Notes was (Ok packet) calls answered noted_after
      notes_was ready = subst (λ h. Notes h (Ok packet) calls answered noted_after) view (subst (λ (r : Reach). Ready r packet.number calls Halts Takes) reach_in ready)

    pub packet-noted : result ≡ Ok tt → answered ≡ esp.Accepted (counter_name sa counter.EspIn) packet → (window : Window) → window ≡ (noted packet.number (inbound_of held_now)).window
        → Notes was (Ok packet) calls answered (holding_with esp_out now window)
    packet-noted admitted said window is_noted = notes_was window (ready-map
        {P = λ why rest. Leaves rest result (Err why) now esp_in}
        {G = λ high rest. Leaves rest result (Ok tt) now (record esp_in { high = high })}
        (λ why rest l. absurd (no-stop result why admitted l.answered))
        (λ high rest l. (l.no_more, said, λ i. holding_with esp_out (l.after i) (is_noted i)))
        esp_in packet.number calls admits)

    pub packet-stopped : (why : Stop) → result ≡ Err why → answered ≡ esp.Refused (refusal_of_stop why) → Notes was (Ok packet) calls answered (holding_with esp_out now inbound.window)
    packet-stopped why stopped said = notes_was inbound.window (ready-map
        {P = λ why rest. Leaves rest result (Err why) now esp_in}
        {G = λ high rest. Leaves rest result (Ok tt) now (record esp_in { high = high })}
        (λ other rest l. (l.no_more, said ∙ same_answer other l.answered, λ i. holding_with esp_out (l.after i) inbound.window))
        (λ high rest l. absurd (no-stop result why l.answered stopped))
        esp_in packet.number calls admits)
      where
        same_answer : (other : Stop) → result ≡ Err other → esp.Refused (refusal_of_stop why) ≡ esp.Refused (refusal_of_stop other)
        same_answer other is_other = let same : why ≡ other = cc in ap (λ s. esp.Refused (refusal_of_stop s)) same
