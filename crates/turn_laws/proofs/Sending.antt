-- Each send that is explained is a deed.
use Rattle.std.proofs.Common.{MatchOption, ◌≡◌, ℕ, ◌<◌, ◌^◌, ◌==◌, false, Option, Some, None, List, [], ◌∷◌, ⊎_elim, refl, ap, sym, ◌∙◌, subst, arith}
use Rattle.std.proofs.lemmas.Bool.{and_parts, cases_lt, eqb-true}
use Rattle.events.specs.declared.event.Event.{Event}
use Rattle.events.specs.declared.event.Event.TheVariants as event
use Rattle.events.specs.declared.event.Party.TheVariants as parties
use Rattle.events.specs.declared.seals.Seal.{Seal}
use Rattle.events.specs.declared.turn.Step.{Step}
use Rattle.events.specs.declared.turn.Turn.{Turn}
use Rattle.events.specs.declared.verdict.Refusal.TheVariants as refusal
use Rattle.events.specs.declared.verdict.Verdict.TheVariants as out
use Rattle.ha_base.specs.Octets.{WithRoom}
use Rattle.ha_base.specs.declared.counter_names.CounterName.{CounterName}
use Rattle.ha_base.specs.declared.counter_names.End.{End}
use Rattle.ha_base.specs.declared.counter_names.End.TheVariants as end
use Rattle.ha_base.specs.declared.counter_names.Kind.TheVariants as kind
use Rattle.horizons.specs.declared.stop.Stop.{Stop}
use Rattle.keeper_book.specs.CounterEnds.{end_of}
use Rattle.keeper_book.specs.Counters.{five_at}
use Rattle.keeper_book.specs.declared.calls.Call.{Call}
use Rattle.keeper_book.specs.declared.counters.Counter.{Counter}
use Rattle.keeper_book.specs.declared.counters.Counter.TheVariants as counter
use Rattle.turn_laws.specs.Acts.{Seals}
use Rattle.turn_laws.proofs.Covers.{ready-as, ready-calls}
use Rattle.turn_laws.proofs.Single.{one-used, one-peer-used}
use Rattle.turn_laws.proofs.Deeds.{number_theirs, Deed, Rested, Rests, Spends, UsesOne, says-rests, rest_of}
use Rattle.turn_laws.proofs.Members.{member-performs}
use Rattle.turn_laws.proofs.Names.{number-failed, number-passed, place-ours}
use Rattle.turn_laws.proofs.Uses.{Seals_it, number_at, used-alone}
use Rattle.turn_laws.specs.Places.{Ours, Place, Theirs, place_of}
use Rattle.turn_laws.specs.Turns.{key_iv, number_taken}
use Rattle.turn_rules.proofs.Refusals.{stop-own}
use Rattle.turn_rules.proofs.SlotTies.{first-passes}
use Rattle.turn_rules.specs.Draws.{reach_of, refusal_of_stop}
use Rattle.turn_rules.specs.Ends.{Member, Peer, is_refused_by_run, own}
use Rattle.turn_rules.specs.Held.{Held, first_some, held_by, iv_in, said_in, used, window_by}
use Rattle.turn_rules.specs.IkeState.{sealed_iv}
use Rattle.turn_rules.specs.MemberPackets.{SendsData, outbound_of}
use Rattle.turn_rules.specs.Packets.{Outbound, SendsEsp}
use Rattle.turn_rules.specs.Safe.{Packet, accepted_as, taken_as}
use Rattle.turn_rules.specs.Slots.{peer_counter, PeerSends, Slot, SlotSends, first_slot, has_spir, slot_outbound, slots_by}
use Rattle.turn_rules.specs.States.{ended_by}
use Rattle.turn_rules.specs.Steps.{Says}
use Rattle.turn_rules.specs.Tasks as task

-- what is sent ends no member
sent-ends : (event : Event) (n : ℕ) → ended_by event (out.Sent n) ≡ None
sent-ends (event.Crash member) n = refl
sent-ends event n = refl

-- the seal of a packet uses its number
sends-spends : (event : Event) (outbound : Outbound) (place : Place) (n : ℕ) (payload : List ℕ) (step : Step) → place_of outbound.key.name ≡ place → SendsEsp outbound n payload step → Spends place n event step
sends-spends event outbound place n payload step named sends = record {
  served = sends.served;
  untaken = ap taken_as sends.said;
  uses_it = used-alone place n (Seals (key_iv sends.seal)) (rest_of event step) (Seals_it (key_iv sends.seal) (ap place_of sends.named ∙ named) sends.iv refl) (let said : _ = sends.said in let seals : _ = sends.seals in let none : _ = sent-ends event n in rw (said, seals, none));
  of_packet = λ packet is. absurd (no_packet packet (ap accepted_as (sym sends.said) ∙ is));
}
  where
    no_packet : (packet : Packet) → accepted_as (out.Sent n) ≡ Some packet → ⊥
    no_packet packet is = absurd (cc)

-- one packet is sealed, and no IKE message
record SealsEsp (step : Step) : Type 0 where
  pub seal : Seal
  pub one : step.seals ≡ seal ∷ []
  pub of_esp : seal.name.kind ≡ kind.EspOut

seals-esp : (outbound : Outbound) (n : ℕ) (payload : List ℕ) (step : Step) → outbound.key.name.kind ≡ kind.EspOut → SendsEsp outbound n payload step → SealsEsp step
seals-esp outbound n payload step named s = record { seal = s.seal; one = s.seals; of_esp = ap (λ (name : CounterName). name.kind) s.named ∙ named }

esp-no_iv : (user : End) (other : ℕ) (step : Step) → SealsEsp step → iv_in user other step.seals ≡ None
esp-no_iv user other step esp = ap (iv_in user other) esp.one ∙ ap (λ k. first_some (sealed_iv user other esp.seal k) None) esp.of_esp

-- a number that a member sent under
sent-told : (member spir n other : ℕ) (d : Counter) (payload : WithRoom) (step : Step) → step.verdict ≡ out.Sent n → SealsEsp step → number_taken other d (event.Send (parties.Member member) spir payload) step ≡ number_at (Ours other d) (Ours spir counter.EspOut) n
sent-told member spir n other counter.EspOut payload step said esp = ap (said_in other counter.EspOut (task.Send spir payload.octets)) said ∙ number-passed (spir == other) n
sent-told member spir n other counter.EspIn payload step said esp = number-failed (spir == other) n
sent-told member spir n other counter.Iv payload step said esp = esp-no_iv end.Cluster other step esp ∙ number-failed (spir == other) n
sent-told member spir n other counter.Ask payload step said esp = number-failed (spir == other) n
sent-told member spir n other counter.Answer payload step said esp = number-failed (spir == other) n

-- a number that the peer sent under
sent_theirs-told : (spir n other : ℕ) (d : Counter) (payload : WithRoom) (step : Step) → step.verdict ≡ out.Sent n → SealsEsp step → number_theirs other d (event.Send parties.Peer spir payload) step ≡ number_at (Ours other d) (Ours spir counter.EspOut) n
sent_theirs-told spir n other counter.EspOut payload step said esp = ap (said_in other counter.EspOut (task.Send spir payload.octets)) said ∙ number-passed (spir == other) n
sent_theirs-told spir n other counter.EspIn payload step said esp = number-failed (spir == other) n
sent_theirs-told spir n other counter.Iv payload step said esp = esp-no_iv end.Peer other step esp ∙ number-failed (spir == other) n
sent_theirs-told spir n other counter.Ask payload step said esp = number-failed (spir == other) n
sent_theirs-told spir n other counter.Answer payload step said esp = number-failed (spir == other) n

-- what the peer sends uses no number of a member
sent-not_ours : (spir other : ℕ) (d : Counter) (payload : WithRoom) (step : Step) → SealsEsp step → used other d (event.Send parties.Peer spir payload) step ≡ None
sent-not_ours spir other counter.EspOut payload step esp = refl
sent-not_ours spir other counter.EspIn payload step esp = refl
sent-not_ours spir other counter.Iv payload step esp = esp-no_iv end.Cluster other step esp
sent-not_ours spir other counter.Ask payload step esp = refl
sent-not_ours spir other counter.Answer payload step esp = refl

-- a member sends, by what it holds
module _ (past : List Turn) (step : Step) (member spir : ℕ) (payload : WithRoom) (held : Held) (own_spir : held.sa.spir ≡ spir)
    (is_held : held_by (window_by past) (own (Member member) past) spir ≡ Some held) (calls : List Call) (sends : SendsData held payload.octets calls step) where
  abbrev next : ℕ
  next = five_at held.nexts counter.EspOut

  abbrev Stopped : Stop → List Call → Type 0
  Stopped why rest = (rest ≡ []) × Says (out.Refused (refusal_of_stop why)) step

  abbrev Sent : ℕ → List Call → Type 0
  Sent high rest = (rest ≡ []) × SendsEsp (outbound_of held) next payload.octets step

  send-not_run : is_refused_by_run step.verdict ≡ false
  send-not_run = ready-calls (λ calls. is_refused_by_run step.verdict ≡ false) (reach_of held counter.EspOut) next Stopped Sent
      (λ call rest asked is. is)
      (λ why rest s. let said : _ = s.1.said in rw said (stop-own why))
      (λ high rest s. let said : _ = s.1.said in rw said refl)
      calls sends

  send-uses : SendsEsp (outbound_of held) next payload.octets step → UsesOne held.sa.spir counter.EspOut next (event.Send (parties.Member member) spir payload) step
  send-uses s = record {
    spends = sends-spends (event.Send (parties.Member member) spir payload) (outbound_of held) (Ours held.sa.spir counter.EspOut) next payload.octets step (place-ours held.sa counter.EspOut) s;
    told = λ other d.
        sent-told member spir next other d payload step s.said (seals-esp (outbound_of held) next payload.octets step refl s)
        ∙ (ap (λ n. number_at (Ours other d) (Ours n counter.EspOut) next) (sym own_spir));
  }

  pub sends-deed : Deed past (event.Send (parties.Member member) spir payload) calls step
  sends-deed = one-used (record {
    member = member;
    held = held;
    c = counter.EspOut;
    number = next;
    by_it = member-performs (event.Send (parties.Member member) spir payload) step.verdict member refl send-not_run;
    is_held = subst (λ n. held_by (window_by past) (own (Member member) past) n ≡ Some held) (sym own_spir) is_held;
    is_open = omega arith;
    ready = ready-as (reach_of held counter.EspOut) next Stopped (λ why rest. (rest ≡ []) × Rests step) Sent (λ high rest. (rest ≡ []) × UsesOne held.sa.spir counter.EspOut next (event.Send (parties.Member member) spir payload) step)
        (λ why rest s. (s.0, says-rests step (out.Refused (refusal_of_stop why)) tt s.1))
        (λ high rest s. (s.0, send-uses s.1))
        calls sends;
  })

-- the peer sends, by its associations
module _ (past : List Turn) (step : Step) (spir : ℕ) (payload : WithRoom) (calls : List Call) (no_calls : calls ≡ []) where
  slot-deed : (slot : Slot) → first_slot (has_spir spir) (slots_by (window_by past) (own Peer past)) ≡ Some slot → SlotSends slot payload.octets step → Deed past (event.Send parties.Peer spir payload) calls step
  slot-deed slot is_first sends = ⊎_elim
      (λ within. sent within (sends.within within))
      (λ ended. Rested no_calls (says-rests step (out.Refused refusal.Exhausted) tt (sends.ended ended)) refl)
      (cases_lt slot.next (2 ^ 63))
    where
      sent : slot.next < end_of slot.sa counter.EspOut → SendsEsp (slot_outbound slot) slot.next payload.octets step → Deed past (event.Send parties.Peer spir payload) calls step
      sent within s = one-peer-used (record {
        test = has_spir spir;
        slot = slot;
        c = counter.EspOut;
        number = slot.next;
        by_it = let said : _ = s.said in rw said refl;
        is_first = is_first;
        is_open = (refl, within);
        no_calls = no_calls;
        spends = sends-spends (event.Send parties.Peer spir payload) (slot_outbound slot) (Theirs (peer_counter slot.sa counter.EspOut)) slot.next payload.octets step refl s;
        not_ours = λ other d. sent-not_ours spir other d payload step (seals-esp (slot_outbound slot) slot.next payload.octets step refl s);
        told = λ other d.
            sent_theirs-told spir slot.next other d payload step s.said (seals-esp (slot_outbound slot) slot.next payload.octets step refl s)
            ∙ (ap (λ n. number_at (Ours other d) (Ours n counter.EspOut) slot.next) (sym (eqb-true slot.sa.spir spir (and_parts slot.live (slot.sa.spir == spir) (first-passes (has_spir spir) (slots_by (window_by past) (own Peer past)) slot is_first)).1)));
        no_entry = refl;
      })

  pub peer_sends-deed : PeerSends spir (slots_by (window_by past) (own Peer past)) payload.octets step → Deed past (event.Send parties.Peer spir payload) calls step
  peer_sends-deed sends = by_slot (first_slot (has_spir spir) (slots_by (window_by past) (own Peer past))) refl sends
    where
      by_slot : (x : Option Slot) → first_slot (has_spir spir) (slots_by (window_by past) (own Peer past)) ≡ x
          → MatchOption x (Says (out.Refused refusal.Unknown) step) (λ slot. SlotSends slot payload.octets step) → Deed past (event.Send parties.Peer spir payload) calls step
      by_slot None e says = Rested no_calls (says-rests step (out.Refused refusal.Unknown) tt says) refl
      by_slot (Some slot) e sends = slot-deed slot e sends
