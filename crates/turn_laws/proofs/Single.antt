-- An event that uses one number, of a member or of the peer.
use Rattle.turn_rules.specs.Peers.{record_entered}
use Rattle.turn_rules.specs.Slots.{Slot, first_slot, slots_by, peer_counter}
use Rattle.std.proofs.Common.{◌≡◌, ℕ, Bool, true, false, Option, Some, None, option_to_list, List, [], ◌∷◌, refl, ap, sym, ◌∙◌, if◌then◌else◌, inl, inr}
use Rattle.std.specs.List.{cons_option}
use Rattle.events.specs.declared.event.Event.{Event}
use Rattle.events.specs.declared.turn.Step.{Step}
use Rattle.events.specs.declared.turn.Turn.{Turn}
use Rattle.horizons.specs.Ready.{Ready}
use Rattle.keeper_book.specs.declared.calls.Call.{Call}
use Rattle.keeper_book.specs.declared.counters.Counter.{Counter}
use Rattle.keeper_book.specs.declared.counters.Counter.TheVariants as counter
use Rattle.turn_laws.proofs.Covers.{ready-as}
use Rattle.turn_laws.proofs.Deeds.{none-answering, untaken-ticket, Deed, IsOpen, Last, Rests, Used, UsesIt, UsesOne, Used_theirs, IsOpenTo, Spends, number_theirs}
use Rattle.turn_laws.proofs.Begun.{is_place-true, ours-spir}
use Rattle.turn_laws.proofs.Uses.{number_at, spent_of}
use Rattle.events.specs.declared.verdict.Verdict.{Verdict}
use Rattle.events.specs.declared.verdict.Verdict.TheVariants as out
use Rattle.turn_rules.proofs.SlotTies.{all-weaker}
use Rattle.turn_laws.specs.Listed.{request_at}
use Rattle.turn_laws.specs.Turns.{answered, answered_in}
use Rattle.turn_rules.specs.Datagrams.{Delivery, delivery_of}
use Rattle.turn_rules.specs.IkeState.{taken_id}
use Rattle.turn_rules.specs.Safe.{taken_as}
use Rattle.turn_rules.specs.Tasks.{receipt}
use Rattle.turn_laws.specs.Places.{Ours, Place, is_place, Theirs}
use Rattle.turn_rules.specs.Draws.{reach_of}
use Rattle.turn_rules.specs.Ends.{Member, own, performer_at, Peer}
use Rattle.turn_rules.specs.Held.{Held, held_by, window_by, used}

-- where no request is taken, none is answered
pub untaken-answered : (spir : ℕ) (event : Event) (verdict : Verdict) → taken_as verdict ≡ None → answered spir event verdict ≡ None
untaken-answered spir event verdict none = go (delivery_of event)
  where
    by_verdict : (verdict : Verdict) → taken_as verdict ≡ None → taken_id spir verdict ≡ None
    by_verdict (out.Executed name id mark) none = absurd (cc)
    by_verdict (out.Refusing name id notify) none = absurd (cc)
    by_verdict verdict none = refl

    go : (x : Option Delivery) → answered_in spir (receipt x) verdict ≡ None
    go None = refl
    go (Some delivery) = by_verdict verdict none

-- a member that holds an association uses a number of it, once that is ready
pub record UsesNext (past : List Turn) (event : Event) (calls : List Call) (step : Step) : Type 0 where
  pub member : ℕ
  pub held : Held
  pub c : Counter
  pub number : ℕ
  pub by_it : performer_at event step.verdict ≡ Some (Member member)
  pub is_held : held_by (window_by past) (own (Member member) past) held.sa.spir ≡ Some held
  pub is_open : IsOpen held c number
  pub ready : Ready (reach_of held c) number calls
      (λ why rest. (rest ≡ []) × Rests step)
      (λ high rest. (rest ≡ []) × UsesOne held.sa.spir c number event step)

pub number-here : (p q : Place) (k n : ℕ) → number_at p q k ≡ Some n → q ≡ p
number-here p q k n is = by_test (is_place q p) refl is
  where
    by_test : (b : Bool) → is_place q p ≡ b → (if b then Some k else None) ≡ Some n → q ≡ p
    by_test true t is = is_place-true q p t
    by_test false t is = absurd (cc)

pub one-listed : (x : Option ℕ) → cons_option x [] ≡ option_to_list x
one-listed None = refl
one-listed (Some n) = refl

one-uses : (spir : ℕ) (c : Counter) (n : ℕ) (event : Event) (step : Step) → UsesOne spir c n event step → UsesIt (spent_of (Ours spir c) n ∷ []) event step
one-uses spir c n event step it = record {
  ss = spent_of (Ours spir c) n ∷ [];
  were_needed = (inl refl, tt);
  answering = none-answering step it.spends.served it.spends.untaken;
  answers = λ other. untaken-answered other event step.verdict it.spends.untaken ∙ sym (ap (request_at (Ours other counter.Answer)) it.spends.untaken);
  uses_them = it.spends.uses_it;
  apart = (tt, tt);
  told = λ other d. one-listed (number_at (Ours other d) (Ours spir c) n) ∙ ap option_to_list (sym (it.told other d));
  not_theirs = λ name. refl;
  tickets = sym (ap option_to_list (untaken-ticket step.verdict it.spends.untaken));
  named = λ packet accepted other k is.
      (it.spends.of_packet packet accepted).0 ∙ number-here (Ours other counter.EspIn) (Ours spir c) n k (sym (it.told other counter.EspIn) ∙ is);
}

-- where another number is needed before it, which is not used
pub second-uses : (spir : ℕ) (c : Counter) (n k : ℕ) (event : Event) (step : Step) → UsesOne spir counter.Iv n event step → UsesIt (spent_of (Ours spir c) k ∷ spent_of (Ours spir counter.Iv) n ∷ []) event step
second-uses spir c n k event step it =
    let uses : UsesIt (spent_of (Ours spir counter.Iv) n ∷ []) event step = one-uses spir counter.Iv n event step it in
    record {
      ss = uses.ss;
      were_needed = all-weaker uses.ss (λ s among. inr among) uses.were_needed;
      answering = uses.answering;
      answers = uses.answers;
      uses_them = uses.uses_them;
      apart = uses.apart;
      told = uses.told;
      not_theirs = uses.not_theirs;
      tickets = uses.tickets;
      named = uses.named;
    }

pub one-used : {past : List Turn} {event : Event} {calls : List Call} {step : Step} → UsesNext past event calls step → Deed past event calls step
one-used {past} {event} {calls} {step} u = Used (record {
  member = u.member;
  needs = record { held = u.held; c = u.c; number = u.number; is_held = u.is_held; is_open = u.is_open } ∷ [];
  lot = None;
  by_it = u.by_it;
  ready = ready-as (reach_of u.held u.c) u.number
      (λ why rest. (rest ≡ []) × Rests step) (λ why rest. Last rest (Rests step))
      (λ high rest. (rest ≡ []) × UsesOne u.held.sa.spir u.c u.number event step) (λ high rest. Last rest (UsesIt (spent_of (Ours u.held.sa.spir u.c) u.number ∷ []) event step))
      (λ why rest s. record { ended = s.0; is = s.1 })
      (λ high rest s. record { ended = s.0; is = one-uses u.held.sa.spir u.c u.number event step s.1 })
      calls u.ready;
})

-- the peer uses a number of an association
pub record PeerUsesNext (past : List Turn) (event : Event) (calls : List Call) (step : Step) : Type 0 where
  pub test : Slot → Bool
  pub slot : Slot
  pub c : Counter
  pub number : ℕ
  pub by_it : performer_at event step.verdict ≡ Some Peer
  pub is_first : first_slot test (slots_by (window_by past) (own Peer past)) ≡ Some slot
  pub is_open : IsOpenTo slot c number
  pub no_calls : calls ≡ []
  pub spends : Spends (Theirs (peer_counter slot.sa c)) number event step
  pub not_ours : (spir : ℕ) (d : Counter) → used spir d event step ≡ None
  pub told : (other : ℕ) (d : Counter) → number_theirs other d event step ≡ number_at (Ours other d) (Ours slot.sa.spir c) number
  pub no_entry : record_entered event step.verdict ≡ None

pub ours-counter : (a b : ℕ) (c d : Counter) → Ours a c ≡ Ours b d → c ≡ d
ours-counter a b c d same = ap counter_in same
  where
    counter_in : Place → Counter
    counter_in (Ours spir counter) = counter
    counter_in p = c

pub one-peer-used : {past : List Turn} {event : Event} {calls : List Call} {step : Step} → PeerUsesNext past event calls step → Deed past event calls step
one-peer-used {past} {event} {calls} {step} u = Used_theirs (record {
  needs = record { test = u.test; slot = u.slot; c = u.c; number = u.number; is_first = u.is_first; is_open = u.is_open } ∷ [];
  by_it = u.by_it;
  no_calls = u.no_calls;
  answering = none-answering step u.spends.served u.spends.untaken;
  not_answered = λ other. ap (request_at (Ours other counter.Answer)) u.spends.untaken;
  uses_them = u.spends.uses_it;
  apart = (tt, tt);
  not_ours = u.not_ours;
  told = λ other d. one-listed (number_at (Ours other d) (Ours u.slot.sa.spir u.c) u.number) ∙ ap option_to_list (sym (u.told other d));
  named = λ packet accepted other n is.
      let here : Ours u.slot.sa.spir u.c ≡ Ours other counter.EspIn = number-here (Ours other counter.EspIn) (Ours u.slot.sa.spir u.c) u.number n (sym (u.told other counter.EspIn) ∙ is) in
      inl (
        ours-spir u.slot.sa.spir other u.c counter.EspIn here,
        (u.spends.of_packet packet accepted).0 ∙ ap (λ c. Theirs (peer_counter u.slot.sa c)) (ours-counter u.slot.sa.spir other u.c counter.EspIn here),
      );
  no_entry = u.no_entry;
  no_ticket = untaken-ticket step.verdict u.spends.untaken;
})
