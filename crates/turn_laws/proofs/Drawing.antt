-- Each draw that is explained is a deed.
use Rattle.std.proofs.Common.{◌≡◌, ℕ, ◌==◌, false, Some, List, [], refl, ap, sym, ◌∙◌, subst, arith}
use Rattle.events.specs.declared.event.Event.TheVariants as event
use Rattle.events.specs.declared.turn.Step.{Step}
use Rattle.events.specs.declared.turn.Turn.{Turn}
use Rattle.events.specs.declared.verdict.Verdict.TheVariants as out
use Rattle.ha_base.specs.declared.counter_names.End.TheVariants as end
use Rattle.horizons.specs.declared.stop.Stop.{Stop}
use Rattle.keeper_book.specs.Counters.{five_at}
use Rattle.keeper_book.specs.declared.calls.Call.{Call}
use Rattle.keeper_book.specs.declared.counters.Counter.{Counter}
use Rattle.keeper_book.specs.declared.counters.Counter.TheVariants as counter
use Rattle.turn_laws.specs.Acts.{Uses}
use Rattle.turn_laws.proofs.Covers.{ready-as, ready-calls}
use Rattle.turn_laws.proofs.Single.{one-used}
use Rattle.turn_laws.proofs.Deeds.{Deed, IsIdle, Rests, Spends, UsesOne, quiet-rests, rest_of}
use Rattle.turn_laws.proofs.Members.{member-performs}
use Rattle.turn_laws.proofs.Names.{number-failed, number-passed}
use Rattle.turn_laws.proofs.Uses.{Counts, number_at, used-alone}
use Rattle.turn_laws.specs.Places.{Ours}
use Rattle.turn_laws.specs.Turns.{number_taken}
use Rattle.turn_rules.proofs.Refusals.{stop-own}
use Rattle.turn_rules.specs.Draws.{Concludes, Draws, reach_of, refusal_of_stop}
use Rattle.turn_rules.specs.Ends.{Member, is_refused_by_run, own}
use Rattle.turn_rules.specs.Fits.{Quietly}
use Rattle.turn_rules.specs.Held.{Held, held_by, iv_in, said_in, window_by}
use Rattle.turn_rules.specs.Safe.{Packet, accepted_as, taken_as}
use Rattle.turn_rules.specs.Steps.{IsQuiet}
use Rattle.turn_rules.specs.Tasks as task

-- a number that was drawn
drawn-told : (member spir n other : ℕ) (d : Counter) (step : Step) → step.verdict ≡ out.Number n → IsQuiet step → number_taken other d (event.Draw member spir) step ≡ number_at (Ours other d) (Ours spir counter.EspOut) n
drawn-told member spir n other counter.EspOut step said quiet = ap (said_in other counter.EspOut (task.Draw spir)) said ∙ number-passed (spir == other) n
drawn-told member spir n other counter.EspIn step said quiet = number-failed (spir == other) n
drawn-told member spir n other counter.Iv step said quiet = ap (iv_in end.Cluster other) quiet.seals ∙ number-failed (spir == other) n
drawn-told member spir n other counter.Ask step said quiet = number-failed (spir == other) n
drawn-told member spir n other counter.Answer step said quiet = number-failed (spir == other) n

-- a draw, by what the member holds
module _ (past : List Turn) (step : Step) (member spir : ℕ) (held : Held) (own_spir : held.sa.spir ≡ spir)
    (is_held : held_by (window_by past) (own (Member member) past) spir ≡ Some held) (calls : List Call) (quietly : Quietly (Draws held) calls step) where
  abbrev next : ℕ
  next = five_at held.nexts counter.EspOut

  abbrev Stopped : Stop → List Call → Type 0
  Stopped why rest = Concludes rest step.verdict (out.Refused (refusal_of_stop why))

  abbrev Drew : ℕ → List Call → Type 0
  Drew high rest = Concludes rest step.verdict (out.Number next)

  draw-not_run : is_refused_by_run step.verdict ≡ false
  draw-not_run = ready-calls (λ calls. is_refused_by_run step.verdict ≡ false) (reach_of held counter.EspOut) next Stopped Drew
      (λ call rest asked is. is)
      (λ why rest c. rw c.said (stop-own why))
      (λ high rest c. rw c.said)
      calls quietly.follows

  draw-spends : step.verdict ≡ out.Number next → Spends (Ours spir counter.EspOut) next (event.Draw member spir) step
  draw-spends said = record {
    served = quietly.quiet.served;
    untaken = ap taken_as said;
    uses_it = used-alone (Ours spir counter.EspOut) next (Uses (Ours spir counter.EspOut) next) (rest_of (event.Draw member spir) step) (Counts refl) (let none : _ = quietly.quiet.seals in rw (said, none));
    of_packet = λ packet is. absurd (no_packet packet (ap accepted_as (sym said) ∙ is));
  }
    where
      no_packet : (packet : Packet) → accepted_as (out.Number next) ≡ Some packet → ⊥
      no_packet packet is = absurd (cc)

  draw-uses : step.verdict ≡ out.Number next → UsesOne spir counter.EspOut next (event.Draw member spir) step
  draw-uses said = record {
    spends = draw-spends said;
    told = λ other d. drawn-told member spir next other d step said quietly.quiet;
  }

  pub draws-deed : Deed past (event.Draw member spir) calls step
  draws-deed = one-used (record {
    member = member;
    held = held;
    c = counter.EspOut;
    number = next;
    by_it = member-performs (event.Draw member spir) step.verdict member refl draw-not_run;
    is_held = subst (λ n. held_by (window_by past) (own (Member member) past) n ≡ Some held) (sym own_spir) is_held;
    is_open = omega arith;
    ready = ready-as (reach_of held counter.EspOut) next Stopped (λ why rest. (rest ≡ []) × Rests step) Drew (λ high rest. (rest ≡ []) × UsesOne held.sa.spir counter.EspOut next (event.Draw member spir) step)
        (λ why rest c. (c.no_more, quiet-rests step (subst (λ v. IsIdle v) (sym c.said) tt) quietly.quiet))
        (λ high rest c. (c.no_more, subst (λ n. UsesOne n counter.EspOut next (event.Draw member spir) step) (sym own_spir) (draw-uses c.said)))
        calls quietly.follows;
  })
