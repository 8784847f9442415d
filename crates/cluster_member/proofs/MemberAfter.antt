-- What a member is after a task that left it its numbers of tickets.
use Rattle.std.proofs.Common.{◌≡◌, ℕ, Option, Some, None, List, [], refl, ap, sym, subst}
use Rattle.events.specs.declared.turn.Step.{Step}
use Rattle.ha_base.specs.declared.counter_names.End.TheVariants as end
use Rattle.ike_window.specs.Kept.{kept_octets}
use Rattle.keeper_book.specs.declared.calls.Call.{Call}
use Rattle.spend_once.specs.Lot.{Remaining}
use Rattle.turn_rules.proofs.Cases.{by_option}
use Rattle.turn_rules.specs.Configurations.{Configuration}
use Rattle.turn_rules.specs.Held.{Held, after_number, held_at, iv_in}
use Rattle.turn_rules.specs.MemberMessages.{ResendsOf}
use Rattle.turn_rules.specs.Tasks as task
use Rattle.turn_rules.specs.Tasks.{Task}
use Rattle.turn_rules.specs.TicketNumbers.{numbers_after, ticket_number}
use Rattle.cluster_member.proofs.Placed.{stays-held}
use Rattle.cluster_member.proofs.Unticketed.{quiet-numbers, resends-unused}
use Rattle.cluster_member.specs.Members.{Holder, HoldsOn, IsAfter}

-- a member that holds this
abbrev pub holder : ℕ → Configuration → List ℕ → Remaining → List Held → Holder
holder number config fresh numbers held = record { number = number; config = config; fresh = fresh; held = held; numbers = numbers }

module _ (number : ℕ) (config : Configuration) (fresh : List ℕ) (numbers : Remaining) (before now : List Held) (old : Holder)
    (view : holder number config fresh numbers before ≡ old) (asked : Task) (calls : List Call) (step : Step) where
  -- by a rule of what it was
  pub member-follows : (Rule : Holder → Type 0) → Rule (holder number config fresh numbers before) → HoldsOn asked calls step before now
      → numbers ≡ numbers_after calls step numbers → Rule old × IsAfter asked calls step old (holder number config fresh numbers now)
  member-follows Rule rule on same = subst (λ (o : Holder). Rule o × IsAfter asked calls step o (holder number config fresh numbers now)) view
      (rule, record { number = refl; config = refl; fresh = refl; holds = on config.window; numbers = same })

-- a request is sent again, and nothing is sealed
resends-sealed : (x : Option Held) (id : ℕ) (step : Step) → ResendsOf x id [] step → step.seals ≡ []
resends-sealed None id step resends = resends.1.quiet.seals
resends-sealed (Some held) id step resends = by_option (kept_octets id held.asked) (λ none says. says.quiet.seals) (λ octets some gives. gives.seals) resends.1

resends-holds : (held : List Held) (spir id : ℕ) (step : Step) → step.seals ≡ [] → HoldsOn (task.Again spir id) [] step held held
resends-holds held spir id step sealed size s = sym (stays-held size (task.Again spir id) [] step s refl
    (λ h. ap (λ seals. record h { nexts = record h.nexts { iv = after_number (iv_in end.Cluster s seals) h.nexts.iv } }) sealed) (held_at held s))

pub again-follows : (number : ℕ) (config : Configuration) (fresh : List ℕ) (numbers : Remaining) (held : List Held) (old : Holder)
    → holder number config fresh numbers held ≡ old → (spir id : ℕ) (step : Step) → ResendsOf (held_at held spir) id [] step
    → ResendsOf (held_at old.held spir) id [] step × IsAfter (task.Again spir id) [] step old old
again-follows number config fresh numbers held old view spir id step resends =
    subst (λ (o : Holder). ResendsOf (held_at o.held spir) id [] step × IsAfter (task.Again spir id) [] step o o) view (
      resends,
      record {
        number = refl;
        config = refl;
        fresh = refl;
        holds = resends-holds held spir id step (resends-sealed (held_at held spir) id step resends) config.window;
        numbers = quiet-numbers step numbers (resends-unused (held_at held spir) id step resends);
      },
    )

-- ---- a message by which no request is answered

-- the member is as it was but for what it holds
module _ (number : ℕ) (config : Configuration) (fresh : List ℕ) (numbers : Remaining) (before now : List Held) (old : Holder)
    (view : holder number config fresh numbers before ≡ old) (step : Step) where
  pub quiet-after : HoldsOn task.Receive [] step before now → ticket_number step.verdict ≡ None → IsAfter task.Receive [] step old (holder number config fresh numbers now)
  quiet-after on unused = subst (λ (o : Holder). IsAfter task.Receive [] step o (holder number config fresh numbers now)) view
      (record { number = refl; config = refl; fresh = refl; holds = on config.window; numbers = quiet-numbers step numbers unused })

pub same-after : (holder : Holder) (step : Step) → HoldsOn task.Receive [] step holder.held holder.held → ticket_number step.verdict ≡ None → IsAfter task.Receive [] step holder holder
same-after holder step on unused = record { number = refl; config = refl; fresh = refl; holds = on holder.config.window; numbers = quiet-numbers step holder.numbers unused }
