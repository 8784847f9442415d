-- What a member is seen as, and what its calls make of what it holds.
use Rattle.std.specs.Prelude.{ℕ, ◌≡◌, ◌⊎◌, Some, List, [], ◌∷◌}
use Rattle.events.specs.declared.turn.Step.{Step}
use Rattle.events.specs.declared.verdict.EspVerdict.{EspVerdict}
use Rattle.ha_base.specs.declared.identities.Identity.{Identity}
use Rattle.keeper_book.specs.Asks.{Asks}
use Rattle.keeper_book.specs.Told.{seen}
use Rattle.keeper_book.specs.declared.calls.Call.{Call}
use Rattle.keeper_book.specs.declared.calls.KeeperAnswer.TheVariants as answer
use Rattle.keeper_book.specs.declared.faults.KeeperFault.TheVariants as fault
use Rattle.keeper_book.specs.declared.keepers.Keeper.{Ghosts}
use Rattle.spend_once.specs.Lot.{Remaining}
use Rattle.ticket_issuing.specs.Issuing.{Issuing}
use Rattle.turn_rules.specs.Configurations.{Configuration, membership}
use Rattle.turn_rules.specs.Held.{Held, held_after, held_at}
use Rattle.turn_rules.specs.MemberStates.{MemberHeld}
use Rattle.turn_rules.specs.Packets.{IsVerdictOf}
use Rattle.turn_rules.specs.Steps.{IsQuiet}
use Rattle.turn_rules.specs.Tasks as task
use Rattle.turn_rules.specs.Tasks.{Task}
use Rattle.turn_rules.specs.TicketNumbers.{numbers_after}
use Rattle.cluster_member.specs.declared.config.Config.{Config}

abbrev pub configuration_of : Config → Configuration
configuration_of config = record {
  identity = config.identity;
  lifetime = config.lifetime;
  window = config.window;
  ticket_key = config.ticket_key;
}

-- the same of an identity, a size of receive windows, and what tickets are issued with
abbrev pub configuration_with : Identity → ℕ → Issuing → Configuration
configuration_with identity window issuing = record {
  identity = identity;
  lifetime = issuing.lifetime;
  window = window;
  ticket_key = issuing.key;
}

-- a member: its number, how it is configured, its fresh octets, what it holds, by association, and
-- the numbers of tickets that it has left
pub record Holder : Type 0 where
  pub number : ℕ
  pub config : Configuration
  pub fresh : List ℕ
  pub held : List Held
  pub numbers : Remaining

-- what the rules see of it
abbrev pub member_held : Holder → MemberHeld
member_held holder = record {
  given = Some (membership holder.config holder.fresh);
  held = held_at holder.held;
  numbers = holder.numbers;
}

-- each association is held as the turn makes it of what was held, with receive windows of this size
abbrev pub HoldsAfter : ℕ → Task → List Call → Step → List Held → List Held → Type 0
HoldsAfter size asked calls step old new = (spir : ℕ)
    → held_at new spir ≡ held_after size spir asked calls step (held_at old spir)

-- the same, whatever the size is: no association is granted
abbrev pub HoldsOn : Task → List Call → Step → List Held → List Held → Type 0
HoldsOn asked calls step old new = (size : ℕ) → HoldsAfter size asked calls step old new

-- the same of a packet, by the quiet step that words the answer
abbrev pub ReceivesOn : List Call → EspVerdict → List ℕ → List Held → List Held → Type 0
ReceivesOn calls answered after old new = (step : Step) → IsVerdictOf answered after step.verdict
    → IsQuiet step → HoldsOn task.Receive calls step old new

-- what a member is after a task
pub record IsAfter (asked : Task) (calls : List Call) (step : Step)
    (old new : Holder) : Type 0 where
  pub number : new.number ≡ old.number
  pub config : new.config ≡ old.config
  pub fresh : new.fresh ≡ old.fresh
  pub holds : HoldsAfter old.config.window asked calls step old.held new.held
  pub numbers : new.numbers ≡ numbers_after calls step old.numbers

-- the same of a packet, by the quiet step that words the answer
abbrev pub IsAfterPacket : List Call → EspVerdict → List ℕ → Holder → Holder → Type 0
IsAfterPacket calls answered after old new = (step : Step) → IsVerdictOf answered after step.verdict
    → IsQuiet step → IsAfter task.Receive calls step old new

-- for want of memory: the keeper is as it was, or it was asked once and lacked the memory itself
abbrev pub AsksInVain : {K : Type 0} → Ghosts K → K → K → Type 0
AsksInVain keeper old new = (new ≡ old)
    ⊎ ((call : Call) × (seen call ≡ answer.Refused fault.Memory) × Asks keeper old (call ∷ []) new
    × (keeper.held new ≡ keeper.held old))
