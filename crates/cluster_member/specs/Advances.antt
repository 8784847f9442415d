-- What a task makes of what is held of one association, as the rules say it.
use Rattle.std.specs.Prelude.{ℕ, ◌≡◌, ◌==◌, false, None, List}
use Rattle.events.specs.declared.turn.Step.{Step}
use Rattle.events.specs.declared.verdict.EspVerdict.{EspVerdict}
use Rattle.keeper_book.specs.declared.calls.Call.{Call}
use Rattle.turn_rules.specs.Held.{Held, advanced, grant_in}
use Rattle.turn_rules.specs.Packets.{IsVerdictOf}
use Rattle.turn_rules.specs.Steps.{IsQuiet}
use Rattle.turn_rules.specs.Tasks as task
use Rattle.turn_rules.specs.Tasks.{Task}

-- its association is held as the turn makes it, and the turn makes nothing of others
pub record Advances (old : Held) (asked : Task) (calls : List Call) (step : Step)
    (new : Held) : Type 0 where
  pub no_grant : (spir : ℕ) → grant_in spir calls ≡ None
  pub now : new ≡ advanced old.sa.spir asked calls step old
  pub elsewhere : (spir : ℕ) → (old.sa.spir == spir) ≡ false → (held : Held)
      → advanced spir asked calls step held ≡ held

-- the same of a packet, by the quiet step that words the answer
abbrev pub AdvancesByPacket : Held → List Call → EspVerdict → List ℕ → Held → Type 0
AdvancesByPacket old calls answered after new = (step : Step)
    → IsVerdictOf answered after step.verdict → IsQuiet step
    → Advances old task.Receive calls step new
