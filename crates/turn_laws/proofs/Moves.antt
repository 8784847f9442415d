-- The moves of an event beside its calls and seals are uses of numbers, or the end of a member.
use Rattle.std.proofs.Common.{ℕ, Option, Some, None, List, [], ◌∷◌}
use Rattle.std.specs.List.{AllByRecursion}
use Rattle.events.specs.declared.event.Event.{Event}
use Rattle.events.specs.declared.event.Event.TheVariants as event
use Rattle.events.specs.declared.seals.Seal.{Seal}
use Rattle.events.specs.declared.verdict.Verdict.{Verdict}
use Rattle.events.specs.declared.verdict.Verdict.TheVariants as out
use Rattle.turn_laws.specs.Acts.{Calls, Ends, Leaps, Move, Opens, Seals, Starts, Uses}
use Rattle.turn_laws.specs.Turns.{asked_by, drawn_by, end_moves, uses_of}
use Rattle.turn_rules.specs.States.{ended_by}

abbrev pub IsUseOrEnd : Move → Type 0
IsUseOrEnd (Calls call) = ⊥
IsUseOrEnd (Uses place number) = Unit {0}
IsUseOrEnd (Seals key) = ⊥
IsUseOrEnd (Leaps place number) = ⊥
IsUseOrEnd (Opens ticket made) = ⊥
IsUseOrEnd (Starts sa) = ⊥
IsUseOrEnd Ends = Unit {0}

drawn-uses : (event : Event) (n : ℕ) → AllByRecursion IsUseOrEnd (drawn_by event n)
drawn-uses (event.Draw member spir) n = (tt, tt)
drawn-uses event n = tt

end-is : (x : Option ℕ) → AllByRecursion IsUseOrEnd (end_moves x)
end-is None = tt
end-is (Some member) = (tt, tt)

asked-uses : (seals : List Seal) (id : ℕ) → AllByRecursion IsUseOrEnd (asked_by seals id)
asked-uses [] id = tt
asked-uses (seal ∷ seals) id = (tt, tt)

pub are-uses : (event : Event) (verdict : Verdict) (seals : List Seal) → AllByRecursion IsUseOrEnd (uses_of event verdict seals)
are-uses event (out.Number n) seals = drawn-uses event n
are-uses event (out.Accepted name n next_header payload) seals = (tt, tt)
are-uses event (out.Asked id) seals = asked-uses seals id
are-uses event (out.Executed name id mark) seals = (tt, tt)
are-uses event (out.Refusing name id notify) seals = (tt, tt)
are-uses event verdict seals = end-is (ended_by event verdict)
