-- The counters that the book keeps of an association, and where they end.
use Rattle.std.specs.Prelude.{ℕ, ◌≤◌, ◌==◌, Option, Some, None, if◌then◌else◌}
use Rattle.ha_base.specs.declared.limits.TheConstants.{IV_END, MESSAGE_ID_END, SEQUENCE_END}
use Rattle.ha_base.specs.declared.counter_names.Kind.{Kind}
use Rattle.ha_base.specs.declared.counter_names.Kind.TheVariants as kind
use Rattle.keeper_book.specs.declared.counters.Counter.{Counter}
use Rattle.keeper_book.specs.declared.counters.Counter.TheVariants.{EspOut, EspIn, Iv, Ask, Answer}
use Rattle.keeper_book.specs.declared.counters.Five.{Five}

-- the counter, where the child is this one
abbrev pub of_child : Counter → ℕ → ℕ → Option Counter
of_child c n child = if child == n then Some c else None

-- which counter of an association a kind and a child name
abbrev pub counter_named : Kind → ℕ → Option Counter
counter_named kind.EspOut child = of_child EspOut 1 child
counter_named kind.EspIn child = of_child EspIn 1 child
counter_named kind.Iv child = of_child Iv 0 child
counter_named kind.Ask child = of_child Ask 0 child
counter_named kind.Answer child = of_child Answer 0 child
counter_named kind.TicketIv child = None
counter_named kind.Nonce child = None

-- which counter of an association is of this kind
abbrev pub counter_of_kind : Kind → Option Counter
counter_of_kind kind.EspOut = Some EspOut
counter_of_kind kind.EspIn = Some EspIn
counter_of_kind kind.Iv = Some Iv
counter_of_kind kind.Ask = Some Ask
counter_of_kind kind.Answer = Some Answer
counter_of_kind kind.TicketIv = None
counter_of_kind kind.Nonce = None

-- no number of a counter reaches this end, where sequence numbers are extended (RFC 4303, section
-- 2.2.1)
abbrev pub extended_end : Counter → ℕ
extended_end EspOut = SEQUENCE_END
extended_end EspIn = SEQUENCE_END
extended_end Iv = IV_END
extended_end Ask = MESSAGE_ID_END
extended_end Answer = MESSAGE_ID_END

-- the number of a counter
abbrev pub five_at : Five → Counter → ℕ
five_at five EspOut = five.esp_out
five_at five EspIn = five.esp_in
five_at five Iv = five.iv
five_at five Ask = five.ask
five_at five Answer = five.answer

-- the same numbers but for this one
abbrev pub with_five : Counter → ℕ → Five → Five
with_five EspOut n five = record five { esp_out = n }
with_five EspIn n five = record five { esp_in = n }
with_five Iv n five = record five { iv = n }
with_five Ask n five = record five { ask = n }
with_five Answer n five = record five { answer = n }

-- each number is at most the end of its counter
pub record AreWithinEnds (five : Five) : Type 0 where
  pub esp_out : five.esp_out ≤ SEQUENCE_END
  pub esp_in : five.esp_in ≤ SEQUENCE_END
  pub iv : five.iv ≤ IV_END
  pub ask : five.ask ≤ MESSAGE_ID_END
  pub answer : five.answer ≤ MESSAGE_ID_END
