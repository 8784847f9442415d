-- Which counters are those of an association.
use Rattle.std.specs.Prelude.{ℕ, ◌==◌, Bool, false, Option, Some, None, if◌then◌else◌}
use Rattle.ha_base.specs.declared.counter_names.CounterName.{CounterName}
use Rattle.keeper_book.specs.Records.{spir_of_origin}

abbrev pub is_of_spir : ℕ → Option ℕ → Bool
is_of_spir spir None = false
is_of_spir spir (Some other) = other == spir

-- the counter is one of the association with this responder's SPI
abbrev pub is_counter_of : ℕ → CounterName → Bool
is_counter_of spir name = is_of_spir spir (spir_of_origin name.origin)

-- a number of a counter of the association, and none of another one
abbrev pub number_under : ℕ → CounterName → ℕ → Option ℕ
number_under spir name number = if is_counter_of spir name then Some number else None
