-- Where the counters of an association end.
use Rattle.std.specs.Prelude.{ℕ}
use Rattle.keeper_book.specs.Counters.{extended_end}
use Rattle.keeper_book.specs.declared.counters.Counter.{Counter}
use Rattle.keeper_book.specs.declared.records.Record.{Record}

-- No number of a counter reaches its end, which the record of the association gives: the sequence
-- numbers of each are extended.
abbrev pub end_of : Record → Counter → ℕ
end_of sa c = extended_end c
