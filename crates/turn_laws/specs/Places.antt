-- The counters of a run, each with its numbers.
use Rattle.std.specs.Prelude.{ℕ, ◌==◌, ◌&&◌, Bool, true, false, Option, Some, None, map}
use Rattle.ha_base.specs.declared.counter_names.CounterName.{CounterName}
use Rattle.ha_base.specs.declared.counter_names.End.{End}
use Rattle.ha_base.specs.declared.counter_names.End.TheVariants as end
use Rattle.ha_base.specs.declared.counter_names.Kind.{Kind}
use Rattle.ha_base.specs.declared.counter_names.Kind.TheVariants as kind
use Rattle.ha_base.specs.declared.counter_names.Origin.{Origin}
use Rattle.ha_base.specs.declared.counter_names.Origin.TheVariants as origin
use Rattle.keeper_book.specs.Book.{Book, Entry, entry_of, pool_next}
use Rattle.keeper_book.specs.CounterEnds.{end_of}
use Rattle.keeper_book.specs.Counters.{counter_named, five_at}
use Rattle.keeper_book.specs.Pools.{pool_end}
use Rattle.keeper_book.specs.Records.{spir_of_origin}
use Rattle.keeper_book.specs.declared.counters.Counter.{Counter}
use Rattle.keeper_book.specs.declared.counters.Counter.TheVariants as counter
use Rattle.keeper_book.specs.declared.pools.Pool.{Pool}
use Rattle.keeper_book.specs.declared.pools.Pool.TheVariants as pools
use Rattle.keeper_book.specs.declared.records.Record.{Record}
use Rattle.turn_laws.specs.Columns.{Column}
use Rattle.turn_laws.specs.Names.{is_name}
use Rattle.turn_rules.specs.Held.{is_counter}

-- A counter of the cluster, by the association's responder's SPI, a counter under its whole name,
-- or a pool. Under their names stand the peer's counters, so that an association that takes an SPI
-- which another one had has counters of its own. A name of the cluster that is no counter of an
-- association and no pool stands there too, and nobody holds numbers of it.
pub data Place : Type 0 where
  Ours : (spir : ℕ) → (counter : Counter) → Place
  Theirs : (name : CounterName) → Place
  Pooled : (pool : Pool) → Place

abbrev pub is_pool : Pool → Pool → Bool
is_pool pools.Ticket pools.Ticket = true
is_pool pools.Nonce pools.Nonce = true
is_pool p q = false

abbrev pub is_place : Place → Place → Bool
is_place (Ours a c) (Ours b d) = (a == b) && is_counter c d
is_place (Theirs a) (Theirs b) = is_name a b
is_place (Pooled p) (Pooled q) = is_pool p q
is_place p q = false

-- the numbers under a ticket key, of whatever generation, and those in nonces
abbrev pub place_pooled : CounterName → Origin → Kind → Place
place_pooled name (origin.TicketKey generation) kind.TicketIv = Pooled pools.Ticket
place_pooled name origin.Pool kind.Nonce = Pooled pools.Nonce
place_pooled name origin k = Theirs name

-- a name of the cluster, of whatever association and counter
abbrev pub place_named : CounterName → Option ℕ → Option Counter → Place
place_named name (Some spir) (Some c) = Ours spir c
place_named name spir c = place_pooled name name.origin name.kind

abbrev pub place_by : CounterName → End → Place
place_by name end.Cluster = place_named name (spir_of_origin name.origin)
    (counter_named name.kind name.child)
place_by name end.Peer = Theirs name

-- where the numbers of a name are
abbrev pub place_of : CounterName → Place
place_of name = place_by name name.end

-- the counter of the other end that counts the same: what one sends, the other receives
abbrev pub mirrored : Counter → Counter
mirrored counter.EspOut = counter.EspIn
mirrored counter.EspIn = counter.EspOut
mirrored counter.Iv = counter.Iv
mirrored counter.Ask = counter.Answer
mirrored counter.Answer = counter.Ask

-- where a counter of the peer begins
abbrev pub start_of : Record → Counter → ℕ
start_of sa c = five_at sa.starts (mirrored c)

-- The cluster's epochs are those of the book, once it has the association. Before, what is half
-- open has the first one.
abbrev pub column_ours : Counter → Column → Option Entry → Column
column_ours c begun None = begun
column_ours c begun (Some e) = record {
  bases = map (λ five. five_at five c) e.bases;
  high = five_at e.highs c;
  end = end_of e.sa c;
}

-- The numbers of a place, by what began there without the book, and by the book. Those of the peer
-- are not in the book, and of a pool it has the next number alone.
abbrev pub column : Place → Column → Book → Column
column (Ours spir c) begun book = column_ours c begun (entry_of spir book.entries)
column (Theirs name) begun book = begun
column (Pooled pool) begun book = record {
  bases = begun.bases;
  high = pool_next pool book;
  end = pool_end pool;
}
