-- The pools from which members draw numbers.
use Rattle.std.specs.Prelude.{ℕ, ◌+◌, ◌≤◌}
use Rattle.keeper_book.specs.declared.pools.Pool.{Pool}
use Rattle.keeper_book.specs.declared.pools.Pool.TheVariants as pool
use Rattle.keeper_book.specs.declared.pools.PoolNumbers.{PoolNumbers}
use Rattle.keeper_book.specs.declared.pools.TheConstants.{FIRST_POOL_NUMBER, NONCE_NUMBERS_END, TICKET_NUMBERS_END}

-- no number of a pool reaches its end
abbrev pub pool_end : Pool → ℕ
pool_end pool.Ticket = TICKET_NUMBERS_END
pool_end pool.Nonce = NONCE_NUMBERS_END

-- the number of a pool
abbrev pub pool_number : Pool → PoolNumbers → ℕ
pool_number pool.Ticket numbers = numbers.ticket
pool_number pool.Nonce numbers = numbers.nonce

-- the same numbers but for the one of this pool
abbrev pub with_number : Pool → ℕ → PoolNumbers → PoolNumbers
with_number pool.Ticket n numbers = record numbers { ticket = n }
with_number pool.Nonce n numbers = record numbers { nonce = n }

-- so many numbers from the first one on are numbers of the pool
pub record IsRangeOf (pool : Pool) (count first : ℕ) : Type 0 where
  pub begins : FIRST_POOL_NUMBER ≤ first
  pub ends : first + count ≤ pool_end pool

-- the next number of each pool lies in it, or is its end
pub record ArePoolNumbers (numbers : PoolNumbers) : Type 0 where
  pub ticket : IsRangeOf pool.Ticket 0 numbers.ticket
  pub nonce : IsRangeOf pool.Nonce 0 numbers.nonce
