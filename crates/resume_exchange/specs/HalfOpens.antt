-- The half-open associations of a member.
use Rattle.std.specs.Prelude.{ℕ, ◌-◌, Bool, nat_lt}
use Rattle.resume_exchange.specs.declared.half_opens.HalfOpen.{HalfOpen}
use Rattle.resume_exchange.specs.declared.half_opens.TheConstants.{HALF_OPEN_AGE}

-- it was begun less than 60 seconds ago
abbrev pub is_live : ℕ → HalfOpen → Bool
is_live now half_open = nat_lt (now - half_open.begun.0) HALF_OPEN_AGE
