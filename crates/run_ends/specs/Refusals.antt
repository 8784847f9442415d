-- When a datagram that is meant is refused.
use Rattle.std.specs.Prelude.{ℕ, nat_lt, length, Option, Some, None}
use Rattle.events.specs.declared.verdict.Refusal.{Refusal}
use Rattle.events.specs.declared.verdict.Refusal.TheVariants as refusal
use Rattle.turn_rules.specs.Datagrams.{PlainDatagram}
use Rattle.turn_rules.specs.Fits.{refused_where}

-- there is none, or it has fewer octets
abbrev pub refused_short : ℕ → Option PlainDatagram → Option Refusal
refused_short least None = Some refusal.NoDatagram
refused_short least (Some datagram) =
    refused_where (nat_lt (length datagram.octets) least) refusal.NoOctet None
