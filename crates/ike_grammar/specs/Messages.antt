-- Reading a whole message: its header, and the chain behind it.
use Rattle.std.specs.Prelude.{◌≡◌, ℕ, ◌/◌, ◌==◌, nat_lt, not, Bool, false, List, [], ◌∷◌, length, slice_index, take, drop, Result, Ok, Err}
use Rattle.std.specs.Int.{w32, w64, from_be_bytes}
use Rattle.ike_values.specs.declared.header.Header.{Header}
use Rattle.ike_values.specs.declared.header.Message.{Message}
use Rattle.ike_values.specs.Headers.{has_flag}
use Rattle.ike_values.specs.declared.fault.Bad.{Bad}
use Rattle.ike_values.specs.declared.fault.Reason.{Reason}
use Rattle.ike_values.specs.declared.fault.Reason.TheVariants.{Short, Length, Version}
use Rattle.ike_grammar.specs.Faults.{◌>>=◌, refuse, unless}
use Rattle.ike_grammar.specs.Chain.{chain_at}

abbrev pub header_tests : List ℕ → List (Bool × Bad)
header_tests bytes =
    refuse (nat_lt (length bytes) 28) 0 Short
    ∷ refuse (not (slice_index bytes 17 / 16 == 2)) 17 Version
    ∷ refuse (not (from_be_bytes w32 (take 4 (drop 24 bytes)) == length bytes)) 24 Length
    ∷ []

abbrev pub header_read : List ℕ → Header
header_read bytes =
    record {
      spii = from_be_bytes w64 (take 8 bytes);
      spir = from_be_bytes w64 (take 8 (drop 8 bytes));
      exchange = slice_index bytes 18;
      initiator = has_flag (slice_index bytes 19) 8;
      response = has_flag (slice_index bytes 19) 32;
      id = from_be_bytes w32 (take 4 (drop 20 bytes));
    }

unfoldable pub header_at : List ℕ → Result Header Bad
header_at bytes = unless (header_tests bytes) (Ok (header_read bytes))

unfoldable pub message_at : List ℕ → Result Message Bad
message_at bytes = do
  header ← header_at bytes
  payloads ← chain_at (length bytes) false (slice_index bytes 16) (drop 28 bytes)
  Ok (record { header = header; payloads = payloads })

-- The first test that is met, from the left, refuses the message there and for this reason.
abbrev pub MessageRefused : List ℕ → ℕ → Reason → Type 0
MessageRefused bytes place reason = message_at bytes
    ≡ Err (record { place = place; reason = reason })
