-- The fields that only events have, each a word.
use Rattle.std.specs.Prelude.{ℕ, ◌^◌, ◌==◌, ◌||◌, Bool, List, length, codes, Result, Ok, Err, if◌then◌else◌}
use Rattle.std.specs.Str.{bytes_eq}
use Rattle.ha_base.specs.declared.limits.TheConstants.{NUMBER_END}
use Rattle.line_fields.specs.declared.fault.LineReason.{LineReason}
use Rattle.line_fields.specs.declared.fault.LineReason.TheVariants as reasons
use Rattle.line_fields.specs.Numbers.{number_in_word}
use Rattle.line_fields.specs.Octets.{sized}
use Rattle.events.specs.declared.event.Party.{Party}
use Rattle.events.specs.declared.event.Party.TheVariants as parties
use Rattle.events.specs.declared.event.Which.{Which}
use Rattle.events.specs.declared.event.Which.TheVariants as whiches
use Rattle.events.specs.declared.turn.Medium.{Medium}
use Rattle.events.specs.declared.turn.Medium.TheVariants as mediums

-- a member's number
abbrev pub member_in_word : List ℕ → Result ℕ LineReason
member_in_word = number_in_word 0 NUMBER_END

abbrev pub member_in : Result ℕ LineReason → Result Party LineReason
member_in (Ok number) = Ok (parties.Member number)
member_in (Err reason) = Err reason

-- an end
abbrev pub party_of : List ℕ → Result Party LineReason
party_of w = if bytes_eq w (codes "peer") then Ok parties.Peer else member_in (member_in_word w)

abbrev pub numbered_in : Result ℕ LineReason → Result Which LineReason
numbered_in (Ok number) = Ok (whiches.Number number)
numbered_in (Err reason) = Err reason

-- a datagram
abbrev pub which_of : List ℕ → Result Which LineReason
which_of w = if bytes_eq w (codes "last") then Ok whiches.Last
    else numbered_in (number_in_word 1 (2 ^ 32) w)

-- what a datagram carries
abbrev pub medium_of : List ℕ → Result Medium LineReason
medium_of w = if bytes_eq w (codes "ike") then Ok mediums.Ike
    else if bytes_eq w (codes "esp") then Ok mediums.Esp else Err reasons.Word

abbrev pub is_window_size : ℕ → Bool
is_window_size n = n == 64 || n == 128 || n == 256 || n == 512 || n == 1024

abbrev pub window_field_in : Result ℕ LineReason → Result ℕ LineReason
window_field_in (Ok n) = if is_window_size n then Ok n else Err reasons.Number
window_field_in (Err reason) = Err reason

-- the size of a receive window
abbrev pub window_in_word : List ℕ → Result ℕ LineReason
window_in_word w = window_field_in (number_in_word 0 (2 ^ 32) w)

abbrev pub is_ticket_key_size : ℕ → Bool
is_ticket_key_size n = n == 0 || n == 20 || n == 36

abbrev pub ticket_key_in : Result (List ℕ) LineReason → Result (List ℕ) LineReason
ticket_key_in (Ok octets) = if is_ticket_key_size (length octets) then Ok octets
    else Err reasons.Size
ticket_key_in (Err reason) = Err reason

-- a ticket key with its salt, or none
abbrev pub ticket_key_of : List ℕ → Result (List ℕ) LineReason
ticket_key_of w = ticket_key_in (sized 0 36 w)
