-- Errors that a response tells (RFC 7296, section 3.10.1).
use Rattle.std.specs.Prelude.{ℕ, nat_lt, Option, Some, None, List, slice_get, if◌then◌else◌}
use Rattle.std.specs.List.{filter_map}
use Rattle.ike_sas.specs.declared.errors.TheConstants.{FIRST_STATUS}
use Rattle.ike_values.specs.Values.{PayloadValue, notify}

-- an error is told by a notification of a type below those of status
abbrev pub error_type : PayloadValue → Option ℕ
error_type (notify n) = if nat_lt n.kind FIRST_STATUS then Some n.kind else None
error_type _ = None

-- of several errors the first counts
abbrev pub first_error : List PayloadValue → Option ℕ
first_error payloads = slice_get (filter_map error_type payloads) 0
