-- The spelling of a message with reserved bits 0 and the minor version 0.
use Rattle.std.specs.Prelude.{ℕ, ◌+◌, if◌then◌else◌, List, ◌++◌, length}
use Rattle.ike_values.specs.declared.header.Header.{Header}
use Rattle.ike_values.specs.declared.header.Message.{Message}
use Rattle.ike_values.specs.Writing.{first_type_of, chain_written}
use Rattle.ike_values.specs.Headers.{header_spelling}

-- the flags Initiator and Response
abbrev pub flags_of : Header → ℕ
flags_of h = (if h.initiator then 8 else 0) + (if h.response then 32 else 0)

-- the header of a message of this length, whose first payload has this type: version 2.0
abbrev pub header_written : Header → ℕ → ℕ → List ℕ
header_written h first len = header_spelling h first 32 (flags_of h) len

abbrev pub message_written : Message → List ℕ
message_written m =
    header_written m.header (first_type_of m.payloads) (28 + length (chain_written m.payloads))
    ++ chain_written m.payloads
