-- Notifications among payloads (RFC 7296, section 3.10).
use Rattle.std.specs.Prelude.{ℕ, ◌==◌, List, [], slice_get, Option, None, Some, if◌then◌else◌}
use Rattle.std.specs.List.{filter_map}
use Rattle.ike_values.specs.Values.{PayloadValue, notify}

-- the notification of this type with these data, protocol 0 and no SPI
abbrev pub notify_of : ℕ → List ℕ → PayloadValue
notify_of kind content = notify (record { protocol = 0; spi = []; kind = kind; content = content })

-- the data of a payload that is a notification of this type
abbrev pub notify_data : ℕ → PayloadValue → Option (List ℕ)
notify_data kind (notify n) = if n.kind == kind then Some n.content else None
notify_data kind _ = None

-- the data of the first notification of this type: where there are several, the others do not count
abbrev pub first_notify : ℕ → List PayloadValue → Option (List ℕ)
first_notify kind payloads = slice_get (filter_map (notify_data kind) payloads) 0
