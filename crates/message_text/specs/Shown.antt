-- The text of a message (RFC 7296, section 3): a line for its header and one for each payload, or
-- one line for the place and the reason at which its octets are refused.
use Rattle.std.specs.Prelude.{ℕ, List, [], ◌∷◌, ◌++◌, codes, Result, Ok, Err}
use Rattle.std.specs.Fmt.{decimal}
use Rattle.std.specs.List.{flat_map}
use Rattle.hex.specs.Hex.{encode_lower}
use Rattle.fault_text.specs.FaultWords.{bad_words}
use Rattle.line_fields.specs.Octets.{octets_text, spi_text}
use Rattle.line_fields.specs.Writing.{line_text}
use Rattle.ike_encoding.specs.Messages.{flags_of}
use Rattle.ike_grammar.specs.Messages.{message_at}
use Rattle.ike_values.specs.declared.fault.Bad.{Bad}
use Rattle.ike_values.specs.declared.fault.Reason.{Reason}
use Rattle.ike_values.specs.Spelling.{type_of}
use Rattle.ike_values.specs.Writing.{body_written}
use Rattle.ike_values.specs.Values.{NotifyValue, PayloadValue, SkValue, notify, sk}
use Rattle.ike_values.specs.declared.header.Header.{Header}
use Rattle.ike_values.specs.declared.header.Message.{Message}

-- ---- what octets spell

-- both SPIs, the exchange type, the flags that the value has, in two digits, and the Message ID
unfoldable pub header_words : Header → List (List ℕ)
header_words h = spi_text h.spii ∷ spi_text h.spir ∷ decimal h.exchange
    ∷ encode_lower (flags_of h ∷ []) ∷ decimal h.id ∷ []

-- the protocol, the SPI, the type and the data of a notify payload
unfoldable pub notify_words : NotifyValue → List (List ℕ)
notify_words x = decimal x.protocol ∷ octets_text x.spi ∷ decimal x.kind ∷ octets_text x.content
    ∷ []

-- the type of the first inner payload, and the body of an encrypted payload
unfoldable pub sk_words : SkValue → List (List ℕ)
sk_words x = decimal x.first ∷ octets_text (body_written (sk x)) ∷ []

-- the type, and the body with its reserved bits 0
unfoldable pub body_words : PayloadValue → List (List ℕ)
body_words item = decimal (type_of item) ∷ octets_text (body_written item) ∷ []

abbrev pub payload_text : PayloadValue → List ℕ
payload_text (notify x) = line_text (codes "notify" ∷ notify_words x)
payload_text (sk x) = line_text (codes "sk" ∷ sk_words x)
payload_text item = line_text (codes "payload" ∷ body_words item)

-- the header, and the payloads in their order
unfoldable pub message_text : Message → List ℕ
message_text m = line_text (codes "ok" ∷ header_words m.header) ++ flat_map payload_text m.payloads

-- ---- where octets are refused

abbrev pub bad_text : ℕ → Reason → List ℕ
bad_text place reason = line_text (codes "bad" ∷ bad_words place reason)

-- ---- octets

abbrev pub read_text : Result Message Bad → List ℕ
read_text (Ok m) = message_text m
read_text (Err bad) = bad_text bad.place bad.reason

-- the text of the message that the octets spell, or of their refusal
abbrev pub shown : List ℕ → List ℕ
shown octets = read_text (message_at octets)
