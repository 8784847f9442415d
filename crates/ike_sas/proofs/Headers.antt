-- A message is opened with its own header.
use Rattle.std.proofs.Common.{◌≡◌, List, ℕ, Ok, ap}
use Rattle.ike_values.specs.Headers.{IsMessage}
use Rattle.ike_values.specs.declared.header.Message.{Message}
use Rattle.sk_payload.specs.Answers.{IsOpening}
use Rattle.sk_payload.specs.Message.{only_sk}
use Rattle.sk_payload.specs.declared.open.Opened.{Opened}

pub opened_header :
    (unique : (bytes : List ℕ) (message other : Message) → IsMessage message bytes → IsMessage other bytes → message ≡ other)
    (key octets : List ℕ) (message : Message) (opened : Opened) → IsMessage message octets → IsOpening key octets (Ok opened) →
    opened.header ≡ message.header
opened_header unique key octets message opened is opening =
    ap (λ m. m.header) (unique octets (only_sk opened.header opening.0) message opening.2.is.message is)
