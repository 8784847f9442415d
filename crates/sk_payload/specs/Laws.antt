-- What holds of sealed messages and of the answers to them.
use Rattle.std.specs.Prelude.{◌≡◌, ℕ, ◌⊎◌, List, Result, Ok, Err}
use Rattle.ike_values.specs.declared.header.Header.{Header}
use Rattle.ike_values.specs.Values.{PayloadValue}
use Rattle.sk_payload.specs.declared.open.Opened.{Opened}
use Rattle.sk_payload.specs.declared.not_read.NotRead.{NotRead}
use Rattle.sk_payload.specs.declared.not_read.NotRead.TheVariants.{Memory}
use Rattle.sk_payload.specs.Message.{IsDatagram}
use Rattle.sk_payload.specs.Answers.{IsAnswer}

-- what was sealed opens with its header and its inner payloads, unless memory runs out
abbrev pub SealedMessagesOpen : Type 0
SealedMessagesOpen =
    (key : List ℕ) (iv : ℕ) (header : Header) (payloads : List PayloadValue) (octets : List ℕ) →
    (answer : Result Opened NotRead) →
    IsDatagram key iv header payloads octets → IsAnswer key octets answer →
    (answer ≡ Ok (record { header = header; inner = Ok payloads })) ⊎ (answer ≡ Err Memory)
