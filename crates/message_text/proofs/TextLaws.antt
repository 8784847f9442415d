-- What is read may be written, and which text it has.
use Rattle.std.proofs.Common.{◌≡◌, ℕ, List, ◌++◌, Result, false, subst, sym, ap}
use Rattle.std.specs.Prelude.{IfOk, OnOk}
use Rattle.ha_base.specs.Octets.{WithRoom}
use Rattle.ike_values.specs.Headers.{IsMessage}
use Rattle.ike_values.specs.Validity.{AreValid}
use Rattle.ike_values.specs.declared.header.Message.{Message}
use Rattle.ike_values.proofs.SpellingLaws.{spelled_fits}
use Rattle.ike_grammar.specs.Messages.{MessageRefused}
use Rattle.ike_values.specs.declared.fault.Reason.{Reason}
use Rattle.ike_grammar.proofs.MessageLaws.{message_again}
use Rattle.message_text.specs.Shown.{bad_text, message_text, read_text, shown}

-- the bodies of what was read have a spelling
pub message_valid : (m : Message) (octets : List ℕ) → IsMessage m octets → AreValid false m.payloads
message_valid m octets is = spelled_fits false m.payloads is.0.first is.0.rest is.2

-- the text of a message that was read is that of its octets
pub text_is_shown : {E : Type 0} (m : Message) (octets : List ℕ) (r : Result WithRoom E) → IsMessage m octets → IfOk r (λ text. text.octets ≡ message_text m) → IfOk r (λ text. text.octets ≡ shown octets)
text_is_shown m octets r is written = subst (λ read. IfOk r (λ text. text.octets ≡ read_text read)) (sym (message_again octets m is)) written

pub text_of_message : {X E : Type 0} (r : Result X E) (old new octets : List ℕ) → OnOk r (new ≡ old ++ shown octets) → (m : Message) → IsMessage m octets → OnOk r (new ≡ old ++ message_text m)
text_of_message r old new octets is m s = subst (λ text. OnOk r (new ≡ old ++ text)) (ap read_text (message_again octets m s)) is

pub text_of_refusal : {X E : Type 0} (r : Result X E) (old new octets : List ℕ) → OnOk r (new ≡ old ++ shown octets) → (place : ℕ) (reason : Reason) → MessageRefused octets place reason → OnOk r (new ≡ old ++ bad_text place reason)
text_of_refusal r old new octets is place reason refused = subst (λ text. OnOk r (new ≡ old ++ text)) (ap read_text refused) is
