-- What is written is a spelling.
use Rattle.std.proofs.Common.{◌≡◌, ℕ, ◌+◌, ◌<◌, ◌^◌, Bool, true, false, cond, List, length, Result, Ok, Err, refl, sym, subst}
use Rattle.std.specs.Prelude.{IfOk}
use Rattle.ha_base.specs.Octets.{WithRoom}
use Rattle.ike_values.specs.Values.{PayloadValue}
use Rattle.ike_values.specs.Writing.{first_type_of, chain_written}
use Rattle.ike_values.specs.Validity.{AreValid}
use Rattle.ike_values.specs.Chains.{Spells}
use Rattle.ike_values.specs.declared.header.Message.{Message}
use Rattle.ike_values.specs.Headers.{has_flag, FitsHeader, IsMessage}
use Rattle.ike_values.proofs.SpellingLaws.{chain_spelled}
use Rattle.ike_encoding.specs.Messages.{flags_of, message_written}

initiator_again : (i r : Bool) → i ≡ has_flag (cond i 8 0 + cond r 32 0) 8
initiator_again true true = refl
initiator_again true false = refl
initiator_again false true = refl
initiator_again false false = refl

response_again : (i r : Bool) → r ≡ has_flag (cond i 8 0 + cond r 32 0) 32
response_again true true = refl
response_again true false = refl
response_again false true = refl
response_again false false = refl

pub message_spelled : (m : Message) → FitsHeader m.header → AreValid false m.payloads → 28 + length (chain_written m.payloads) < 2 ^ 32 → IsMessage m (message_written m)
message_spelled m fits valid short = (
  record { first = first_type_of m.payloads; version = 32; flags = flags_of m.header; rest = chain_written m.payloads },
  record {
    bytes_are = refl;
    fits = fits;
    length_fits = short;
    version_is = refl;
    initiator_is = initiator_again m.header.initiator m.header.response;
    response_is = response_again m.header.initiator m.header.response;
  },
  chain_spelled false m.payloads valid,
)

-- what is appended is a spelling, whose first type is the one that is answered
pub chain_spells : {E : Type 0} (inner : Bool) (payloads : List PayloadValue) (r : Result ℕ E) → AreValid inner payloads → IfOk r (λ first. first ≡ first_type_of payloads) → IfOk r (λ first. Spells payloads first inner (chain_written payloads))
chain_spells inner payloads (Ok first) valid e = subst (λ (k : ℕ). Spells payloads k inner (chain_written payloads)) (sym e) (chain_spelled inner payloads valid)
chain_spells inner payloads (Err e) valid t = tt

pub message_spells : {E : Type 0} (m : Message) (r : Result WithRoom E) → AreValid false m.payloads → 28 + length (chain_written m.payloads) < 2 ^ 32 → IfOk r (λ out. out.octets ≡ message_written m) → IfOk r (λ _. FitsHeader m.header) → IfOk r (λ out. IsMessage m out.octets)
message_spells m (Ok out) valid short e fits = subst (λ (octets : List ℕ). IsMessage m octets) (sym e) (message_spelled m fits valid short)
message_spells m (Err e) valid short t fits = tt
