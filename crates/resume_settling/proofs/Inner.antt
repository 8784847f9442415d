-- The inner payloads of a message that was opened have a spelling.
use Rattle.std.proofs.Common.{◌≡◌, ℕ, true, List, Result, Ok, subst}
use Rattle.ike_values.proofs.SpellingLaws.{spelled_fits}
use Rattle.ike_values.specs.Validity.{AreValid}
use Rattle.ike_values.specs.Values.{PayloadValue}
use Rattle.ike_values.specs.declared.fault.Bad.{Bad}
use Rattle.ike_values.specs.declared.header.Header.{Header}
use Rattle.resume_exchange.specs.declared.half_opens.HalfOpen.{HalfOpen}
use Rattle.resume_settling.specs.Opening.{IsAuthOpened}
use Rattle.sk_payload.specs.Message.{IsInner, chain_in}

inner_valid : (first : ℕ) (plain : List ℕ) (inner : Result (List PayloadValue) Bad) (payloads : List PayloadValue) →
    IsInner first plain inner → inner ≡ Ok payloads → AreValid true payloads
inner_valid first plain inner payloads is same =
    let spelled : IsInner first plain (Ok payloads) = subst (IsInner first plain) same is in
    spelled_fits true payloads first (chain_in plain) spelled.1

pub opened_valid : (half_open : HalfOpen) (header : Header) (octets : List ℕ) (payloads : List PayloadValue) →
    IsAuthOpened half_open header octets (Ok payloads) → AreValid true payloads
opened_valid half_open header octets payloads is =
    let inner = is.1 in
    inner_valid (inner.1.0).first inner.1.1 (inner.0).inner payloads inner.1.3 inner.2
