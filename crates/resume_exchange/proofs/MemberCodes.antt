-- The code of a member is the right one exactly where the peer finds it so.
use Rattle.std.proofs.Common.{◌≡◌, ◌↔◌, ℕ, List, Bool, IsTrue, Some, sym, ◌∙◌, ap}
use Rattle.ike_values.specs.Values.{AuthValue, IdValue, PayloadValue}
use Rattle.resume_exchange.specs.Parts.{auth_data, first_of}
use Rattle.resume_exchange.specs.MemberProofs.{IsProven, idr_data, member_code}
use Rattle.resume_exchange.specs.declared.attempts.Attempt.{Attempt}
use Rattle.resume_exchange.specs.declared.attempts.Awaited.{Awaited}
use Rattle.resume_exchange.specs.declared.parts.TheConstants.{SHARED_KEY}

same : {X : Type 0} (x y : X) → Some x ≡ Some y → x ≡ y
same x y is = cc

is_code : (attempt : Attempt) (awaited : Awaited) (payloads : List PayloadValue) (identity : IdValue) (found : AuthValue) →
    first_of idr_data payloads ≡ Some identity → first_of auth_data payloads ≡ Some found →
    IsProven attempt awaited payloads → found.content ≡ member_code attempt awaited identity
is_code attempt awaited payloads identity found named coded proven =
    let who : proven.identity ≡ identity = same proven.identity identity (sym proven.identity_is ∙ named) in
    let what : found ≡ record { method = SHARED_KEY; content = member_code attempt awaited proven.identity } =
    same found (record { method = SHARED_KEY; content = member_code attempt awaited proven.identity }) (sym coded ∙ proven.code_is) in
    ap (λ a. a.content) what ∙ ap (member_code attempt awaited) who

pub exactly_proven : (attempt : Attempt) (awaited : Awaited) (payloads : List PayloadValue) (identity : IdValue) (found : AuthValue)
    (code shown : List ℕ) (equal : Bool) →
    first_of idr_data payloads ≡ Some identity → first_of auth_data payloads ≡ Some found → found.method ≡ SHARED_KEY →
    code ≡ member_code attempt awaited identity → shown ≡ found.content → (IsTrue equal ↔ (shown ≡ code)) →
    IsTrue equal ↔ IsProven attempt awaited payloads
exactly_proven attempt awaited payloads identity found code shown equal named coded method right same_shown is =
    let forth : IsTrue equal → IsProven attempt awaited payloads = λ yes.
    let what : found.content ≡ member_code attempt awaited identity = sym same_shown ∙ is.0 yes ∙ right in
    record {
      identity = identity;
      identity_is = named;
      code_is = coded ∙ (λ i. Some (record { method = method i; content = what i }));
    } in
    let back : IsProven attempt awaited payloads → IsTrue equal = λ proven.
    is.1 (same_shown ∙ is_code attempt awaited payloads identity found named coded proven ∙ sym right) in
    (forth, back)
