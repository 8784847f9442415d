-- Reading a chain of payloads, which ends at the place end.
use Rattle.std.specs.Prelude.{◌≡◌, ℕ, zero, suc, ◌+◌, ◌-◌, Bool, ◌||◌, ◌&&◌, nat_lt, nat_le, List, [], ◌∷◌, length, slice_index, take, drop, Result, Ok, Err}
use Rattle.ike_values.specs.Values.{PayloadValue}
use Rattle.ike_values.specs.Values as values
use Rattle.ike_values.specs.declared.fault.Bad.{Bad}
use Rattle.ike_values.specs.declared.fault.Reason.{Reason}
use Rattle.ike_values.specs.declared.fault.Reason.TheVariants.{Short, Length, Field, Trailing, UnknownCritical, SkNotLast}
use Rattle.ike_grammar.specs.declared.kind.Kind.{Kind}
use Rattle.ike_grammar.specs.declared.kind.Kind.TheVariants.{Sa, Ke, IdI, IdR, Cert, CertReq, Auth, Nonce, Notify, Delete, Vendor, TsI, TsR, Sk, Cp, Eap, Other}
use Rattle.ike_grammar.specs.Kinds.{payload_kind, is_sk, is_other}
use Rattle.ike_grammar.specs.Faults.{◌>>=◌, refuse, unless, two_at}
use Rattle.ike_grammar.specs.Bodies.{id_at, auth_at, nonce_at, notify_at, delete_at, sk_at}
use Rattle.ike_grammar.specs.Proposals.{proposals_at}
use Rattle.ike_grammar.specs.Selectors.{traffic_at}

-- the payload of what its body is read to be
abbrev pub made : {X : Type 0} → (X → PayloadValue) → Result X Bad → Result PayloadValue Bad
made payload read = read >>= λ x. Ok (payload x)

-- the body of a payload of this kind; next is what stands in its next payload field
unfoldable pub body_at : Kind → ℕ → ℕ → ℕ → List ℕ → Result PayloadValue Bad
body_at Sa end number next body = made values.sa (proposals_at end body)
body_at Ke end number next body = Ok (values.ke body)
body_at IdI end number next body = made values.idi (id_at end body)
body_at IdR end number next body = made values.idr (id_at end body)
body_at Cert end number next body = Ok (values.cert body)
body_at CertReq end number next body = Ok (values.certreq body)
body_at Auth end number next body = made values.auth (auth_at end body)
body_at Nonce end number next body = made values.nonce (nonce_at end body)
body_at Notify end number next body = made values.notify (notify_at end body)
body_at Delete end number next body = made values.delete (delete_at end body)
body_at Vendor end number next body = Ok (values.vendor body)
body_at TsI end number next body = made values.tsi (traffic_at end body)
body_at TsR end number next body = made values.tsr (traffic_at end body)
body_at Sk end number next body = made values.sk (sk_at end next body)
body_at Cp end number next body = Ok (values.cp body)
body_at Eap end number next body = Ok (values.eap body)
body_at Other end number next body = Ok (values.other (record { kind = number; body = body }))

-- next payload, critical bit and seven reserved bits, length
abbrev pub payload_tests : ℕ → ℕ → Bool → List ℕ → List (Bool × Bad)
payload_tests end number inner bytes =
    refuse (nat_lt (length bytes) 4) (end - length bytes) Short
    ∷ refuse (nat_lt (two_at bytes 2) 4 || nat_lt (length bytes) (two_at bytes 2))
    (end - length bytes + 2) Length
    ∷ refuse (is_other (payload_kind number) && nat_le 128 (slice_index bytes 1))
    (end - length bytes) (UnknownCritical number)
    ∷ refuse (is_sk (payload_kind number) && inner) (end - length bytes) Field
    ∷ []

abbrev pub body_of : List ℕ → List ℕ
body_of bytes = drop 4 (take (two_at bytes 2) bytes)

abbrev pub behind_payload : List ℕ → List ℕ
behind_payload bytes = drop (two_at bytes 2) bytes

-- Behind SK stands nothing. Its next payload is the first inner one, and the chain ends.
abbrev pub last_tests : ℕ → List ℕ → List (Bool × Bad)
last_tests end left = refuse (nat_lt 0 (length left)) (end - length left) SkNotLast ∷ []

abbrev pub leads_to : Kind → ℕ → ℕ → List ℕ → PayloadValue → Result (PayloadValue × ℕ × List ℕ) Bad
leads_to Sk end next left payload = unless (last_tests end left) (Ok (payload, 0, left))
leads_to kind end next left payload = Ok (payload, next, left)

-- a payload, the type of the next one, and what stands behind it
unfoldable pub payload_at : ℕ → ℕ → Bool → List ℕ → Result (PayloadValue × ℕ × List ℕ) Bad
payload_at end number inner bytes = unless (payload_tests end number inner bytes) (do
  payload ← body_at (payload_kind number) (end - length (behind_payload bytes)) number
      (slice_index bytes 0) (body_of bytes)
  leads_to (payload_kind number) end (slice_index bytes 0) (behind_payload bytes) payload)

abbrev pub end_tests : ℕ → List ℕ → List (Bool × Bad)
end_tests end bytes = refuse (nat_lt 0 (length bytes)) (end - length bytes) Trailing ∷ []

-- Payloads until the type of the next one is 0. Each takes four octets at least, so n is never
-- short.
unfoldable pub chain_by : ℕ → ℕ → Bool → ℕ → List ℕ → Result (List PayloadValue) Bad
chain_by zero end inner number bytes = Ok []
chain_by (suc n) end inner zero bytes = unless (end_tests end bytes) (Ok [])
chain_by (suc n) end inner (suc number) bytes = do
  first ← payload_at end (suc number) inner bytes
  others ← chain_by n end inner first.1 first.2
  Ok (first.0 ∷ others)

abbrev pub chain_at : ℕ → Bool → ℕ → List ℕ → Result (List PayloadValue) Bad
chain_at end inner first bytes = chain_by (length bytes + 1) end inner first bytes

-- The first test that is met, from the left, refuses the chain there and for this reason. Places
-- count from the first octet.
abbrev pub Refused : ℕ → Bool → List ℕ → ℕ → Reason → Type 0
Refused first inner bytes place reason = chain_at (length bytes) inner first bytes
    ≡ Err (record { place = place; reason = reason })
