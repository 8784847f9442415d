-- The length that stands before an identity says where it ends.
use Rattle.std.proofs.Common.{◌≡◌, ℕ, List, ◌∷◌, ◌++◌, length, drop, slice_index_or, ◌∙◌, sym, ap}
use Rattle.ha_base.proofs.Fronts.{front_same, rest_same}
use Rattle.ha_base.specs.declared.identities.GatewayId.{GatewayId}
use Rattle.redirects.specs.Laws.{ReadingIsUnique}

abbrev as_gateway : ℕ → List ℕ → GatewayId
as_gateway kind octets = record { kind = kind; octets = octets }

gateway_same : (first second : GatewayId) → first.kind ≡ second.kind → first.octets ≡ second.octets → first ≡ second
gateway_same first second kind octets =
    ap (λ number. as_gateway number first.octets) kind ∙ ap (λ name. as_gateway second.kind name) octets

pub reading_unique : ReadingIsUnique
reading_unique first second nonce other octets says tells =
    let same : first.kind ∷ length first.octets ∷ first.octets ++ nonce ≡ second.kind ∷ length second.octets ∷ second.octets ++ other = sym says.octets_are ∙ tells.octets_are in
    let kind : first.kind ≡ second.kind = ap (λ xs. slice_index_or xs 0 0) same in
    let long : length first.octets ≡ length second.octets = ap (λ xs. slice_index_or xs 1 0) same in
    let behind : first.octets ++ nonce ≡ second.octets ++ other = ap (λ xs. drop 2 xs) same in
    (gateway_same first second kind (front_same first.octets second.octets nonce other long behind), rest_same first.octets second.octets nonce other long behind)
