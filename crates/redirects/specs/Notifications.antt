-- The data of REDIRECT and REDIRECTED_FROM notifications (RFC 5685, sections 9.2 and 9.3).
use Rattle.std.specs.Prelude.{◌≡◌, ℕ, List, ◌∷◌, ◌++◌, length}
use Rattle.ha_base.specs.IdForms.{HasSize, gateway_forms}
use Rattle.ha_base.specs.declared.identities.GatewayId.{GatewayId}

-- the octets of the gateway's identity are as many as its ID type says
abbrev pub IsGateway : GatewayId → Type 0
IsGateway gateway = HasSize gateway_forms gateway.kind (length gateway.octets)

-- the octets are the type of the gateway's identity, its length, the identity, and the nonce, which
-- takes up the rest
pub record SpellsRedirect (gateway : GatewayId) (nonce octets : List ℕ) : Type 0 where
  pub octets_are : octets ≡ gateway.kind ∷ length gateway.octets ∷ gateway.octets ++ nonce
  pub size : IsGateway gateway

abbrev pub HasRedirect : List ℕ → Type 0
HasRedirect octets = (gateway : GatewayId) × (nonce : List ℕ) × SpellsRedirect gateway nonce octets
