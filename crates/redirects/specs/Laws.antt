-- What is kept of the follows decides as all of them do, and what a notification says is unique.
use Rattle.std.specs.Prelude.{◌≡◌, ℕ, ◌≤◌, ⊤, All, List, [], ◌∷◌}
use Rattle.ha_base.specs.declared.identities.GatewayId.{GatewayId}
use Rattle.redirects.specs.Follows.{IsDecision, kept_of}
use Rattle.redirects.specs.declared.asked.Asked.{Asked}
use Rattle.redirects.specs.declared.decision.Decision.{Decision}
use Rattle.redirects.specs.Notifications.{SpellsRedirect}

-- no follow is later than the one before it in the list
abbrev pub IsLatestFirst : List ℕ → Type 0
IsLatestFirst [] = ⊤
IsLatestFirst (moment ∷ earlier) = All (λ other. other ≤ moment) earlier × IsLatestFirst earlier

-- what is decided by the follows that are kept is what is decided by all of them
abbrev pub KeptFollowsDecide : Type 0
KeptFollowsDecide =
    (follows : List ℕ) (now : ℕ) (asked : Asked) (nonce : List ℕ) (decision : Decision) →
    IsLatestFirst follows → IsDecision (kept_of follows) now asked nonce decision
    → IsDecision follows now asked nonce decision

abbrev pub DecisionIsUnique : Type 0
DecisionIsUnique =
    (follows : List ℕ) (now : ℕ) (asked : Asked) (nonce : List ℕ) (first second : Decision) →
    IsDecision follows now asked nonce first → IsDecision follows now asked nonce second
    → first ≡ second

abbrev pub FollowingAddsTheMoment : Type 0
FollowingAddsTheMoment = (follows : List ℕ) (now : ℕ)
    → kept_of (now ∷ kept_of follows) ≡ kept_of (now ∷ follows)

abbrev pub FollowingKeepsTheOrder : Type 0
FollowingKeepsTheOrder =
    (follows : List ℕ) (now : ℕ) → IsLatestFirst follows
    → All (λ moment. moment ≤ now) (kept_of follows) → IsLatestFirst (now ∷ follows)

-- so what is written for a gateway and a nonce is read as these
abbrev pub ReadingIsUnique : Type 0
ReadingIsUnique =
    (first second : GatewayId) (nonce other octets : List ℕ) →
    SpellsRedirect first nonce octets → SpellsRedirect second other octets
    → (first ≡ second) × (nonce ≡ other)
