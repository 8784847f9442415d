-- When a redirect is followed (RFC 5685). Moments are in seconds, and lists of follows have the
-- latest first.
use Rattle.std.specs.Prelude.{◌≡◌, ◌↔◌, ℕ, ◌+◌, ◌≤◌, ⊤, List, Bool, count_by, nat_lt, take}
use Rattle.redirects.specs.declared.asked.Asked.{Asked}
use Rattle.redirects.specs.declared.asked.Asked.TheVariants.{No, Session, Resumption}
use Rattle.redirects.specs.declared.decision.Decision.{Decision}
use Rattle.redirects.specs.declared.decision.Decision.TheVariants.{Follow, Loop, Nonce, Unasked}
use Rattle.redirects.specs.declared.limits.TheConstants.{MAX_REDIRECTS, LOOP_DETECT_PERIOD}

-- less than REDIRECT_LOOP_DETECT_PERIOD ago (section 7)
abbrev pub is_recent : ℕ → ℕ → Bool
is_recent now moment = nat_lt now (moment + LOOP_DETECT_PERIOD)

-- MAX_REDIRECTS were followed within the period (section 7)
abbrev pub IsLoop : List ℕ → ℕ → Type 0
IsLoop follows now = MAX_REDIRECTS ≤ count_by (is_recent now) follows

-- the redirect answers what was asked: with the nonce of the request before the association is
-- there (section 3), and with any in an association, whose messages are authentic (section 5)
abbrev pub AnswersAsked : Asked → List ℕ → Type 0
AnswersAsked No nonce = ⊥
AnswersAsked Session nonce = ⊤
AnswersAsked (Resumption ni) nonce = nonce ≡ ni

-- the redirect is asked for, with another nonce
abbrev pub HasOtherNonce : Asked → List ℕ → Type 0
HasOtherNonce No nonce = ⊥
HasOtherNonce Session nonce = ⊥
HasOtherNonce (Resumption ni) nonce = ¬ (nonce ≡ ni)

-- what becomes of a redirect that comes now, where these are the moments at which redirects were
-- followed
pub record IsDecision (follows : List ℕ) (now : ℕ) (asked : Asked) (nonce : List ℕ)
    (decision : Decision) : Type 0 where
  pub unasked : (decision ≡ Unasked) ↔ (asked ≡ No)
  pub other_nonce : (decision ≡ Nonce) ↔ HasOtherNonce asked nonce
  pub loops : (decision ≡ Loop MAX_REDIRECTS) ↔ (AnswersAsked asked nonce × IsLoop follows now)
  pub followed : (decision ≡ Follow) ↔ (AnswersAsked asked nonce × ¬ IsLoop follows now)

-- what is kept of all follows
abbrev pub kept_of : List ℕ → List ℕ
kept_of follows = take MAX_REDIRECTS follows
