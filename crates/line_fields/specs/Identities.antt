-- Identities as words: the word of an ID type, and octets (RFC 7296, section 3.5).
use Rattle.std.specs.Prelude.{◌≡◌, ℕ, ◌==◌, ◌≤◌, ⊤, List, [], ◌∷◌, ◌++◌, Option, Some, None, Result, Ok, Err, if◌then◌else◌, ◌⊎◌}
use Rattle.ha_base.specs.IdForms.{Form, fqdn, identity_forms, word_by}
use Rattle.ha_base.specs.declared.identities.Identity.{Identity}
use Rattle.line_fields.specs.declared.fault.LineReason.{LineReason}
use Rattle.line_fields.specs.declared.fault.LineReason.TheVariants.{Hex}
use Rattle.line_fields.specs.Octets.{IsOctetField, octets_text, sized}

-- what stands behind a prefix
abbrev pub behind_prefix : List ℕ → List ℕ → Option (List ℕ)
behind_prefix [] w = Some w
behind_prefix (p ∷ ps) [] = None
behind_prefix (p ∷ ps) (c ∷ cs) = if c == p then behind_prefix ps cs else None

-- an ID type and identification data are those of a form
pub record HasForm (form : Form) (id_type : ℕ) (id_data : List ℕ) : Type 0 where
  pub kind : id_type ≡ form.kind
  pub octets : IsOctetField form.least form.most id_data

-- they are those of a form of a table
abbrev pub HasFormOf : List Form → ℕ → List ℕ → Type 0
HasFormOf [] kind octets = ⊥
HasFormOf (form ∷ forms) kind octets = HasForm form kind octets ⊎ HasFormOf forms kind octets

abbrev pub IsIdentity : Identity → Type 0
IsIdentity i = HasFormOf identity_forms i.kind i.octets

-- an identity that is a domain name
abbrev pub IsDomainName : Identity → Type 0
IsDomainName i = HasForm fqdn i.kind i.octets

-- the word of some octets of an ID type, by a table
abbrev pub id_text : List Form → ℕ → List ℕ → List ℕ
id_text forms kind octets = word_by forms kind ++ octets_text octets

abbrev pub identity_text : Identity → List ℕ
identity_text i = id_text identity_forms i.kind i.octets

abbrev pub with_kind : ℕ → Result (List ℕ) LineReason → Result (ℕ × List ℕ) LineReason
with_kind kind (Ok octets) = Ok (kind, octets)
with_kind kind (Err reason) = Err reason

abbrev pub of_form : Form → Option (List ℕ) → Result (ℕ × List ℕ) LineReason
    → Result (ℕ × List ℕ) LineReason
of_form form (Some octets) other = with_kind form.kind (sized form.least form.most octets)
of_form form None other = other

-- the ID type and the octets that a word spells, by a table
abbrev pub id_of : List Form → List ℕ → Result (ℕ × List ℕ) LineReason
id_of [] w = Err Hex
id_of (form ∷ forms) w = of_form form (behind_prefix form.word w) (id_of forms w)

abbrev pub identity_in : Result (ℕ × List ℕ) LineReason → Result Identity LineReason
identity_in (Ok id) = Ok (record { kind = id.0; octets = id.1 })
identity_in (Err reason) = Err reason

-- an identity
abbrev pub identity_of : List ℕ → Result Identity LineReason
identity_of w = identity_in (id_of identity_forms w)

-- a domain name
abbrev pub domain_name_of : List ℕ → Result Identity LineReason
domain_name_of w = identity_in (id_of (fqdn ∷ []) w)

-- no form of a table has more octets than these
abbrev pub AreAtMost : ℕ → List Form → Type 0
AreAtMost most [] = ⊤
AreAtMost most (form ∷ forms) = (form.most ≤ most) × AreAtMost most forms
