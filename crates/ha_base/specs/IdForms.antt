-- The ID types of identities and of gateways, by tables: how each is spelled in a line.
use Rattle.std.specs.Prelude.{◌≡◌, ℕ, ◌≤◌, ◌==◌, List, [], ◌∷◌, codes, if◌then◌else◌, ◌⊎◌}

-- an ID type: its number, the word before its octets, and how many octets it has
pub record Form : Type 0 where
  pub kind : ℕ
  pub word : List ℕ
  pub least : ℕ
  pub most : ℕ

-- a fully-qualified domain name (RFC 7296, section 3.5)
abbrev pub fqdn : Form
fqdn = record { kind = 2; word = codes "fqdn:"; least = 1; most = 64 }

-- the ID types of identities (RFC 7296, section 3.5)
abbrev pub identity_forms : List Form
identity_forms =
    record { kind = 1; word = codes "ipv4:"; least = 4; most = 4 }
    ∷ record { kind = 5; word = codes "ipv6:"; least = 16; most = 16 }
    ∷ fqdn
    ∷ record { kind = 3; word = codes "mail:"; least = 1; most = 64 }
    ∷ record { kind = 11; word = codes "key:"; least = 1; most = 64 }
    ∷ []

-- the ID types of gateways (RFC 5685, section 9.2)
abbrev pub gateway_forms : List Form
gateway_forms =
    record { kind = 1; word = codes "ipv4:"; least = 4; most = 4 }
    ∷ record { kind = 2; word = codes "ipv6:"; least = 16; most = 16 }
    ∷ record { kind = 3; word = codes "fqdn:"; least = 1; most = 255 }
    ∷ []

-- one of the forms has this ID type, and may have so many octets
abbrev pub HasSize : List Form → ℕ → ℕ → Type 0
HasSize [] kind size = ⊥
HasSize (form ∷ forms) kind size =
    ((form.kind ≡ kind) × (form.least ≤ size) × (size ≤ form.most)) ⊎ HasSize forms kind size

-- the word of the first form that has this ID type
abbrev pub word_by : List Form → ℕ → List ℕ
word_by [] kind = []
word_by (form ∷ forms) kind = if form.kind == kind then form.word else word_by forms kind
