-- What a member holds of its associations, and where.
use Rattle.std.specs.Prelude.{ℕ, ◌≡◌, ◌≢◌, ◌<◌, ◌≤◌, ◌⊎◌, Option, None, Some, List, [], ◌∷◌, length, take, slice_index_or}
use Rattle.turn_rules.specs.Held.{Held, held_at}

-- what is held of each association, and for how many more there is room
pub record AllHeld : Type 0 where
  pub held : List Held
  pub spare : ℕ

-- what is held of the association stands at this place, and nothing of it before
pub record IsHoldingPlace (spir place : ℕ) (held : List Held) : Type 0 where
  pub within : place < length held
  pub none_before : held_at (take place held) spir ≡ None
  pub here : (h : Held) → h ≡ slice_index_or held place h → h.sa.spir ≡ spir

-- what is held of every other association stays
abbrev pub KeepsOthers : ℕ → List Held → List Held → Type 0
KeepsOthers spir old new = (other : ℕ) → other ≢ spir → held_at new other ≡ held_at old other

-- each association is held once
abbrev pub AreApart : List Held → Type 0
AreApart [] = Unit {0}
AreApart (h ∷ hs) = (held_at hs h.sa.spir ≡ None) × AreApart hs

-- nothing of these receives at the SPI
abbrev pub NoneReceives : ℕ → List Held → Type 0
NoneReceives spi [] = Unit {0}
NoneReceives spi (h ∷ hs) = (h.sa.spi_in ≢ spi) × NoneReceives spi hs

-- what receives at the SPI has no lesser responder's SPI
abbrev pub EachFrom : ℕ → ℕ → List Held → Type 0
EachFrom spi least [] = Unit {0}
EachFrom spi least (h ∷ hs) = (h.sa.spi_in ≡ spi → least ≤ h.sa.spir) × EachFrom spi least hs

-- what stands at this place receives at the SPI, and of these it has the least responder's SPI that
-- does
pub record IsLeastAt (spi place : ℕ) (seen held : List Held) : Type 0 where
  pub within : place < length held
  pub here : (h : Held) → h ≡ slice_index_or held place h
      → (h.sa.spi_in ≡ spi) × EachFrom spi h.sa.spir seen

-- of what stands at two places, this is where the lesser responder's SPI is
abbrev pub IsLesser : List Held → Option ℕ → ℕ → ℕ → Type 0
IsLesser held None place result = result ≡ place
IsLesser held (Some other) place result = (a b : Held) → a ≡ slice_index_or held other a
    → b ≡ slice_index_or held place b
    → ((result ≡ other) × (a.sa.spir ≤ b.sa.spir)) ⊎ ((result ≡ place) × (b.sa.spir < a.sa.spir))
