-- Names of counters that are found to be the same are the same.
use Rattle.std.proofs.Common.{◌≡◌, ℕ, ◌==◌, ◌&&◌, true, List, [], ◌∷◌, refl, ap}
use Rattle.std.proofs.lemmas.Bool.{and_parts, eqb-true, eq-eqb}
use Rattle.ha_base.specs.declared.counter_names.CounterName.{CounterName}
use Rattle.ha_base.specs.declared.counter_names.Derivation.{Derivation}
use Rattle.ha_base.specs.declared.counter_names.End.{End}
use Rattle.ha_base.specs.declared.counter_names.End.TheVariants as end
use Rattle.ha_base.specs.declared.counter_names.Kind.{Kind}
use Rattle.ha_base.specs.declared.counter_names.Kind.TheVariants as kind
use Rattle.ha_base.specs.declared.counter_names.Origin.{Origin}
use Rattle.ha_base.specs.declared.counter_names.Origin.TheVariants as origin
use Rattle.turn_laws.specs.Names.{are_same, is_derivation, is_kind, is_name, is_origin, is_side}

are_same-true : (xs ys : List ℕ) → are_same xs ys ≡ true → xs ≡ ys
are_same-true [] [] e = refl
are_same-true [] (y ∷ ys) e = absurd (cc)
are_same-true (x ∷ xs) [] e = absurd (cc)
are_same-true (x ∷ xs) (y ∷ ys) e =
    let parts : ((x == y) ≡ true) × (are_same xs ys ≡ true) = and_parts (x == y) (are_same xs ys) e in
    let first : x ≡ y = eqb-true x y parts.0 in
    let rest : xs ≡ ys = are_same-true xs ys parts.1 in
    λ i. first i ∷ rest i

are_same-same : (xs : List ℕ) → are_same xs xs ≡ true
are_same-same [] = refl
are_same-same (x ∷ xs) = let first : (x == x) ≡ true = eq-eqb x x refl in let rest : _ = are_same-same xs in rw (first, rest)

is_derivation-true : (a b : Derivation) → is_derivation a b ≡ true → a ≡ b
is_derivation-true a b e =
    let one = and_parts (a.old_spir == b.old_spir) (are_same a.ni b.ni && (are_same a.nr b.nr && ((a.spii == b.spii) && (a.spir == b.spir)))) e in
    let two = and_parts (are_same a.ni b.ni) (are_same a.nr b.nr && ((a.spii == b.spii) && (a.spir == b.spir))) one.1 in
    let three = and_parts (are_same a.nr b.nr) ((a.spii == b.spii) && (a.spir == b.spir)) two.1 in
    let four = and_parts (a.spii == b.spii) (a.spir == b.spir) three.1 in
    λ i. record {
      old_spir = eqb-true a.old_spir b.old_spir one.0 i;
      ni = are_same-true a.ni b.ni two.0 i;
      nr = are_same-true a.nr b.nr three.0 i;
      spii = eqb-true a.spii b.spii four.0 i;
      spir = eqb-true a.spir b.spir four.1 i;
    }

is_derivation-same : (a : Derivation) → is_derivation a a ≡ true
is_derivation-same a =
    let p : (a.old_spir == a.old_spir) ≡ true = eq-eqb a.old_spir a.old_spir refl in
    let q : _ = are_same-same a.ni in
    let r : _ = are_same-same a.nr in
    let s : (a.spii == a.spii) ≡ true = eq-eqb a.spii a.spii refl in
    let t : (a.spir == a.spir) ≡ true = eq-eqb a.spir a.spir refl in
    rw (p, q, r, s, t)

is_origin-true : (a b : Origin) → is_origin a b ≡ true → a ≡ b
is_origin-true (origin.Imported a) (origin.Imported b) e = ap origin.Imported (eqb-true a b e)
is_origin-true (origin.Resumed a) (origin.Resumed b) e = ap origin.Resumed (is_derivation-true a b e)
is_origin-true (origin.TicketKey a) (origin.TicketKey b) e = ap origin.TicketKey (eqb-true a b e)
is_origin-true origin.Pool origin.Pool e = refl
is_origin-true a b e = absurd (cc)

pub is_origin-same : (a : Origin) → is_origin a a ≡ true
is_origin-same (origin.Imported a) = eq-eqb a a refl
is_origin-same (origin.Resumed a) = is_derivation-same a
is_origin-same (origin.TicketKey a) = eq-eqb a a refl
is_origin-same origin.Pool = refl

is_kind-true : (a b : Kind) → is_kind a b ≡ true → a ≡ b
is_kind-true kind.EspOut kind.EspOut e = refl
is_kind-true kind.EspIn kind.EspIn e = refl
is_kind-true kind.Iv kind.Iv e = refl
is_kind-true kind.Ask kind.Ask e = refl
is_kind-true kind.Answer kind.Answer e = refl
is_kind-true kind.TicketIv kind.TicketIv e = refl
is_kind-true kind.Nonce kind.Nonce e = refl
is_kind-true a b e = absurd (cc)

is_kind-same : (a : Kind) → is_kind a a ≡ true
is_kind-same kind.EspOut = refl
is_kind-same kind.EspIn = refl
is_kind-same kind.Iv = refl
is_kind-same kind.Ask = refl
is_kind-same kind.Answer = refl
is_kind-same kind.TicketIv = refl
is_kind-same kind.Nonce = refl

is_side-true : (a b : End) → is_side a b ≡ true → a ≡ b
is_side-true end.Cluster end.Cluster e = refl
is_side-true end.Peer end.Peer e = refl
is_side-true a b e = absurd (cc)

is_side-same : (a : End) → is_side a a ≡ true
is_side-same end.Cluster = refl
is_side-same end.Peer = refl

pub is_name-true : (a b : CounterName) → is_name a b ≡ true → a ≡ b
is_name-true a b e =
    let one = and_parts (is_origin a.origin b.origin) (is_kind a.kind b.kind && ((a.child == b.child) && is_side a.end b.end)) e in
    let two = and_parts (is_kind a.kind b.kind) ((a.child == b.child) && is_side a.end b.end) one.1 in
    let three = and_parts (a.child == b.child) (is_side a.end b.end) two.1 in
    λ i. record {
      origin = is_origin-true a.origin b.origin one.0 i;
      kind = is_kind-true a.kind b.kind two.0 i;
      child = eqb-true a.child b.child three.0 i;
      end = is_side-true a.end b.end three.1 i;
    }

pub is_name-same : (a : CounterName) → is_name a a ≡ true
is_name-same a =
    let p : _ = is_origin-same a.origin in
    let q : _ = is_kind-same a.kind in
    let r : (a.child == a.child) ≡ true = eq-eqb a.child a.child refl in
    let s : _ = is_side-same a.end in
    rw (p, q, r, s)
