-- Which kind a payload type is of.
use Rattle.std.proofs.Common.{◌≡◌, ℕ, ◌+◌, ◌≤◌, ◌<◌, ◌⊎◌, Bool, true, false, cond, eqb, refl, arith, inl, inr}
use Rattle.std.specs.Prelude.{◌==◌, ◌&&◌, ◌||◌, nat_lt, IsTrue}
use Rattle.std.proofs.lemmas.Bool.{eqb-true, eqb-false, ltb-true, lt-ltb, cases_lt, and_from, or_left, or_right}
use Rattle.ike_values.specs.Validity.{is_unknown}
use Rattle.ike_grammar.specs.declared.kind.Kind.{Kind}
use Rattle.ike_grammar.specs.declared.kind.Kind.TheVariants.{Sa, Ke, IdI, IdR, Cert, CertReq, Auth, Nonce, Notify, Delete, Vendor, TsI, TsR, Sk, Cp, Eap, Other}
use Rattle.ike_grammar.specs.Kinds.{payload_kind}
use Rattle.ike_grammar.proofs.Binds.{bool_same}

-- the types of a kind
abbrev pub KindIs : Kind → ℕ → Type 0
KindIs Sa number = number ≡ 33
KindIs Ke number = number ≡ 34
KindIs IdI number = number ≡ 35
KindIs IdR number = number ≡ 36
KindIs Cert number = number ≡ 37
KindIs CertReq number = number ≡ 38
KindIs Auth number = number ≡ 39
KindIs Nonce number = number ≡ 40
KindIs Notify number = number ≡ 41
KindIs Delete number = number ≡ 42
KindIs Vendor number = number ≡ 43
KindIs TsI number = number ≡ 44
KindIs TsR number = number ≡ 45
KindIs Sk number = number ≡ 46
KindIs Cp number = number ≡ 47
KindIs Eap number = number ≡ 48
KindIs Other number = IsTrue (is_unknown number)

pick : (b : Bool) (x y : Kind) (number : ℕ) → (b ≡ true → KindIs x number) → (b ≡ false → KindIs y number) → KindIs (cond b x y) number
pick true x y number f g = f refl
pick false x y number f g = g refl

step : (a number : ℕ) → a ≤ number → eqb number a ≡ false → a + 1 ≤ number
step a number l e =
    let other : number ≡ a → ⊥ = eqb-false number a e in
    elim (cases_lt a number) [ inl lt ↦ omega arith | inr le ↦ absurd (other (omega arith)) ]

outside : (number : ℕ) → 0 < number → eqb number 33 ≡ false → eqb number 34 ≡ false → eqb number 35 ≡ false → eqb number 36 ≡ false → eqb number 37 ≡ false → eqb number 38 ≡ false → eqb number 39 ≡ false → eqb number 40 ≡ false → eqb number 41 ≡ false → eqb number 42 ≡ false → eqb number 43 ≡ false → eqb number 44 ≡ false → eqb number 45 ≡ false → eqb number 46 ≡ false → eqb number 47 ≡ false → eqb number 48 ≡ false → IsTrue (is_unknown number)
outside number some f33 f34 f35 f36 f37 f38 f39 f40 f41 f42 f43 f44 f45 f46 f47 f48 =
    and_from (nat_lt 0 number) (nat_lt number 33 || nat_lt 48 number) (lt-ltb 0 number some)
    (elim (cases_lt number 33) [
      | inl lt ↦ or_left (nat_lt number 33) (nat_lt 48 number) (lt-ltb number 33 lt)
      | inr n33 ↦
          let n34 : 34 ≤ number = step 33 number n33 f33 in
          let n35 : 35 ≤ number = step 34 number n34 f34 in
          let n36 : 36 ≤ number = step 35 number n35 f35 in
          let n37 : 37 ≤ number = step 36 number n36 f36 in
          let n38 : 38 ≤ number = step 37 number n37 f37 in
          let n39 : 39 ≤ number = step 38 number n38 f38 in
          let n40 : 40 ≤ number = step 39 number n39 f39 in
          let n41 : 41 ≤ number = step 40 number n40 f40 in
          let n42 : 42 ≤ number = step 41 number n41 f41 in
          let n43 : 43 ≤ number = step 42 number n42 f42 in
          let n44 : 44 ≤ number = step 43 number n43 f43 in
          let n45 : 45 ≤ number = step 44 number n44 f44 in
          let n46 : 46 ≤ number = step 45 number n45 f45 in
          let n47 : 47 ≤ number = step 46 number n46 f46 in
          let n48 : 48 ≤ number = step 47 number n47 f47 in
          let n49 : 49 ≤ number = step 48 number n48 f48 in
          or_right (nat_lt number 33) (nat_lt 48 number) (lt-ltb 48 number (omega (arith, n49)))
    ])

pub kind_is : (number : ℕ) → 0 < number → KindIs (payload_kind number) number
kind_is number some =
    pick (number == 33) Sa _ number (λ t. eqb-true number 33 t) (λ f33.
    pick (number == 34) Ke _ number (λ t. eqb-true number 34 t) (λ f34.
    pick (number == 35) IdI _ number (λ t. eqb-true number 35 t) (λ f35.
    pick (number == 36) IdR _ number (λ t. eqb-true number 36 t) (λ f36.
    pick (number == 37) Cert _ number (λ t. eqb-true number 37 t) (λ f37.
    pick (number == 38) CertReq _ number (λ t. eqb-true number 38 t) (λ f38.
    pick (number == 39) Auth _ number (λ t. eqb-true number 39 t) (λ f39.
    pick (number == 40) Nonce _ number (λ t. eqb-true number 40 t) (λ f40.
    pick (number == 41) Notify _ number (λ t. eqb-true number 41 t) (λ f41.
    pick (number == 42) Delete _ number (λ t. eqb-true number 42 t) (λ f42.
    pick (number == 43) Vendor _ number (λ t. eqb-true number 43 t) (λ f43.
    pick (number == 44) TsI _ number (λ t. eqb-true number 44 t) (λ f44.
    pick (number == 45) TsR _ number (λ t. eqb-true number 45 t) (λ f45.
    pick (number == 46) Sk _ number (λ t. eqb-true number 46 t) (λ f46.
    pick (number == 47) Cp _ number (λ t. eqb-true number 47 t) (λ f47.
    pick (number == 48) Eap _ number (λ t. eqb-true number 48 t) (λ f48.
    outside number some f33 f34 f35 f36 f37 f38 f39 f40 f41 f42 f43 f44 f45 f46 f47 f48))))))))))))))))

outer : (z a b : Bool) → (z && (a || b)) ≡ true → (a ≡ true) ⊎ (b ≡ true)
outer true true b u = inl refl
outer true false b u = inr u
outer false a b u = absurd cc

first : (a b : Bool) → (a && b) ≡ true → a ≡ true
first true b e = refl
first false b e = absurd cc

pub some_type : (number : ℕ) → IsTrue (is_unknown number) → 0 < number
some_type number u = ltb-true 0 number (first (nat_lt 0 number) (nat_lt number 33 || nat_lt 48 number) u)

-- what is unknown is none of the known types
unlike : (a number : ℕ) → 33 ≤ a → a ≤ 48 → IsTrue (is_unknown number) → eqb number a ≡ false
unlike a number l h u =
    bool_same (eqb number a) false
    (λ t.
    let same : number ≡ a = eqb-true number a t in
    elim (outer (nat_lt 0 number) (nat_lt number 33) (nat_lt 48 number) u) [
      | inl lt ↦ absurd (omega (arith, ltb-true number 33 lt))
      | inr gt ↦ absurd (omega (arith, ltb-true 48 number gt))
    ])
    (λ f. absurd cc)

pub unknown_kind : (number : ℕ) → IsTrue (is_unknown number) → payload_kind number ≡ Other
unknown_kind number u =
    rw (unlike 33 number (omega arith) (omega arith) u, unlike 34 number (omega arith) (omega arith) u, unlike 35 number (omega arith) (omega arith) u, unlike 36 number (omega arith) (omega arith) u, unlike 37 number (omega arith) (omega arith) u, unlike 38 number (omega arith) (omega arith) u, unlike 39 number (omega arith) (omega arith) u, unlike 40 number (omega arith) (omega arith) u, unlike 41 number (omega arith) (omega arith) u, unlike 42 number (omega arith) (omega arith) u, unlike 43 number (omega arith) (omega arith) u, unlike 44 number (omega arith) (omega arith) u, unlike 45 number (omega arith) (omega arith) u, unlike 46 number (omega arith) (omega arith) u, unlike 47 number (omega arith) (omega arith) u, unlike 48 number (omega arith) (omega arith) u) refl
