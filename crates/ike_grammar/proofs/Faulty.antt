-- Where a reader refuses, and that what stands further on changes nothing.
use Rattle.std.proofs.Common.{◌≡◌, ℕ, zero, suc, ◌+◌, ◌-◌, ◌≤◌, ◌<◌, ◌⊎◌, Bool, true, false, List, [], ◌∷◌, ◌++◌, length, Result, Ok, Err, refl, sym, ap, subst, ◌∙◌, arith, inl, inr, length-append, append_assoc}
use Rattle.ike_values.specs.declared.fault.Bad.{Bad}
use Rattle.ike_values.specs.declared.fault.Reason.{Reason}
use Rattle.ike_values.specs.declared.fault.Reason.TheVariants.{Short, Length, Field, Trailing}
use Rattle.ike_grammar.specs.OctetRange.{IsOctets}
use Rattle.ike_grammar.specs.Faults.{◌>>=◌, unless, Passes, many_by, many}
use Rattle.ike_grammar.proofs.Binds.{bind_ok, ok_is}
use Rattle.ike_grammar.proofs.Alike.{Alike, alike_behind}
use Rattle.ike_grammar.proofs.Counted.{Counts}

-- ---- tests

pub bad_is : {A : Type 0} (d b : Bad) → (let r : Result A Bad = Err d in r) ≡ Err b → d ≡ b
bad_is d b e = cc

-- each test that is met first refuses between these places
abbrev pub Within : ℕ → ℕ → List (Bool × Bad) → Type 0
Within low high [] = Unit {0}
Within low high (t ∷ ts) = (t.0 ≡ true → (low ≤ t.1.place) × (t.1.place ≤ high)) × (t.0 ≡ false → Within low high ts)

-- what holds of each test that is met first, and of what is read behind them, holds of the fault
abbrev pub Meet : (Bad → Type 0) → List (Bool × Bad) → Type 0
Meet P [] = Unit {0}
Meet P (t ∷ ts) = (t.0 ≡ true → P t.1) × (t.0 ≡ false → Meet P ts)

pub met : {A : Type 0} (P : Bad → Type 0) (ts : List (Bool × Bad)) (read : Result A Bad) (b : Bad) → Meet P ts → (Passes ts → read ≡ Err b → P b) → unless ts read ≡ Err b → P b
met P [] read b m behind e = behind tt e
met P ((true, d) ∷ ts) read b m behind e = subst P (bad_is d b e) (m.0 refl)
met P ((false, d) ∷ ts) read b m behind e = met P ts read b (m.1 refl) (λ p. behind (refl, p)) e

-- what is wrong in octets that end at the place end: an octet is there, unless octets are wanting
abbrev pub WrongIn : Reason → ℕ → ℕ → Type 0
WrongIn Short place end = Unit {0}
WrongIn Length place end = place < end
WrongIn Field place end = place < end
WrongIn Trailing place end = place < end
WrongIn reason place end = ⊥

abbrev pub IsIn : ℕ → Bad → Type 0
IsIn end b = WrongIn b.reason b.place end

pub in_more : (reason : Reason) (place end end' : ℕ) → end ≤ end' → WrongIn reason place end → WrongIn reason place end'
in_more Short place end end' l w = tt
in_more Length place end end' l w = omega (arith, l, w)
in_more Field place end end' l w = omega (arith, l, w)
in_more Trailing place end end' l w = omega (arith, l, w)
in_more reason place end end' l w = absurd w

pub placed : {A : Type 0} (low high : ℕ) (ts : List (Bool × Bad)) (read : Result A Bad) (b : Bad) → Within low high ts → (Passes ts → read ≡ Err b → (low ≤ b.place) × (b.place ≤ high)) → unless ts read ≡ Err b → (low ≤ b.place) × (b.place ≤ high)
placed low high [] read b w behind e = behind tt e
placed low high ((true, d) ∷ ts) read b w behind e = subst (λ (c : Bad). (low ≤ c.place) × (c.place ≤ high)) (bad_is d b e) (w.0 refl)
placed low high ((false, d) ∷ ts) read b w behind e = placed low high ts read b (w.1 refl) (λ p. behind (refl, p)) e

decided : {A : Type 0} (ts : List (Bool × Bad)) (read read' : Result A Bad) (b : Bad) → (Passes ts → read ≡ Err b → read' ≡ Err b) → unless ts read ≡ Err b → unless ts read' ≡ Err b
decided [] read read' b behind e = behind tt e
decided ((true, d) ∷ ts) read read' b behind e = e
decided ((false, d) ∷ ts) read read' b behind e = decided ts read read' b (λ p. behind (refl, p)) e

-- the same tests refuse the same, and where they pass, what is read behind them decides
pub tested : {A : Type 0} (ts others : List (Bool × Bad)) (read read' : Result A Bad) (b : Bad) → others ≡ ts → (Passes ts → read ≡ Err b → read' ≡ Err b) → unless ts read ≡ Err b → unless others read' ≡ Err b
tested ts others read read' b same behind e = subst (λ (us : List (Bool × Bad)). unless us read' ≡ Err b) (sym same) (decided ts read read' b behind e)

-- ---- readers one after another

pub bind_err : {A B : Type 0} (r : Result A Bad) (f : A → Result B Bad) (b : Bad) → (r >>= f) ≡ Err b → (r ≡ Err b) ⊎ ((x : A) × (r ≡ Ok x) × (f x ≡ Err b))
bind_err (Ok x) f b e = inr (x, refl, e)
bind_err (Err d) f b e = inl (ap (λ (c : Bad). Err c) (bad_is d b e))

pub no_fault : {A B : Type 0} (x : A) (b : Bad) → (let r : Result A Bad = Ok x in r) ≡ Err b → B
no_fault x b e = absurd cc

-- what is made of what is read is no fault
pub made_err : {A B : Type 0} (r : Result A Bad) (f : A → B) (b : Bad) → (r >>= λ x. Ok (f x)) ≡ Err b → r ≡ Err b
made_err (Ok x) f b e = no_fault (f x) b e
made_err (Err d) f b e = ap (λ (c : Bad). Err c) (bad_is d b e)

pub err_first : {A B : Type 0} (r : Result A Bad) (f : A → Result B Bad) (b : Bad) → r ≡ Err b → (r >>= f) ≡ Err b
err_first r f b e = ap (λ s. s >>= f) e

pub err_then : {A B : Type 0} (r : Result A Bad) (f : A → Result B Bad) (x : A) (b : Bad) → r ≡ Ok x → f x ≡ Err b → (r >>= f) ≡ Err b
err_then r f x b e g = ap (λ s. s >>= f) e ∙ g

-- The fault of octets that end at the place end: it lies among them, or at most back octets before,
-- and octets that begin alike, up to eight behind the place, have it too.
pub record FaultIn {A : Type 0} (read : List ℕ → Result A Bad) (end back : ℕ) (bytes : List ℕ) (b : Bad) : Type 0 where
  pub not_before : end ≤ b.place + length bytes + back
  pub not_behind : b.place ≤ end
  pub wrong : IsIn end b
  pub stays : (n : ℕ) (others : List ℕ) → Alike n bytes others → b.place + 8 + length bytes ≤ end + n → read others ≡ Err b

-- how a reader that takes octets from the front goes on
pub record Takes {X : Type 0} (one : List ℕ → Result (X × List ℕ) Bad) (bytes : List ℕ) (x : X × List ℕ) : Type 0 where
  pub front : List ℕ
  pub parts : bytes ≡ front ++ x.1
  pub again : (rest : List ℕ) → length rest ≡ length x.1 → one (front ++ rest) ≡ Ok (x.0, rest)
  pub rest_fits : IsOctets x.1

pub record Steps {X : Type 0} (one : List ℕ → Result (X × List ℕ) Bad) (end : ℕ) : Type 0 where
  pub fault : (bytes : List ℕ) (b : Bad) → IsOctets bytes → length bytes ≤ end → one bytes ≡ Err b → FaultIn one end 0 bytes b
  pub takes : (bytes : List ℕ) (x : X × List ℕ) → IsOctets bytes → one bytes ≡ Ok x → Takes one bytes x

-- octets that begin alike are read alike by a reader, as far as it takes any
pub record GoesOn {X : Type 0} (one : List ℕ → Result (X × List ℕ) Bad) (x : X × List ℕ) (others : List ℕ) (n : ℕ) : Type 0 where
  pub left : List ℕ
  pub read : one others ≡ Ok (x.0, left)
  pub alike : Alike n x.1 left

pub goes_on : {X : Type 0} (one : List ℕ → Result (X × List ℕ) Bad) (bytes others : List ℕ) (x : X × List ℕ) (n : ℕ) (t : Takes one bytes x) → Alike n bytes others → length t.front ≤ n → GoesOn one x others (n - length t.front)
goes_on one bytes others x n t a l =
    let behind = alike_behind n t.front x.1 bytes others t.parts a l in
    record { left = behind.left; read = ap one behind.parts ∙ t.again behind.left behind.alike.long; alike = behind.alike }

pub front_len : {X : Type 0} (one : List ℕ → Result (X × List ℕ) Bad) (bytes : List ℕ) (x : X × List ℕ) (t : Takes one bytes x) → length bytes ≡ length t.front + length x.1
front_len one bytes x t = ap length t.parts ∙ length-append t.front x.1

-- ---- items until no octet is left

many_first : {X : Type 0} (one : List ℕ → Result (X × List ℕ) Bad) (n : ℕ) (bytes : List ℕ) (b : Bad) → 0 < length bytes → one bytes ≡ Err b → many_by one (suc n) bytes ≡ Err b
unfolding many_by
many_first one n [] b some e = absurd (omega arith)
many_first one n (c ∷ bytes) b some e = err_first (one (c ∷ bytes)) (λ x. many_by one n x.1 >>= λ others. Ok (x.0 ∷ others)) b e

many_then : {X : Type 0} (one : List ℕ → Result (X × List ℕ) Bad) (n : ℕ) (bytes : List ℕ) (x : X × List ℕ) (b : Bad) → 0 < length bytes → one bytes ≡ Ok x → many_by one n x.1 ≡ Err b → many_by one (suc n) bytes ≡ Err b
unfolding many_by
many_then one n [] x b some e g = absurd (omega arith)
many_then one n (c ∷ bytes) x b some e g =
    err_then (one (c ∷ bytes)) (λ y. many_by one n y.1 >>= λ others. Ok (y.0 ∷ others)) x b e (err_first (many_by one n x.1) (λ others. Ok (x.0 ∷ others)) b g)

many_by_fault : {X : Type 0} (one : List ℕ → Result (X × List ℕ) Bad) (end : ℕ) → Steps one end → (n : ℕ) (bytes : List ℕ) (b : Bad) → IsOctets bytes → length bytes ≤ end → many_by one n bytes ≡ Err b → FaultIn (many_by one n) end 0 bytes b
unfolding many_by
many_by_fault one end steps zero bytes b fits l e = no_fault [] b e
many_by_fault one end steps (suc n) [] b fits l e = no_fault [] b e
many_by_fault one end steps (suc n) (c ∷ bytes) b fits l e =
    elim (bind_err (one (c ∷ bytes)) (λ x. many_by one n x.1 >>= λ others. Ok (x.0 ∷ others)) b e) [
      | inl h ↦
          let f = steps.fault (c ∷ bytes) b fits l h in
          record {
            not_before = f.not_before;
            not_behind = f.not_behind;
            wrong = f.wrong;
            stays = λ m others a k. many_first one n others b (omega (arith, a.long)) (f.stays m others a k);
          }
      | inr h ↦
          let x = h.0 in
          let t = steps.takes (c ∷ bytes) x fits h.1 in
          let len = front_len one (c ∷ bytes) x t in
          let inner = made_err (many_by one n x.1) (λ others. x.0 ∷ others) b h.2 in
          let f = many_by_fault one end steps n x.1 b t.rest_fits (omega (arith, len, l)) inner in
          record {
            not_before = omega (arith, f.not_before, len);
            not_behind = f.not_behind;
            wrong = f.wrong;
            stays = λ m others a k.
                let g = goes_on one (c ∷ bytes) others x m t a (omega (arith, f.not_before, len, k)) in
                many_then one n others (x.0, g.left) b (omega (arith, a.long)) g.read (f.stays (m - length t.front) g.left g.alike (omega (arith, f.not_before, len, k)));
          }
    ]

pub many_fault : {X : Type 0} (one : List ℕ → Result (X × List ℕ) Bad) (end : ℕ) → Steps one end → (bytes : List ℕ) (b : Bad) → IsOctets bytes → length bytes ≤ end → many one bytes ≡ Err b → FaultIn (many one) end 0 bytes b
many_fault one end steps bytes b fits l e =
    let f = many_by_fault one end steps (length bytes) bytes b fits l e in
    record {
      not_before = f.not_before;
      not_behind = f.not_behind;
      wrong = f.wrong;
      stays = λ n others a k. ap (λ (m : ℕ). many_by one m others) a.long ∙ f.stays n others a k;
    }

-- ---- so many items

pub all_fault : {X : Type 0} (one : ℕ → List ℕ → Result (X × List ℕ) Bad) (all : ℕ → List ℕ → Result (List X × List ℕ) Bad) → Counts one all → (end : ℕ) → ((k : ℕ) → Steps (one k) end)
    → (n : ℕ) (bytes : List ℕ) (b : Bad) → IsOctets bytes → length bytes ≤ end → all n bytes ≡ Err b → FaultIn (all n) end 0 bytes b
all_fault one all c end steps zero bytes b fits l e = no_fault ([], bytes) b (sym (c.none bytes) ∙ e)
all_fault one all c end steps (suc n) bytes b fits l e =
    elim (bind_err (one n bytes) (λ x. all n x.1 >>= λ others. Ok (x.0 ∷ others.0, others.1)) b (sym (c.more n bytes) ∙ e)) [
      | inl h ↦
          let f = (steps n).fault bytes b fits l h in
          record {
            not_before = f.not_before;
            not_behind = f.not_behind;
            wrong = f.wrong;
            stays = λ m others a k. c.more n others ∙ err_first (one n others) (λ x. all n x.1 >>= λ more. Ok (x.0 ∷ more.0, more.1)) b (f.stays m others a k);
          }
      | inr h ↦
          let x = h.0 in
          let t = (steps n).takes bytes x fits h.1 in
          let len = front_len (one n) bytes x t in
          let inner = made_err (all n x.1) (λ others. (x.0 ∷ others.0, others.1)) b h.2 in
          let f = all_fault one all c end steps n x.1 b t.rest_fits (omega (arith, len, l)) inner in
          record {
            not_before = omega (arith, f.not_before, len);
            not_behind = f.not_behind;
            wrong = f.wrong;
            stays = λ m others a k.
                let g = goes_on (one n) bytes others x m t a (omega (arith, f.not_before, len, k)) in
                let more = f.stays (m - length t.front) g.left g.alike (omega (arith, f.not_before, len, k)) in
                c.more n others ∙
                err_then (one n others) (λ y. all n y.1 >>= λ ys. Ok (y.0 ∷ ys.0, ys.1)) (x.0, g.left) b g.read (err_first (all n g.left) (λ ys. Ok (x.0 ∷ ys.0, ys.1)) b more);
          }
    ]

joined : (bytes a r b rest : List ℕ) → bytes ≡ a ++ r → r ≡ b ++ rest → bytes ≡ (a ++ b) ++ rest
joined bytes a r b rest e f = e ∙ ap (λ (t : List ℕ). a ++ t) f ∙ sym (append_assoc a b rest)

grouped : {Y : Type 0} (read : List ℕ → Result Y Bad) (a b rest : List ℕ) (y : Y) → read (a ++ (b ++ rest)) ≡ Ok y → read ((a ++ b) ++ rest) ≡ Ok y
grouped read a b rest y e = ap read (append_assoc a b rest) ∙ e

all_more : {X : Type 0} (one : ℕ → List ℕ → Result (X × List ℕ) Bad) (all : ℕ → List ℕ → Result (List X × List ℕ) Bad) → Counts one all → (n : ℕ) (bytes : List ℕ) (x : X × List ℕ) (xs : List X × List ℕ)
    → one n bytes ≡ Ok x → all n x.1 ≡ Ok xs → all (suc n) bytes ≡ Ok (x.0 ∷ xs.0, xs.1)
all_more one all c n bytes x xs e f = rw (c.more n bytes, e, f) refl

pub all_take : {X : Type 0} (one : ℕ → List ℕ → Result (X × List ℕ) Bad) (all : ℕ → List ℕ → Result (List X × List ℕ) Bad) → Counts one all → (end : ℕ) → ((k : ℕ) → Steps (one k) end)
    → (n : ℕ) (bytes : List ℕ) (x : List X × List ℕ) → IsOctets bytes → all n bytes ≡ Ok x → Takes (all n) bytes x
all_take one all c end steps zero bytes x fits e =
    subst (λ y. Takes (all 0) bytes y) (ok_is ([], bytes) x (sym (c.none bytes) ∙ e)) (record { front = []; parts = refl; again = λ rest l. c.none rest; rest_fits = fits })
all_take one all c end steps (suc n) bytes x fits e =
    let first = bind_ok (one n bytes) (λ y. all n y.1 >>= λ others. Ok (y.0 ∷ others.0, others.1)) x (sym (c.more n bytes) ∙ e) in
    let others = bind_ok (all n first.0.1) (λ ys. Ok (first.0.0 ∷ ys.0, ys.1)) x first.2 in
    let t = (steps n).takes bytes first.0 fits first.1 in
    let more = all_take one all c end steps n first.0.1 others.0 t.rest_fits others.1 in
    let behind = front_len (all n) first.0.1 others.0 more in
    subst (λ y. Takes (all (suc n)) bytes y) (ok_is (first.0.0 ∷ others.0.0, others.0.1) x others.2)
    (record {
      front = t.front ++ more.front;
      parts = joined bytes t.front first.0.1 more.front others.0.1 t.parts more.parts;
      again = λ rest l.
          let whole : length (more.front ++ rest) ≡ length first.0.1 = omega (arith, l, behind, length-append more.front rest) in
          let read : one n ((t.front ++ more.front) ++ rest) ≡ Ok (first.0.0, more.front ++ rest) = grouped (one n) t.front more.front rest (first.0.0, more.front ++ rest) (t.again (more.front ++ rest) whole) in
          all_more one all c n ((t.front ++ more.front) ++ rest) (first.0.0, more.front ++ rest) (others.0.0, rest) read (more.again rest l);
      rest_fits = more.rest_fits;
    })
