-- Who is at the place of a member.
use Rattle.std.proofs.Common.{◌≡◌, ℕ, zero, suc, ◌-◌, ◌<◌, ◌≤◌, ◌==◌, Bool, true, false, Option, Some, None, List, [], ◌∷◌, ◌++◌, length, get_or, ⊎_elim, refl, ap, sym, ◌∙◌, arith, subst}
use Rattle.std.proofs.Math.ListN.{set}
use Rattle.std.proofs.lemmas.Bool.{and_parts, cases_lt, eqb-false, eqb-true, ltb-true}
use Rattle.std.proofs.lemmas.List.{get_or_append_left, get_or_at, get_or_default, get_or_past, get_or-set_same, get_or-set_other, length-append, length-set}
use Rattle.std.proofs.lemmas.Option.{same_Some}
use Rattle.std.specs.Prelude.{is_none, nat_le, nat_lt}
use Rattle.cluster_member.specs.Members.{Holder}
use Rattle.run_ends.specs.Parties.{AreInPlace, EndsHeld, IsMember, IsMemberPlace, holder_of, member_at, member_seen, nobody, seat_or}
use Rattle.turn_rules.specs.MemberStates.{member_unless}

-- the members are counted from 1
pub counted : (member place : ℕ) (members : List (Option Holder)) → IsMemberPlace member place members → member ≡ suc place
counted member place members is =
    let some : 0 < member = ltb-true 0 member (and_parts (nat_lt 0 member) (nat_le member (length members)) is.joined).0 in
    let at : place ≡ member - 1 = is.counted in
    omega (arith, some, at)

-- who is at the place of a member, whoever stands for nobody
pub seat_of : (none : Option Holder) (members : List (Option Holder)) (member place : ℕ) (x : Option Holder) → IsMemberPlace member place members → x ≡ get_or members place x → seat_or none members member ≡ x
seat_of none members member place x is at = ap (seat_or none members) (counted member place members is) ∙ get_or_default members place none x is.within ∙ sym at

-- nobody holds anything where nobody is
pub unless-seen : (members : List (Option Holder)) (k : ℕ) → member_at members k ≡ member_unless (is_none (holder_of members k)) (member_at members k)
unless-seen members zero = refl
unless-seen members (suc k) = go members k
  where
    go : (members : List (Option Holder)) (k : ℕ) → member_at members (suc k) ≡ member_unless (is_none (holder_of members (suc k))) (member_at members (suc k))
    go [] k = refl
    go (None ∷ more) zero = refl
    go (Some x ∷ more) zero = refl
    go (x ∷ more) (suc k) = go more k

module _ (none : Option Holder) (members : List (Option Holder)) (place : ℕ) (within : place < length members) where
  -- one place is another's, and the others stay
  pub seat-same : (x : Option Holder) → seat_or none (set members place x) (suc place) ≡ x
  seat-same x = get_or-set_same members place x none within

  pub seat-other : (x : Option Holder) (k : ℕ) → (k == suc place) ≡ false → seat_or none (set members place x) k ≡ seat_or none members k
  seat-other x zero other = refl
  seat-other x (suc k) other = get_or-set_other members place k x none (λ same. eqb-false (suc k) (suc place) other (ap (λ n. suc n) same))

  -- who is there is so whatever stands for nobody
  pub seat-any : (other : Option Holder) → seat_or none members (suc place) ≡ seat_or other members (suc place)
  seat-any other = get_or_default members place none other within

module _ (members : List (Option Holder)) (place : ℕ) (within : place < length members) (x : Option Holder) where
  pub seat_here : holder_of (set members place x) (suc place) ≡ x
  seat_here = seat-same (Some nobody) members place within x

  pub seat_there : (k : ℕ) → (k == suc place) ≡ false → holder_of (set members place x) k ≡ holder_of members k
  seat_there k other = seat-other (Some nobody) members place within x k other

module _ (members : List (Option Holder)) (x : Holder) where
  abbrev pub more : List (Option Holder)
  more = members ++ Some x ∷ []

  pub more-length : length more ≡ suc (length members)
  more-length = let e : _ = length-append members (Some x ∷ []) in omega (arith, e)

  -- one more stands behind the others
  more-seat : (P : Option Holder → Type 0) (k : ℕ) → P (Some x) → (P (holder_of members k)) → P (holder_of more k)
  more-seat P zero new old = old
  more-seat P (suc k) new old = ⊎_elim
      (λ before. subst P (sym (get_or_append_left members (Some x ∷ []) (Some nobody) k before)) old)
      (λ after. by_place (k == length members) refl after)
      (cases_lt k (length members))
    where
      by_place : (b : Bool) → (k == length members) ≡ b → length members ≤ k → P (holder_of more (suc k))
      by_place true e after = subst P (sym (get_or_at members (Some x) [] (Some nobody) k (sym (eqb-true k (length members) e)))) new
      by_place false e after =
          let apart = eqb-false k (length members) e in
          let long : length more ≤ k = omega (arith, more-length, after, apart) in
          subst P (get_or_past members k (Some nobody) after ∙ sym (get_or_past more k (Some nobody) long)) old

  pub more-gone : (k : ℕ) → is_none (holder_of more k) ≡ is_none (holder_of members k)
  more-gone zero = refl
  more-gone (suc k) = ⊎_elim
      (λ before. ap is_none (get_or_append_left members (Some x ∷ []) (Some nobody) k before))
      (λ after. more-seat (λ y. is_none y ≡ false) (suc k) refl (ap is_none (get_or_past members k (Some nobody) after)) ∙ sym (ap is_none (get_or_past members k (Some nobody) after)))
      (cases_lt k (length members))

  -- what the one more holds, and the others
  pub more-seen_here : member_at more (suc (length members)) ≡ member_seen (Some x)
  more-seen_here = ap member_seen (get_or_at members (Some x) [] None (length members) refl)

  pub more-seen_there : (k : ℕ) → (k == suc (length members)) ≡ false → member_at more k ≡ member_at members k
  more-seen_there zero other = refl
  more-seen_there (suc k) other = ⊎_elim
      (λ before. ap member_seen (get_or_append_left members (Some x ∷ []) None k before))
      (λ after.
      let apart = eqb-false (suc k) (suc (length members)) other in
      let long : length more ≤ k = omega (arith, more-length, after, apart) in
      ap member_seen (get_or_past more k None long ∙ sym (get_or_past members k None after)))
      (cases_lt k (length members))

-- the members are in their places after one of them acted
pub acted-in_place : (s : EndsHeld) (place : ℕ) (now : Holder) → place < length s.members → AreInPlace s → IsMember (suc place) s.config now → AreInPlace (record s { members = set s.members place (Some now) })
acted-in_place s place now within in_place is k holder l sits = by_place (suc k == suc place) refl
  where
    by_place : (b : Bool) → (suc k == suc place) ≡ b → IsMember (suc k) s.config holder
    by_place true e =
        let same : k ≡ place = omega (arith, eqb-true (suc k) (suc place) e) in
        let here : holder_of (set s.members place (Some now)) (suc k) ≡ Some now = ap (λ n. holder_of (set s.members place (Some now)) (suc n)) same ∙ seat_here s.members place within (Some now) in
        subst (λ n. IsMember (suc n) s.config holder) (sym same) (subst (IsMember (suc place) s.config) (same_Some now holder (sym here ∙ sits)) is)
    by_place false e = in_place k holder (omega (arith, l, length-set s.members place (Some now))) (sym (seat_there s.members place within (Some now) (suc k) e) ∙ sits)

pub ended-in_place : (s : EndsHeld) (place : ℕ) → place < length s.members → AreInPlace s → AreInPlace (record s { members = set s.members place None })
ended-in_place s place within in_place k holder l sits = by_place (suc k == suc place) refl
  where
    by_place : (b : Bool) → (suc k == suc place) ≡ b → IsMember (suc k) s.config holder
    by_place true e =
        let same : k ≡ place = omega (arith, eqb-true (suc k) (suc place) e) in
        let here : holder_of (set s.members place None) (suc k) ≡ None = ap (λ n. holder_of (set s.members place None) (suc n)) same ∙ seat_here s.members place within None in
        let never : None ≡ Some holder = sym here ∙ sits in
        absurd (cc)
    by_place false e = in_place k holder (omega (arith, l, length-set s.members place None)) (sym (seat_there s.members place within None (suc k) e) ∙ sits)

-- and after one more joined
pub joined-in_place : (s : EndsHeld) (x : Holder) → AreInPlace s → IsMember (suc (length s.members)) s.config x → AreInPlace (record s { members = s.members ++ Some x ∷ [] })
joined-in_place s x in_place is k holder l sits = ⊎_elim
    (λ before. in_place k holder before (sym (get_or_append_left s.members (Some x ∷ []) (Some nobody) k before) ∙ sits))
    (λ after.
    let e : k ≡ length s.members = omega (arith, l, more-length s.members x, after) in
    let here : Some x ≡ Some holder = sym (get_or_at s.members (Some x) [] (Some nobody) k (sym e)) ∙ sits in
    subst (IsMember (suc k) s.config) (same_Some x holder here) (subst (λ n. IsMember (suc n) s.config x) (sym e) is))
    (cases_lt k (length s.members))
