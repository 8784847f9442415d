-- Of follows with the latest first, the last n tell whether there are n recent ones.
use Rattle.std.proofs.Common.{◌≡◌, ℕ, zero, suc, ◌+◌, ◌≤◌, Bool, true, false, cond, List, [], ◌∷◌, All, take, count_by, ◌∙◌, refl, arith}
use Rattle.std.proofs.lemmas.Bool.Decides.{nat_tests}
use Rattle.std.proofs.lemmas.List.Elements.{All-nil, All-cons, All-head, All-tail, All-take, All-weaker}
use Rattle.std.proofs.lemmas.List.Sums.{sum_by-cons, sum_by-take-le}
use Rattle.redirects.specs.Follows.{IsLoop, is_recent, kept_of}
use Rattle.redirects.specs.Laws.{FollowingKeepsTheOrder, IsLatestFirst, KeptFollowsDecide}

count_first : (now moment : ℕ) (earlier : List ℕ) → count_by (is_recent now) (moment ∷ earlier) ≡ cond (is_recent now moment) 1 0 + count_by (is_recent now) earlier
count_first now moment earlier = sum_by-cons (λ other. cond (is_recent now other) 1 0) moment earlier

none_recent : (now latest : ℕ) (earlier : List ℕ) → All (λ other. other ≤ latest) earlier → is_recent now latest ≡ false → count_by (is_recent now) earlier ≡ 0
none_recent now latest [] before old = refl
none_recent now latest (moment ∷ earlier) before old =
    count_first now moment earlier ∙ go (is_recent now moment) refl (none_recent now latest earlier (All-tail (λ other. other ≤ latest) moment earlier before) old)
  where
    go : (b : Bool) → is_recent now moment ≡ b → count_by (is_recent now) earlier ≡ 0 → cond b 1 0 + count_by (is_recent now) earlier ≡ 0
    go true is none = let low : moment ≤ latest = All-head (λ other. other ≤ latest) moment earlier before in grind (arith, nat_tests)
    go false is none = omega arith

recent_first : (n now : ℕ) (follows : List ℕ) → IsLatestFirst follows → n ≤ count_by (is_recent now) follows → n ≤ count_by (is_recent now) (take n follows)
recent_first zero now follows ordered many = omega arith
recent_first (suc n) now [] ordered many = many
recent_first (suc n) now (moment ∷ earlier) (before, ordered) many =
    let counted : suc n ≤ cond (is_recent now moment) 1 0 + count_by (is_recent now) earlier = omega (arith, count_first now moment earlier) in
    let fewer : suc n ≤ cond (is_recent now moment) 1 0 + count_by (is_recent now) (take n earlier) = go (is_recent now moment) refl (recent_first n now earlier ordered) counted in
    omega (arith, count_first now moment (take n earlier))
  where
    go : (b : Bool) → is_recent now moment ≡ b → (n ≤ count_by (is_recent now) earlier → n ≤ count_by (is_recent now) (take n earlier)) →
        suc n ≤ cond b 1 0 + count_by (is_recent now) earlier → suc n ≤ cond b 1 0 + count_by (is_recent now) (take n earlier)
    go true is others many = let fewer : n ≤ count_by (is_recent now) (take n earlier) = others (omega arith) in omega arith
    go false is others many = let none : count_by (is_recent now) earlier ≡ 0 = none_recent now moment earlier before is in omega arith

kept_tell : (follows : List ℕ) (now : ℕ) → IsLatestFirst follows → IsLoop (kept_of follows) now → IsLoop follows now
kept_tell follows now ordered many =
    let fewer : count_by (is_recent now) (take 5 follows) ≤ count_by (is_recent now) follows = sum_by-take-le (λ moment. cond (is_recent now moment) 1 0) follows 5 in omega arith

pub kept_decide : KeptFollowsDecide
kept_decide follows now asked nonce decision ordered decided =
    let more : IsLoop (kept_of follows) now → IsLoop follows now = kept_tell follows now ordered in
    let less : IsLoop follows now → IsLoop (kept_of follows) now = recent_first 5 now follows ordered in
    record {
      unasked = decided.unasked;
      other_nonce = decided.other_nonce;
      loops = (λ is. ((decided.loops.0 is).0, more (decided.loops.0 is).1), λ parts. decided.loops.1 (parts.0, less parts.1));
      followed = (λ is. ((decided.followed.0 is).0, λ loop. (decided.followed.0 is).1 (less loop)), λ parts. decided.followed.1 (parts.0, λ loop. parts.1 (more loop)));
    }

pub none_later : (follows : List ℕ) (now : ℕ) → All (λ moment. moment ≤ now) follows → All (λ moment. moment ≤ now) (kept_of (now ∷ follows))
none_later follows now before =
    All-take (λ moment. moment ≤ now) 5 (now ∷ follows) (All-cons (λ moment. moment ≤ now) now follows (omega arith) before)

pub order_kept : FollowingKeepsTheOrder
order_kept [] now ordered before = (All-nil (λ moment. moment ≤ now), ordered)
order_kept (latest ∷ earlier) now (first, ordered) before =
    let low : latest ≤ now = All-head (λ moment. moment ≤ now) latest (take 4 earlier) before in
    (All-cons (λ moment. moment ≤ now) latest earlier low (All-weaker (λ moment. moment ≤ latest) (λ moment. moment ≤ now) (λ moment under. omega arith) earlier first), (first, ordered))
