-- Each move keeps the numbers of one counter apart.
use Rattle.std.proofs.Common.{◌≡◌, ◌≢◌, ◌⊎◌, inl, inr, ℕ, ◌+◌, ◌-◌, ◌<◌, ◌≤◌, max, Bool, true, false, Option, Some, None, List, [], ◌∷◌, length, map, ⊎_elim, refl, ap, sym, ◌∙◌, subst, arith, if◌then◌else◌}
use Rattle.std.proofs.lemmas.Bool.{cases_order, eqb-true, eq-eqb}
use Rattle.std.proofs.lemmas.Option.{same_Some}
use Rattle.std.specs.List.{AllByRecursion}
use Rattle.std.specs.Option.{option_map}
use Rattle.turn_laws.proofs.Columns.{mark-goes_on}
use Rattle.turn_rules.proofs.SlotTies.{all-weaker}
use Rattle.turn_laws.specs.Columns.{Column, ColumnGoesOn, column_mark}
use Rattle.turn_laws.specs.Holdings.{Actor, Begins, Draws, Effect, End, Half, Jumps, Passes, Holding, IsHoldingOf, IsNew, IsNotIn, IsOwned, IsUseOf, MayUse, Nothing, Rises, Run, Use, drawn, epoch_of, use_end, holding_after, is_actor, jumped_to, raised_to, uses_after}
use Rattle.turn_rules.specs.Ends.{Member, Peer, Performer, is_performer}

pub is_performer-same : (a : Performer) → is_performer a a ≡ true
is_performer-same Peer = refl
is_performer-same (Member n) = eq-eqb n n refl

pub is_performer-true : (a b : Performer) → is_performer a b ≡ true → a ≡ b
is_performer-true Peer Peer e = refl
is_performer-true Peer (Member b) e = absurd (cc)
is_performer-true (Member a) Peer e = absurd (cc)
is_performer-true (Member a) (Member b) e = ap Member (eqb-true a b e)

pub is_actor-same : (w : Actor) → is_actor w w ≡ true
is_actor-same Run = refl
is_actor-same (End a) = is_performer-same a
is_actor-same (Half a) = eq-eqb a a refl

pub is_actor-true : (w v : Actor) → is_actor w v ≡ true → w ≡ v
is_actor-true Run Run e = refl
is_actor-true (End a) (End b) e = ap End (is_performer-true a b e)
is_actor-true (Half a) (Half b) e = ap Half (eqb-true a b e)
is_actor-true w v e = absurd (cc)

pub apart : (a b : Actor) → is_actor a b ≡ false → a ≢ b
apart a b other same = let here : is_actor a b ≡ true = subst (λ x. is_actor a x ≡ true) same (is_actor-same a) in absurd (cc)

pub differ : (a b : Actor) → a ≢ b → is_actor a b ≡ false
differ a b other = by_test (is_actor a b) refl
  where
    by_test : (test : Bool) → is_actor a b ≡ test → test ≡ false
    by_test true t = absurd (other (is_actor-true a b t))
    by_test false t = refl

-- what is held of a column, once it goes on
pub holding-goes_on : (old new : Column) (h : Holding) → ColumnGoesOn old new → IsHoldingOf old h → IsHoldingOf new h
holding-goes_on old new h goes of = record {
  some = of.some;
  begun = let a : h.epoch ≤ length old.bases = of.begun in let b : length old.bases ≤ length new.bases = goes.no_shorter in omega arith;
  base = goes.same_bases (h.epoch - 1) (let a : h.epoch ≤ length old.bases = of.begun in let b : 1 ≤ h.epoch = of.some in omega arith) ∙ of.base;
  high = let a : h.high ≤ column_mark old h.epoch = of.high in let b : column_mark old h.epoch ≤ column_mark new h.epoch = mark-goes_on old new goes h.epoch of.begun in omega arith;
  end = of.end ∙ sym (goes.same_end (let a : h.epoch ≤ length old.bases = of.begun in let b : 1 ≤ h.epoch = of.some in omega arith));
  from_base = of.from_base;
  above_used = of.above_used;
}

pub use-goes_on : (old new : Column) (u : Use) → ColumnGoesOn old new → IsUseOf old u → IsUseOf new u
use-goes_on old new u goes of = record {
  some = of.some;
  begun = let a : u.epoch ≤ length old.bases = of.begun in let b : length old.bases ≤ length new.bases = goes.no_shorter in omega arith;
  from_base =
      let s : column_mark new (u.epoch - 1) ≡ column_mark old (u.epoch - 1) = goes.same_bases (u.epoch - 1) (let a : u.epoch ≤ length old.bases = of.begun in let b : 1 ≤ u.epoch = of.some in omega arith) in
      let f : column_mark old (u.epoch - 1) ≤ u.number = of.from_base in
      omega arith;
  below = let a : u.number < column_mark old u.epoch = of.below in let b : column_mark old u.epoch ≤ column_mark new u.epoch = mark-goes_on old new goes u.epoch of.begun in omega arith;
  end = of.end ∙ sym (goes.same_end (let a : u.epoch ≤ length old.bases = of.begun in let b : 1 ≤ u.epoch = of.some in omega arith));
}

-- A call of the keeper, answered, refused or failed: the column goes on.
pub owned-goes_on : (held : Actor → Option Holding) (uses : List Use) (old new : Column) → IsOwned held uses old → ColumnGoesOn old new → IsOwned held uses new
owned-goes_on held uses old new owned goes = record {
  rising = goes.rising;
  holdings = λ w h e. holding-goes_on old new h goes (owned.holdings w h e);
  alone = owned.alone;
  within = all-weaker uses (λ u. use-goes_on old new u goes) owned.within;
  known = owned.known;
  once = owned.once;
}

-- the same is held
pub owned-agrees : (held now : Actor → Option Holding) (uses : List Use) (column : Column) → IsOwned held uses column → ((w : Actor) → held w ≡ now w) → IsOwned now uses column
owned-agrees held now uses column owned same = record {
  rising = owned.rising;
  holdings = λ w h e. owned.holdings w h (same w ∙ e);
  alone = λ w v h g eh eg. owned.alone w v h g (same w ∙ eh) (same v ∙ eg);
  within = owned.within;
  known = λ w h e. owned.known w h (same w ∙ e);
  once = owned.once;
}

module _ (held : Actor → Option Holding) (uses : List Use) (column : Column) (owned : IsOwned held uses column) where
  -- no number of an epoch to come was used
  none_used : (epoch : ℕ) → length column.bases < epoch → (n : ℕ) → AllByRecursion (λ u. u.epoch ≡ epoch → u.number ≢ n) uses
  none_used epoch later n = all-weaker uses (λ u of same. absurd (let a : u.epoch ≤ length column.bases = of.begun in omega arith)) owned.within

  module _ (w : Actor) (to : Option Holding) where
    -- the holding of one end changes
    abbrev pub changed : Actor → Option Holding
    changed v = if is_actor w v then to else held v

    changed_cases : {P : Type 0} (v : Actor) (h : Holding) → changed v ≡ Some h → (w ≡ v → to ≡ Some h → P) → (held v ≡ Some h → P) → P
    changed_cases {P} v h e here there = by_test (is_actor w v) refl
      where
        by_test : (b : Bool) → is_actor w v ≡ b → P
        by_test true t = here (is_actor-true w v t) (ap (λ b. if b then to else held v) (sym t) ∙ e)
        by_test false t = there (ap (λ b. if b then to else held v) (sym t) ∙ e)

-- The beginning of a holding, also in place of an earlier one of the same end.
pub owned-begins : (held : Actor → Option Holding) (uses : List Use) (old new : Column) (w : Actor) (h : Holding) → IsOwned held uses old → ColumnGoesOn old new → IsNew old new h → IsOwned (holding_after (Begins w h) held) uses new
owned-begins held uses old new w h owned goes fresh = record {
  rising = goes.rising;
  holdings = λ v g e. changed_cases held uses old owned w (Some h) v g e
      (λ same is. subst (λ x. IsHoldingOf new x) (same_Some h g is) fresh.of_column)
      (λ was. holding-goes_on old new g goes (owned.holdings v g was));
  alone = λ v u g k eg ek same. changed_cases held uses old owned w (Some h) v g eg
      (λ wv isg. changed_cases held uses old owned w (Some h) u k ek
      (λ wu isk. sym wv ∙ wu)
      (λ was. absurd (later u k was (sym same ∙ sym (ap (λ (x : Holding). x.epoch) (same_Some h g isg))))))
      (λ wasg. changed_cases held uses old owned w (Some h) u k ek
      (λ wu isk. absurd (later v g wasg (same ∙ sym (ap (λ (x : Holding). x.epoch) (same_Some h k isk)))))
      (λ wask. owned.alone v u g k wasg wask same));
  within = all-weaker uses (λ u. use-goes_on old new u goes) owned.within;
  known = λ v g e n none. changed_cases held uses old owned w (Some h) v g e
      (λ same is. subst (λ (x : Holding). AllByRecursion (λ u. u.epoch ≡ x.epoch → u.number ≢ n) uses) (same_Some h g is) (none_used held uses old owned h.epoch is_later n))
      (λ was. owned.known v g was n none);
  once = owned.once;
}
  where
    is_later : length old.bases < h.epoch
    is_later = let a : h.epoch ≡ length old.bases + 1 = fresh.next_epoch in omega arith

    -- no earlier holding is of the new epoch
    later : (v : Actor) (g : Holding) → held v ≡ Some g → g.epoch ≡ h.epoch → ⊥
    later v g e same =
        let a : g.epoch ≤ length old.bases = (owned.holdings v g e).begun in
        let b : length old.bases < h.epoch = is_later in
        absurd (omega arith)

module _ (held : Actor → Option Holding) (uses : List Use) (column : Column) (owned : IsOwned held uses column) (w : Actor) (h : Holding) (holds : held w ≡ Some h) where
  alone-changed : (to : Holding) → to.epoch ≡ h.epoch → (v u : Actor) (g k : Holding) → changed held uses column owned w (Some to) v ≡ Some g → changed held uses column owned w (Some to) u ≡ Some k → g.epoch ≡ k.epoch → v ≡ u
  alone-changed to epoch v u g k eg ek same = changed_cases held uses column owned w (Some to) v g eg
      (λ wv isg. changed_cases held uses column owned w (Some to) u k ek
      (λ wu isk. sym wv ∙ wu)
      (λ wask. sym wv ∙ owned.alone w u h k holds wask (sym epoch ∙ (ap (λ (x : Holding). x.epoch) (same_Some to g isg) ∙ same))))
      (λ wasg. changed_cases held uses column owned w (Some to) u k ek
      (λ wu isk. owned.alone v w g h wasg holds (same ∙ (sym (ap (λ (x : Holding). x.epoch) (same_Some to k isk)) ∙ epoch)) ∙ wu)
      (λ wask. owned.alone v u g k wasg wask same))

  holdings-changed : (to : Holding) → IsHoldingOf column to → (v : Actor) (g : Holding) → changed held uses column owned w (Some to) v ≡ Some g → IsHoldingOf column g
  holdings-changed to of v g e = changed_cases held uses column owned w (Some to) v g e
      (λ same is. subst (λ x. IsHoldingOf column x) (same_Some to g is) of)
      (λ was. owned.holdings v g was)

  -- A rise of a holding's high.
  pub owned-raised : (upto : ℕ) → upto ≤ column_mark column h.epoch → IsOwned (changed held uses column owned w (Some (raised_to upto h))) uses column
  owned-raised upto below = record {
    rising = owned.rising;
    holdings = holdings-changed (raised_to upto h) of;
    alone = alone-changed (raised_to upto h) refl;
    within = owned.within;
    known = λ v g e n none. changed_cases held uses column owned w (Some (raised_to upto h)) v g e
        (λ same is.
        let q : raised_to upto h ≡ g = same_Some (raised_to upto h) g is in
        subst (λ (x : Holding). AllByRecursion (λ u. u.epoch ≡ x.epoch → u.number ≢ n) uses) q
        (owned.known w h holds n (subst (λ (x : Holding). IsNotIn n x.numbers) (sym q) none)))
        (λ was. owned.known v g was n none);
    once = owned.once;
  }
    where
      was : IsHoldingOf column h
      was = owned.holdings w h holds

      of : IsHoldingOf column (raised_to upto h)
      of = record {
        some = was.some;
        begun = was.begun;
        base = was.base;
        high = let a : h.high ≤ column_mark column h.epoch = was.high in omega arith;
        end = was.end;
        from_base = was.from_base;
        above_used = was.above_used;
      }

  -- A jump: the next number rises.
  pub owned-jumped : (n : ℕ) → IsOwned (changed held uses column owned w (Some (jumped_to n h))) uses column
  owned-jumped n = record {
    rising = owned.rising;
    holdings = holdings-changed (jumped_to n h) (record {
      some = was.some;
      begun = was.begun;
      base = was.base;
      high = was.high;
      end = was.end;
      from_base = let a : h.base ≤ h.next = was.from_base in omega arith;
      above_used = all-weaker h.numbers (λ k below. let a : k < h.next = below in let b : k < max n h.next = omega arith in b) was.above_used;
    });
    alone = alone-changed (jumped_to n h) refl;
    within = owned.within;
    known = λ v g e k none. changed_cases held uses column owned w (Some (jumped_to n h)) v g e
        (λ same is.
        let q : jumped_to n h ≡ g = same_Some (jumped_to n h) g is in
        subst (λ (x : Holding). AllByRecursion (λ u. u.epoch ≡ x.epoch → u.number ≢ k) uses) q
        (owned.known w h holds k (subst (λ (x : Holding). IsNotIn k x.numbers) (sym q) none)))
        (λ was. owned.known v g was k none);
    once = owned.once;
  }
    where
      was : IsHoldingOf column h
      was = owned.holdings w h holds

  -- The use of a number from a holding's base on and below its high.
  pub owned-drawn : (n : ℕ) → MayUse h n → IsOwned (changed held uses column owned w (Some (drawn n h))) (record { epoch = h.epoch; number = n; end = h.end } ∷ uses) column
  owned-drawn n may = record {
    rising = owned.rising;
    holdings = holdings-changed (drawn n h) (record {
      some = was.some;
      begun = was.begun;
      base = was.base;
      high = was.high;
      end = was.end;
      from_base = let a : h.base ≤ h.next = was.from_base in omega arith;
      above_used = (omega arith, all-weaker h.numbers (λ k below. let a : k < h.next = below in let b : k < max (n + 1) h.next = omega arith in b) was.above_used);
    });
    alone = alone-changed (drawn n h) refl;
    within = (of, owned.within);
    known = λ v g e k none. changed_cases held uses column owned w (Some (drawn n h)) v g e
        (λ same is.
        let q : drawn n h ≡ g = same_Some (drawn n h) g is in
        let others : IsNotIn k (n ∷ h.numbers) = subst (λ (x : Holding). IsNotIn k x.numbers) (sym q) none in
        subst (λ (x : Holding). AllByRecursion (λ u. u.epoch ≡ x.epoch → u.number ≢ k) (record { epoch = h.epoch; number = n; end = h.end } ∷ uses)) q
        (((λ eq. others.0), owned.known w h holds k others.1)))
        (λ wasg. ((λ eq. other_epoch v g k e wasg none eq), owned.known v g wasg k none));
    once = (not_used uses owned.within (owned.known w h holds n may.unused), owned.once);
  }
    where
      was : IsHoldingOf column h
      was = owned.holdings w h holds

      of : IsUseOf column (record { epoch = h.epoch; number = n; end = h.end })
      of = record {
        some = was.some;
        begun = was.begun;
        from_base = let a : column_mark column (h.epoch - 1) ≡ h.base = was.base in let b : h.base ≤ n = may.from_base in omega arith;
        below = let a : n < h.high = may.below_high in let b : h.high ≤ column_mark column h.epoch = was.high in omega arith;
        end = was.end;
      }

      -- the end that holds the epoch is this one, and it holds what it holds now
      other_epoch : (v : Actor) (g : Holding) (k : ℕ) → changed held uses column owned w (Some (drawn n h)) v ≡ Some g → held v ≡ Some g → IsNotIn k g.numbers → h.epoch ≡ g.epoch → n ≢ k
      other_epoch v g k e wasg none eq =
          let wv : w ≡ v = owned.alone w v h g holds wasg eq in
          let here : is_actor w v ≡ true = subst (λ u. is_actor w u ≡ true) wv (is_actor-same w) in
          let is : Some (drawn n h) ≡ Some g = ap (λ b. if b then Some (drawn n h) else held v) (sym here) ∙ e in
          let others : IsNotIn k (n ∷ h.numbers) = subst (λ (x : Holding). IsNotIn k x.numbers) (sym (same_Some (drawn n h) g is)) none in
          others.0

      not_used : (us : List Use) → AllByRecursion (IsUseOf column) us → AllByRecursion (λ u. u.epoch ≡ h.epoch → u.number ≢ n) us → AllByRecursion (λ y. y ≢ n) (map (λ u. u.number) us)
      not_used [] of_column others = tt
      not_used (u ∷ us) of_column others = (one, not_used us of_column.1 others.1)
        where
          one : u.number ≢ n
          one = ⊎_elim (λ same. others.0 same) (λ differs. ⊎_elim below above differs) (cases_order u.epoch h.epoch)
            where
              below : u.epoch < h.epoch → u.number ≢ n
              below l same =
                  let a : u.number < column_mark column u.epoch = of_column.0.below in
                  let b : column_mark column u.epoch ≤ column_mark column (h.epoch - 1) = owned.rising u.epoch (h.epoch - 1) (omega arith) in
                  let c : column_mark column (h.epoch - 1) ≡ h.base = was.base in
                  let d : h.base ≤ n = may.from_base in
                  absurd (omega arith)

              above : h.epoch < u.epoch → u.number ≢ n
              above l same =
                  let a : column_mark column (u.epoch - 1) ≤ u.number = of_column.0.from_base in
                  let b : column_mark column h.epoch ≤ column_mark column (u.epoch - 1) = owned.rising h.epoch (u.epoch - 1) (omega arith) in
                  let c : h.high ≤ column_mark column h.epoch = was.high in
                  let d : n < h.high = may.below_high in
                  absurd (omega arith)

-- What one holds passes to another one.
module _ (held : Actor → Option Holding) (w v : Actor) where
  -- whose holding it was
  record Source (u : Actor) (g : Holding) : Type 0 where
    pub from : Actor
    pub holds : held from ≡ Some g
    pub is : ((v ≡ u) × (from ≡ w)) ⊎ ((w ≢ u) × (from ≡ u))

  source : (u : Actor) (g : Holding) → holding_after (Passes w v) held u ≡ Some g → Source u g
  source u g e = by_test (is_actor v u) (is_actor w u) refl refl e
    where
      by_test : (b c : Bool) → is_actor v u ≡ b → is_actor w u ≡ c → (if b then held w else (if c then None else held u)) ≡ Some g → Source u g
      by_test true c t s e = record { from = w; holds = e; is = inl (is_actor-true v u t, refl) }
      by_test false true t s e = absurd (cc)
      by_test false false t s e = record { from = u; holds = e; is = inr (apart w u s, refl) }

  pub owned-passes : (uses : List Use) (column : Column) → IsOwned held uses column → IsOwned (holding_after (Passes w v) held) uses column
  owned-passes uses column owned = record {
    rising = owned.rising;
    holdings = λ u g e. let s = source u g e in owned.holdings s.from g s.holds;
    alone = λ a b g k eg ek same. go a b g k (source a g eg) (source b k ek) same;
    within = owned.within;
    known = λ u g e. let s = source u g e in owned.known s.from g s.holds;
    once = owned.once;
  }
    where
      go : (a b : Actor) (g k : Holding) (s : Source a g) (t : Source b k) → g.epoch ≡ k.epoch → a ≡ b
      go a b g k s t same = ⊎_elim
          (λ here. ⊎_elim (λ there. sym here.0 ∙ there.0) (λ there. absurd (there.0 (sym here.1 ∙ (one ∙ there.1)))) t.is)
          (λ here. ⊎_elim (λ there. absurd (here.0 (sym there.1 ∙ (sym one ∙ here.1)))) (λ there. sym here.1 ∙ (one ∙ there.1)) t.is)
          s.is
        where
          one : s.from ≡ t.from
          one = owned.alone s.from t.from g k s.holds t.holds same

-- what one end holds changes, if it holds something
module _ (held : Actor → Option Holding) (w : Actor) (edit : Holding → Holding) where
  map_none : held w ≡ None → (v : Actor) → held v ≡ (if is_actor w v then option_map edit (held v) else held v)
  map_none e v = by_test (is_actor w v) refl
    where
      by_test : (b : Bool) → is_actor w v ≡ b → held v ≡ (if b then option_map edit (held v) else held v)
      by_test true t = let none : held v ≡ None = subst (λ u. held u ≡ None) (is_actor-true w v t) e in rw none refl
      by_test false t = refl

  map_some : (h : Holding) → held w ≡ Some h → (v : Actor) → (if is_actor w v then Some (edit h) else held v) ≡ (if is_actor w v then option_map edit (held v) else held v)
  map_some h e v = by_test (is_actor w v) refl
    where
      by_test : (b : Bool) → is_actor w v ≡ b → (if b then Some (edit h) else held v) ≡ (if b then option_map edit (held v) else held v)
      by_test true t = let some : held v ≡ Some h = subst (λ u. held u ≡ Some h) (is_actor-true w v t) e in rw some refl
      by_test false t = refl

-- what an effect needs of the column before it, and of the one after it
abbrev pub Keeps : Effect → (Actor → Option Holding) → Column → Column → Type 0
Keeps Nothing held old new = ColumnGoesOn old new
Keeps (Begins w h) held old new = ColumnGoesOn old new × IsNew old new h
Keeps (Rises w upto) held old new = ColumnGoesOn old new × ((h : Holding) → held w ≡ Some h → upto ≤ column_mark new h.epoch)
Keeps (Jumps w n) held old new = ColumnGoesOn old new
Keeps (Passes w v) held old new = ColumnGoesOn old new
Keeps (Draws w n) held old new = ColumnGoesOn old new × (h : Holding) × (held w ≡ Some h) × MayUse h n

-- in each case the column goes on
pub keeps-goes : (effect : Effect) (held : Actor → Option Holding) (old new : Column) → Keeps effect held old new → ColumnGoesOn old new
keeps-goes Nothing held old new keeps = keeps
keeps-goes (Begins w h) held old new keeps = keeps.0
keeps-goes (Rises w upto) held old new keeps = keeps.0
keeps-goes (Jumps w n) held old new keeps = keeps
keeps-goes (Passes w v) held old new keeps = keeps
keeps-goes (Draws w n) held old new keeps = keeps.0

-- every effect keeps the numbers of a counter apart
pub owned-after : (held : Actor → Option Holding) (uses : List Use) (old new : Column) (effect : Effect) → IsOwned held uses old → Keeps effect held old new → IsOwned (holding_after effect held) (uses_after effect held uses) new
owned-after held uses old new Nothing owned keeps = owned-goes_on held uses old new owned keeps
owned-after held uses old new (Begins w h) owned keeps = owned-begins held uses old new w h owned keeps.0 keeps.1
owned-after held uses old new (Passes w v) owned keeps = owned-passes held w v uses new (owned-goes_on held uses old new owned keeps)
owned-after held uses old new (Rises w upto) owned keeps = by_held (held w) refl
  where
    later : IsOwned held uses new
    later = owned-goes_on held uses old new owned keeps.0

    by_held : (x : Option Holding) → held w ≡ x → IsOwned (holding_after (Rises w upto) held) uses new
    by_held None e = owned-agrees held (holding_after (Rises w upto) held) uses new later (map_none held w (raised_to upto) e)
    by_held (Some h) e = owned-agrees (changed held uses new later w (Some (raised_to upto h))) (holding_after (Rises w upto) held) uses new
        (owned-raised held uses new later w h e upto (keeps.1 h e)) (map_some held w (raised_to upto) h e)
owned-after held uses old new (Jumps w n) owned keeps = by_held (held w) refl
  where
    later : IsOwned held uses new
    later = owned-goes_on held uses old new owned keeps

    by_held : (x : Option Holding) → held w ≡ x → IsOwned (holding_after (Jumps w n) held) uses new
    by_held None e = owned-agrees held (holding_after (Jumps w n) held) uses new later (map_none held w (jumped_to n) e)
    by_held (Some h) e = owned-agrees (changed held uses new later w (Some (jumped_to n h))) (holding_after (Jumps w n) held) uses new
        (owned-jumped held uses new later w h e n) (map_some held w (jumped_to n) h e)
owned-after held uses old new (Draws w n) owned keeps =
    let h : Holding = keeps.1 in
    let e : held w ≡ Some h = keeps.2 in
    subst (λ us. IsOwned (holding_after (Draws w n) held) us new) (ap (λ x. record { epoch = epoch_of x; number = n; end = use_end x } ∷ uses) (sym e))
    (owned-agrees (changed held uses new later w (Some (drawn n h))) (holding_after (Draws w n) held) (record { epoch = h.epoch; number = n; end = h.end } ∷ uses) new
    (owned-drawn held uses new later w h e n keeps.3) (map_some held w (drawn n) h e))
  where
    later : IsOwned held uses new
    later = owned-goes_on held uses old new owned keeps.0
