-- Columns that go on.
use Rattle.std.proofs.Common.{◌≡◌, ℕ, zero, suc, ◌+◌, ◌<◌, ◌≤◌, List, [], ◌∷◌, ◌++◌, length, get_or, ⊎_elim, refl, sym, subst, arith, ◌∙◌}
use Rattle.std.proofs.lemmas.Bool.{cases_lt}
use Rattle.std.proofs.lemmas.List.{get_or_past, get_or_default}
use Rattle.turn_laws.specs.Columns.{Column, ColumnGoesOn, IsRising, column_mark, nothing}

-- an epoch that did not begin has the high as its mark
pub mark-high : (column : Column) (i : ℕ) → length column.bases ≤ i → column_mark column i ≡ column.high
mark-high column i past = get_or_past column.bases i column.high past

-- and no epoch is above it
pub mark-top : (column : Column) → IsRising column → (i : ℕ) → i ≤ length column.bases → column_mark column i ≤ column.high
mark-top column rising i l =
    let a : column_mark column i ≤ column_mark column (length column.bases) = rising i (length column.bases) l in
    let b : column_mark column (length column.bases) ≡ column.high = mark-high column (length column.bases) (omega arith) in
    omega arith

-- an epoch that began ends no lower
pub mark-goes_on : (old new : Column) → ColumnGoesOn old new → (i : ℕ) → i ≤ length old.bases → column_mark old i ≤ column_mark new i
mark-goes_on old new goes i within = ⊎_elim before last (cases_lt i (length old.bases))
  where
    before : i < length old.bases → column_mark old i ≤ column_mark new i
    before l = let same : column_mark new i ≡ column_mark old i = goes.same_bases i l in omega arith

    last : length old.bases ≤ i → column_mark old i ≤ column_mark new i
    last l =
        let is : i ≡ length old.bases = omega arith in
        let top : column_mark old i ≡ old.high = mark-high old i l in
        let no_lower : old.high ≤ column_mark new i = subst (λ k. old.high ≤ column_mark new k) (sym is) goes.no_lower in
        omega arith

pub goes_on-refl : (column : Column) → IsRising column → ColumnGoesOn column column
goes_on-refl column rising = record {
  no_shorter = omega arith;
  same_bases = λ i l. refl;
  no_lower = let e : column_mark column (length column.bases) ≡ column.high = mark-high column (length column.bases) (omega arith) in omega arith;
  rising = rising;
  same_end = λ some. refl;
}

pub goes_on-trans : (old mid new : Column) → ColumnGoesOn old mid → ColumnGoesOn mid new → ColumnGoesOn old new
goes_on-trans old mid new first then_ = record {
  no_shorter = let a : length old.bases ≤ length mid.bases = first.no_shorter in let b : length mid.bases ≤ length new.bases = then_.no_shorter in omega arith;
  same_bases = λ i l. then_.same_bases i (let a : length old.bases ≤ length mid.bases = first.no_shorter in omega (arith, l)) ∙ first.same_bases i l;
  no_lower =
      let a : old.high ≤ column_mark mid (length old.bases) = first.no_lower in
      let b : column_mark mid (length old.bases) ≤ column_mark new (length old.bases) = mark-goes_on mid new then_ (length old.bases) first.no_shorter in
      omega arith;
  rising = then_.rising;
  same_end = λ some. then_.same_end (let a : length old.bases ≤ length mid.bases = first.no_shorter in omega (arith, some)) ∙ first.same_end some;
}

-- a column with no epoch rises
pub rising-none : (high end : ℕ) → IsRising (record { bases = []; high = high; end = end })
rising-none high end i j l = omega arith

-- nothing was there before
pub goes_on-first : (new : Column) → IsRising new → ColumnGoesOn nothing new
goes_on-first new rising = record {
  no_shorter = omega arith;
  same_bases = λ i l. absurd (omega arith);
  no_lower = omega arith;
  rising = rising;
  same_end = λ some. absurd (omega (arith, some));
}

-- a higher high
abbrev pub with_high : Column → ℕ → Column
with_high column high = record column { high = high }

mark-with_high : (column : Column) (high i : ℕ) → i < length column.bases → column_mark (with_high column high) i ≡ column_mark column i
mark-with_high column high i l = get_or_default column.bases i high column.high l

pub goes_on-higher : (column : Column) (high : ℕ) → IsRising column → column.high ≤ high → ColumnGoesOn column (with_high column high)
goes_on-higher column high rising higher = record {
  no_shorter = omega arith;
  same_bases = mark-with_high column high;
  no_lower = let e : column_mark (with_high column high) (length column.bases) ≡ high = mark-high (with_high column high) (length column.bases) (omega arith) in omega arith;
  rising = rises;
  same_end = λ some. refl;
}
  where
    rises : IsRising (with_high column high)
    rises i j l = ⊎_elim inside past (cases_lt j (length column.bases))
      where
        inside : j < length column.bases → column_mark (with_high column high) i ≤ column_mark (with_high column high) j
        inside b =
            let a : column_mark (with_high column high) i ≡ column_mark column i = mark-with_high column high i (omega arith) in
            let c : column_mark (with_high column high) j ≡ column_mark column j = mark-with_high column high j b in
            let r : column_mark column i ≤ column_mark column j = rising i j l in
            omega arith

        past : length column.bases ≤ j → column_mark (with_high column high) i ≤ column_mark (with_high column high) j
        past b = ⊎_elim before after (cases_lt i (length column.bases))
          where
            top : column_mark (with_high column high) j ≡ high
            top = mark-high (with_high column high) j b

            before : i < length column.bases → column_mark (with_high column high) i ≤ column_mark (with_high column high) j
            before c =
                let a : column_mark (with_high column high) i ≡ column_mark column i = mark-with_high column high i c in
                let r : column_mark column i ≤ column_mark column (length column.bases) = rising i (length column.bases) (omega arith) in
                let e : column_mark column (length column.bases) ≡ column.high = mark-high column (length column.bases) (omega arith) in
                let t : column_mark (with_high column high) j ≡ high = top in
                omega arith

            after : length column.bases ≤ i → column_mark (with_high column high) i ≤ column_mark (with_high column high) j
            after c =
                let a : column_mark (with_high column high) i ≡ high = mark-high (with_high column high) i c in
                let t : column_mark (with_high column high) j ≡ high = top in
                omega arith

-- one epoch more, which begins at the high: each mark is as it was
abbrev pub with_epoch : Column → Column
with_epoch column = record column { bases = column.bases ++ column.high ∷ [] }

mark-append : (bases : List ℕ) (high i : ℕ) → get_or (bases ++ high ∷ []) i high ≡ get_or bases i high
mark-append [] high i = by_number i
  where
    by_number : (i : ℕ) → get_or (high ∷ []) i high ≡ high
    by_number zero = refl
    by_number (suc i) = refl
mark-append (b ∷ bs) high i = by_number (mark-append bs high) i
  where
    by_number : ((i : ℕ) → get_or (bs ++ high ∷ []) i high ≡ get_or bs i high) → (i : ℕ) → get_or (b ∷ (bs ++ high ∷ [])) i high ≡ get_or (b ∷ bs) i high
    by_number rest zero = refl
    by_number rest (suc i) = rest i

pub mark-with_epoch : (column : Column) (i : ℕ) → column_mark (with_epoch column) i ≡ column_mark column i
mark-with_epoch column i = mark-append column.bases column.high i

pub length-append_one : (xs : List ℕ) (x : ℕ) → length (xs ++ x ∷ []) ≡ length xs + 1
length-append_one [] x = refl
length-append_one (y ∷ ys) x = let e : length (ys ++ x ∷ []) ≡ length ys + 1 = length-append_one ys x in omega arith

pub goes_on-epoch : (column : Column) → IsRising column → ColumnGoesOn column (with_epoch column)
goes_on-epoch column rising = record {
  no_shorter = let e : length (column.bases ++ column.high ∷ []) ≡ length column.bases + 1 = length-append_one column.bases column.high in omega arith;
  same_bases = λ i l. mark-with_epoch column i;
  no_lower =
      let e : column_mark (with_epoch column) (length column.bases) ≡ column_mark column (length column.bases) = mark-with_epoch column (length column.bases) in
      let t : column_mark column (length column.bases) ≡ column.high = mark-high column (length column.bases) (omega arith) in
      omega arith;
  rising = λ i j l.
      let a : column_mark (with_epoch column) i ≡ column_mark column i = mark-with_epoch column i in
      let b : column_mark (with_epoch column) j ≡ column_mark column j = mark-with_epoch column j in
      let r : column_mark column i ≤ column_mark column j = rising i j l in
      omega arith;
  same_end = λ some. refl;
}

-- one epoch alone
pub rising-one : (base high end : ℕ) → base ≤ high → IsRising (record { bases = base ∷ []; high = high; end = end })
rising-one base high end below i j l = by_number i j l
  where
    by_number : (i j : ℕ) → i ≤ j → get_or (base ∷ []) i high ≤ get_or (base ∷ []) j high
    by_number zero zero l = omega arith
    by_number zero (suc j) l = omega arith
    by_number (suc i) zero l = absurd (omega arith)
    by_number (suc i) (suc j) l = omega arith
