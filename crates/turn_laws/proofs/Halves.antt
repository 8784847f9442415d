-- What is half open holds numbers that nobody else has.
use Rattle.std.proofs.lemmas.Option.{same_Some}
use Rattle.turn_rules.specs.Ends.{Performer}
use Rattle.keeper_book.specs.Counters.{five_at}
use Rattle.keeper_book.specs.declared.counters.Counter.{Counter}
use Rattle.turn_laws.specs.Resumed.{IsResumedRecord}
use Rattle.ha_base.specs.declared.limits.TheConstants.{LEAST_SPI}
use Rattle.keeper_book.specs.declared.TheConstants.{SETTLED_IV_HIGH}
use Rattle.std.proofs.Common.{◌≡◌, ◌≢◌, ◌⊎◌, inl, inr, ℕ, zero, suc, ◌<◌, Option, Some, None, List, [], ◌∷◌, length, ⊎_elim, refl, sym, subst, arith, ◌≤◌, ◌∙◌, ap, true, map, ◌-◌}
use Rattle.std.proofs.lemmas.Bool.Decides.{eqb_tells}
use Rattle.std.specs.List.{AllByRecursion, Contains}
use Rattle.keeper_book.specs.Book.{Book, Entry, entry_of, is_spent}
use Rattle.keeper_book.specs.declared.counters.Counter.TheVariants as counter
use Rattle.keeper_book.specs.declared.pools.Pool.TheVariants as pools
use Rattle.turn_laws.proofs.Columns.{mark-high}
use Rattle.turn_rules.proofs.SlotTies.{all-weaker}
use Rattle.turn_laws.proofs.Begun.{entry-spir}
use Rattle.turn_laws.proofs.Keeping.{column_half-none, import-unopened}
use Rattle.turn_laws.specs.Acts.{Act, HoldsFor, IsHalfOpen, begun_at, column_at, half_begun, holding_at, numbers_at, uses_at, Opened, opened_at, IsImport}
use Rattle.turn_laws.specs.Columns.{Column, ColumnGoesOn, nothing, column_mark}
use Rattle.turn_laws.specs.Holdings.{Actor, Half, Holding, IsNotIn, IsOwned, MayUse, Run, Use, column_begun, IsUseOf, End}
use Rattle.turn_laws.specs.Owned.{Owned, column_half, IsSettled}
use Rattle.turn_laws.specs.Places.{Ours, Pooled, column_ours, place_of}
use Rattle.turn_rules.specs.Safe.{KeyIv}

-- the next number was not used
pub next-may : (held : Actor → Option Holding) (uses : List Use) (column : Column) (w : Actor) (h : Holding) → IsOwned held uses column → held w ≡ Some h → h.next < h.high → MayUse h h.next
next-may held uses column w h owned holds below = record {
  from_base = (owned.holdings w h holds).from_base;
  below_high = below;
  unused = all-weaker h.numbers (λ k less same. absurd (let a : k < h.next = less in omega arith)) (owned.holdings w h holds).above_used;
}

-- a failure is sealed under the first IV
pub half-may : (acts : List Act) (key : KeyIv) (spir : ℕ) → place_of key.name ≡ Ours spir counter.Iv → key.iv ≡ 1 → IsHalfOpen acts spir → HoldsFor (holding_at (place_of key.name) acts (Half spir)) key.iv
half-may acts key spir place iv half = subst (λ p. HoldsFor (holding_at p acts (Half spir)) key.iv) (sym place) (record {
  holding = half_begun;
  holds = half;
  may = record { from_base = omega (arith, iv); below_high = omega (arith, iv); unused = tt };
})

module _ (acts : List Act) (book : Book) (owned : Owned acts book) where
  pub half-alone : (spir : ℕ) → IsHalfOpen acts spir → (v : Actor) (h : Holding) → holding_at (Ours spir counter.Iv) acts v ≡ Some h → h.epoch ≡ 1 → v ≡ Half spir
  half-alone spir half v h holds first = (owned.numbers (Ours spir counter.Iv)).alone v (Half spir) h half_begun holds half first

  pub half-unused : (spir : ℕ) → IsHalfOpen acts spir → AllByRecursion (λ u. u.epoch ≢ 1) (uses_at (Ours spir counter.Iv) acts)
  half-unused spir half = go (uses_at (Ours spir counter.Iv) acts) (λ n. (owned.numbers (Ours spir counter.Iv)).known (Half spir) half_begun half n tt)
    where
      go : (us : List Use) → ((n : ℕ) → AllByRecursion (λ u. u.epoch ≡ 1 → u.number ≢ n) us) → AllByRecursion (λ u. u.epoch ≢ 1) us
      go [] none = tt
      go (u ∷ us) none = ((λ first. (none u.number).0 first refl), go us (λ n. (none n).1))

  pub opened-drawn : (spir : ℕ) (o : Opened) → opened_at spir acts ≡ Some o → Contains (numbers_at (Pooled pools.Nonce) acts) spir
  opened-drawn spir o is = ⊎_elim (λ none. absurd (apart (owned.opened spir none))) (λ has. has) (either (numbers_at (Pooled pools.Nonce) acts))
    where
      apart : opened_at spir acts ≡ None → ⊥
      apart none = let has : opened_at spir acts ≡ Some o = is in absurd (cc)

      either : (ns : List ℕ) → IsNotIn spir ns ⊎ Contains ns spir
      either [] = inl tt
      either (n ∷ ns) = ⊎_elim
          (λ same. inr (zero, omega arith, same.1))
          (λ other. ⊎_elim (λ none. inl (other.1, none)) (λ has. inr (suc has.0, (let low : has.0 < length ns = has.1 in omega arith), has.2)) (either ns))
          (eqb_tells n spir)

  -- what has numbers under an SPI that no import has was half open under a number that was drawn
  pub used-drawn : (spir : ℕ) → spir < LEAST_SPI → (c : Counter) → numbers_at (Ours spir c) acts ≢ [] → Contains (numbers_at (Pooled pools.Nonce) acts) spir
  used-drawn spir low c some = go (uses_at (Ours spir c) acts) (owned.numbers (Ours spir c)).within some
    where
      begun : (x : Option Opened) → opened_at spir acts ≡ x → 0 < length (begun_at (Ours spir c) acts).bases → Contains (numbers_at (Pooled pools.Nonce) acts) spir
      begun (Some o) e more = opened-drawn spir o e
      begun None e more = absurd (none more)
        where
          is_nothing : begun_at (Ours spir c) acts ≡ nothing
          is_nothing = owned.begun spir c ∙ ap (column_half c) e ∙ column_half-none c

          none : 0 < length (begun_at (Ours spir c) acts).bases → ⊥
          none more = let zero_long : 0 < length nothing.bases = subst (λ (x : Column). 0 < length x.bases) is_nothing more in omega arith

      recorded : (e : Entry) → entry_of spir book.entries ≡ Some e → Contains (numbers_at (Pooled pools.Nonce) acts) spir
      recorded e found = ⊎_elim
          (λ import_of. absurd (let high : LEAST_SPI ≤ e.sa.spir = import_of.spir in let same : e.sa.spir ≡ spir = entry-spir spir book.entries e found in omega arith))
          (λ settled. opened-drawn spir settled.opened (ap (λ n. opened_at n acts) (sym (entry-spir spir book.entries e found)) ∙ settled.is_its))
          (owned.recorded spir e found)

      by_entry : (x : Option Entry) → entry_of spir book.entries ≡ x → 0 < length (column_ours c (begun_at (Ours spir c) acts) x).bases → Contains (numbers_at (Pooled pools.Nonce) acts) spir
      by_entry None e more = begun (opened_at spir acts) refl more
      by_entry (Some entry) e more = recorded entry e

      go : (us : List Use) → AllByRecursion (IsUseOf (column_at (Ours spir c) acts book)) us → map (λ u. u.number) us ≢ [] → Contains (numbers_at (Pooled pools.Nonce) acts) spir
      go [] within some = absurd (some refl)
      go (u ∷ us) within some = by_entry (entry_of spir book.entries) refl
          (let first : 1 ≤ u.epoch = within.0.some in let last : u.epoch ≤ length (column_at (Ours spir c) acts book).bases = within.0.begun in omega arith)

  module _ (spir : ℕ) (o : Opened) (is : opened_at spir acts ≡ Some o) where
    abbrev its_column : Column
    its_column = column_at (Ours spir counter.Iv) acts book

    its_first : begun_at (Ours spir counter.Iv) acts ≡ column_begun half_begun nothing
    its_first = owned.begun spir counter.Iv ∙ ap (column_half counter.Iv) is

    its_goes : ColumnGoesOn (column_begun half_begun nothing) its_column
    its_goes = subst (λ begun. ColumnGoesOn begun its_column) its_first (owned.goes_on spir)

    -- each later epoch begins where the first IVs end, or above
    pub later-above : (i : ℕ) → 1 ≤ i → SETTLED_IV_HIGH ≤ column_mark its_column i
    later-above i some =
        let first : SETTLED_IV_HIGH ≤ column_mark its_column 1 = its_goes.no_lower in
        let more : column_mark its_column 1 ≤ column_mark its_column i = its_goes.rising 1 i some in
        omega arith

    -- and so does the high, once the book has the association
    pub high-above : (e : Entry) → entry_of spir book.entries ≡ Some e → SETTLED_IV_HIGH ≤ five_at e.highs counter.Iv
    high-above e found =
        let shorter : 1 ≤ length its_column.bases = its_goes.no_shorter in
        let above : SETTLED_IV_HIGH ≤ column_mark its_column (length its_column.bases) = later-above (length its_column.bases) shorter in
        let top : column_mark its_column (length its_column.bases) ≡ its_column.high = mark-high its_column (length its_column.bases) (omega arith) in
        let high : its_column.high ≡ five_at e.highs counter.Iv = ap (λ x. (column_ours counter.Iv (begun_at (Ours spir counter.Iv) acts) x).high) found in
        omega arith

    -- what the book has of it is of its derivation, and its ticket is spent
    pub recorded-its : (e : Entry) → entry_of spir book.entries ≡ Some e → IsResumedRecord o.made e.sa × (is_spent o.ticket book.spent ≡ true)
    recorded-its e found = ⊎_elim imported settled (owned.recorded spir e found)
      where
        same : e.sa.spir ≡ spir
        same = entry-spir spir book.entries e found

        its : opened_at e.sa.spir acts ≡ Some o
        its = ap (λ n. opened_at n acts) same ∙ is

        imported : IsImport e.sa → IsResumedRecord o.made e.sa × (is_spent o.ticket book.spent ≡ true)
        imported import_of = let none : opened_at e.sa.spir acts ≡ None = import-unopened acts book book Run owned e.sa import_of in let has : opened_at e.sa.spir acts ≡ Some o = its in absurd (cc)

        settled : IsSettled acts book e.sa → IsResumedRecord o.made e.sa × (is_spent o.ticket book.spent ≡ true)
        settled s =
            let equal : s.opened ≡ o = same_Some s.opened o (sym s.is_its ∙ its) in
            (subst (λ (x : Opened). IsResumedRecord x.made e.sa) equal s.its_record, subst (λ (x : Opened). is_spent x.ticket book.spent ≡ true) equal s.spent)

  -- What is half open got so.
  half-opened : (spir : ℕ) → IsHalfOpen acts spir → begun_at (Ours spir counter.Iv) acts ≢ nothing → (o : Opened) × (opened_at spir acts ≡ Some o)
  half-opened spir half some = go (opened_at spir acts) refl
    where
      go : (x : Option Opened) → opened_at spir acts ≡ x → (o : Opened) × (opened_at spir acts ≡ Some o)
      go (Some o) e = (o, e)
      go None e = absurd (some (owned.begun spir counter.Iv ∙ ap (column_half counter.Iv) e))

  -- no IV below where the first ones end was used of it, and none at all before the book has it
  module _ (spir : ℕ) (o : Opened) (is : opened_at spir acts ≡ Some o) (half : IsHalfOpen acts spir) where
    pub half-above : AllByRecursion (λ n. SETTLED_IV_HIGH ≤ n) (numbers_at (Ours spir counter.Iv) acts)
    half-above = go (uses_at (Ours spir counter.Iv) acts) (half-unused spir half) (owned.numbers (Ours spir counter.Iv)).within
      where
        go : (us : List Use) → AllByRecursion (λ u. u.epoch ≢ 1) us → AllByRecursion (IsUseOf (column_at (Ours spir counter.Iv) acts book)) us → AllByRecursion (λ n. SETTLED_IV_HIGH ≤ n) (map (λ u. u.number) us)
        go [] later within = tt
        go (u ∷ us) later within = (
          (let first : 1 ≤ u.epoch = within.0.some in
              let not : u.epoch ≢ 1 = later.0 in
              let low : SETTLED_IV_HIGH ≤ column_mark (column_at (Ours spir counter.Iv) acts book) (u.epoch - 1) = later-above spir o is (u.epoch - 1) (omega (arith, not)) in
              let from : column_mark (column_at (Ours spir counter.Iv) acts book) (u.epoch - 1) ≤ u.number = within.0.from_base in
              let so : SETTLED_IV_HIGH ≤ u.number = omega arith in so),
          go us later.1 within.1,
        )

    pub half-none : entry_of spir book.entries ≡ None → numbers_at (Ours spir counter.Iv) acts ≡ []
    half-none absent = go (uses_at (Ours spir counter.Iv) acts) (half-unused spir half) (owned.numbers (Ours spir counter.Iv)).within
      where
        column_is : column_at (Ours spir counter.Iv) acts book ≡ column_begun half_begun nothing
        column_is = ap (column_ours counter.Iv (begun_at (Ours spir counter.Iv) acts)) absent ∙ its_first spir o is

        go : (us : List Use) → AllByRecursion (λ u. u.epoch ≢ 1) us → AllByRecursion (IsUseOf (column_at (Ours spir counter.Iv) acts book)) us → map (λ u. u.number) us ≡ []
        go [] later within = refl
        go (u ∷ us) later within =
            let first : 1 ≤ u.epoch = within.0.some in
            let not : u.epoch ≢ 1 = later.0 in
            let one : u.epoch ≤ length (column_begun half_begun nothing).bases = subst (λ (x : Column). u.epoch ≤ length x.bases) column_is within.0.begun in
            absurd (omega (arith, not))

    -- and no member holds its first epoch
    pub half-unheld : (c : Counter) (end : Performer) (h : Holding) → holding_at (Ours spir c) acts (End end) ≡ Some h → h.epoch ≢ 1
    half-unheld counter.Iv end h holds = λ first. apart (half-alone spir half (End end) h holds first)
      where
        apart : End end ≡ Half spir → ⊥
        apart same = absurd (cc)
    half-unheld counter.EspOut end h holds = owned.unheld spir o half_begun counter.EspOut is half refl (λ e. absurd (cc)) (End end) h holds
    half-unheld counter.EspIn end h holds = owned.unheld spir o half_begun counter.EspIn is half refl (λ e. absurd (cc)) (End end) h holds
    half-unheld counter.Ask end h holds = owned.unheld spir o half_begun counter.Ask is half refl (λ e. absurd (cc)) (End end) h holds
    half-unheld counter.Answer end h holds = owned.unheld spir o half_begun counter.Answer is half refl (λ e. absurd (cc)) (End end) h holds
