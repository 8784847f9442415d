-- The high of received ESP numbers in an honest book goes no further than the start and the covers that were asked for.
use Rattle.std.proofs.Common.{◌≡◌, ℕ, ◌≤◌, ◌==◌, ◌&&◌, Bool, true, false, Option, Some, None, List, [], ◌∷◌, ⊎_elim, refl, ap, sym, ◌∙◌, subst, arith, if◌then◌else◌}
use Rattle.std.proofs.lemmas.Bool.{eqb-true}
use Rattle.std.proofs.lemmas.Option.{same_Some}
use Rattle.std.specs.List.{AllByRecursion, cons_option}
use Rattle.std.specs.Option.{option_map}
use Rattle.events.specs.declared.turn.Turn.{Turn}
use Rattle.keeper_book.specs.Book.{Answers, Book, Enters, EntersAll, Entry, closed, empty, entry_of, fresh, raised_at, refusal, settled, taken_over}
use Rattle.keeper_book.specs.Counters.{counter_named}
use Rattle.keeper_book.specs.Told.{seen}
use Rattle.keeper_book.specs.declared.calls.Call.{Call}
use Rattle.keeper_book.specs.declared.calls.KeeperAnswer.{KeeperAnswer}
use Rattle.keeper_book.specs.declared.calls.KeeperAnswer.TheVariants as answer
use Rattle.keeper_book.specs.declared.calls.KeeperAsk.{KeeperAsk}
use Rattle.keeper_book.specs.declared.calls.KeeperAsk.TheVariants as ask
use Rattle.keeper_book.specs.declared.counters.Counter.{Counter}
use Rattle.keeper_book.specs.declared.counters.Counter.TheVariants as counter
use Rattle.keeper_book.specs.declared.faults.KeeperFault.{KeeperFault}
use Rattle.keeper_book.specs.declared.faults.KeeperFault.TheVariants as fault
use Rattle.keeper_book.specs.declared.records.Record.{Record}
use Rattle.keeper_book.specs.declared.records.Taken.{Taken}
use Rattle.turn_laws.proofs.Accepted.{all-parts}
use Rattle.turn_laws.proofs.Books.{ShowsTaken, answers-entry, shows-taken}
use Rattle.turn_laws.proofs.Entries.{entry-entered, entry_after}
use Rattle.turn_laws.proofs.Runs.{enters_all-append}
use Rattle.turn_laws.specs.CaughtUp.{upto_asked, uptos_in, uptos_of}
use Rattle.turn_rules.specs.Held.{first_some, granted, is_named}
use Rattle.turn_rules.specs.Local.{Stands, calls_of}

-- what a takeover was granted is what the book had
record GrantedFrom (old : Book) (spir : ℕ) (taken : Taken) : Type 0 where
  pub entry : Entry
  pub found : entry_of spir old.entries ≡ Some entry
  pub bases : taken.bases ≡ entry.highs
  pub sa : taken.sa ≡ entry.sa

grant-answered : (old new : Book) (spir : ℕ) (taken : Taken) (asked : KeeperAsk) (answered : KeeperAnswer) → Answers old asked answered new
    → granted spir asked answered ≡ Some taken → GrantedFrom old spir taken
grant-answered old new spir taken (ask.TakeOver asked member) (answer.Taken given) answers is = by_test (asked == spir) refl is
  where
    shows : ShowsTaken given (entry_of asked old.entries) (refusal old (ask.TakeOver asked member))
    shows = shows-taken given (entry_of asked old.entries) (refusal old (ask.TakeOver asked member)) answers.0

    by_test : (b : Bool) → (asked == spir) ≡ b → (if b then Some given else None) ≡ Some taken → GrantedFrom old spir taken
    by_test true t is =
        let same : given ≡ taken = same_Some given taken is in
        record {
          entry = shows.entry;
          found = subst (λ n. entry_of n old.entries ≡ Some shows.entry) (eqb-true asked spir t) shows.found;
          bases = sym (ap (λ (x : Taken). x.bases) same) ∙ ap (λ (x : Taken). x.bases) shows.is;
          sa = sym (ap (λ (x : Taken). x.sa) same) ∙ ap (λ (x : Taken). x.sa) shows.is;
        }
    by_test false t is = absurd (cc)
grant-answered old new spir taken asked answered answers is = absurd (cc)

none-granted : (spir : ℕ) (asked : KeeperAsk) (why : KeeperFault) → None ≡ granted spir asked (answer.Refused why)
none-granted spir (ask.Enter sa) why = refl
none-granted spir (ask.TakeOver asked member) why = refl
none-granted spir (ask.Cover asked kind child epoch upto) why = refl
none-granted spir (ask.Lease pool count) why = refl
none-granted spir (ask.Settle ticket asked sa member) why = refl
none-granted spir (ask.Look ticket) why = refl

grant-called : (old new : Book) (spir : ℕ) (taken : Taken) (call : Call) → Enters old call new → granted spir call.asked (seen call) ≡ Some taken
    → GrantedFrom old spir taken
grant-called old new spir taken call enters is = by_test call.hidden refl
  where
    hidden : granted spir call.asked (answer.Refused fault.Failed) ≡ Some taken → GrantedFrom old spir taken
    hidden is = let none : None ≡ Some taken = none-granted spir call.asked fault.Failed ∙ is in absurd (cc)

    by_test : (b : Bool) → call.hidden ≡ b → GrantedFrom old spir taken
    by_test true t = hidden (sym (ap (λ b. granted spir call.asked (if b then answer.Refused fault.Failed else call.answer)) t) ∙ is)
    by_test false t = grant-answered old new spir taken call.asked call.answer enters
        (sym (ap (λ b. granted spir call.asked (if b then answer.Refused fault.Failed else call.answer)) t) ∙ is)

module _ (spir bound : ℕ) where
  -- the high lies within a bound that the start is within
  abbrev IsWithin : Entry → Type 0
  IsWithin e = e.sa.starts.esp_in ≤ bound → e.highs.esp_in ≤ bound

  abbrev AllWithin : Option Entry → Type 0
  AllWithin x = (e : Entry) → x ≡ Some e → IsWithin e

  abbrev pub HighWithin : Book → Type 0
  HighWithin book = AllWithin (entry_of spir book.entries)

  -- what a call asks to cover is within it
  abbrev AsksWithin : KeeperAsk → Type 0
  AsksWithin asked = (upto : ℕ) → upto_asked spir counter.EspIn asked ≡ Some upto → upto ≤ bound

  added-within : (sa : Record) (x : Option Entry) (added : Entry) (b : Bool) → IsWithin added → AllWithin x
      → AllWithin (first_some x (if b then Some added else None))
  added-within sa (Some old) added b new before e is = before e is
  added-within sa None added true new before e is = subst IsWithin (same_Some added e is) new
  added-within sa None added false new before e is = absurd (cc)

  edited-within : (edit : Entry → Entry) → ((o : Entry) → IsWithin o → IsWithin (edit o)) → (x : Option Entry) (b : Bool) → AllWithin x
      → AllWithin (if b then option_map edit x else x)
  edited-within edit keeps x false before e is = before e is
  edited-within edit keeps None true before e is = absurd (cc)
  edited-within edit keeps (Some o) true before e is = subst IsWithin (same_Some (edit o) e is) (keeps o (before o refl))

  raised-within : (named : Option Counter) (upto : ℕ) → ((u : ℕ) → (if is_named counter.EspIn named then Some upto else None) ≡ Some u → u ≤ bound)
      → (o : Entry) → IsWithin o → IsWithin (raised_at named upto o)
  raised-within None upto within o before low = before low
  raised-within (Some counter.EspIn) upto within o before low =
      let high : o.highs.esp_in ≤ bound = before low in
      let asked : upto ≤ bound = within upto refl in
      omega (arith, high, asked)
  raised-within (Some counter.EspOut) upto within o before low = before low
  raised-within (Some counter.Iv) upto within o before low = before low
  raised-within (Some counter.Ask) upto within o before low = before low
  raised-within (Some counter.Answer) upto within o before low = before low

  covered-within : (asked upto : ℕ) (named : Option Counter)
      → ((u : ℕ) → (if (asked == spir) && is_named counter.EspIn named then Some upto else None) ≡ Some u → u ≤ bound) → (x : Option Entry) → AllWithin x
      → AllWithin (if asked == spir then option_map (raised_at named upto) x else x)
  covered-within asked upto named within x before = go (asked == spir) within
    where
      go : (b : Bool) → ((u : ℕ) → (if b && is_named counter.EspIn named then Some upto else None) ≡ Some u → u ≤ bound)
          → AllWithin (if b then option_map (raised_at named upto) x else x)
      go false within = before
      go true within = edited-within (raised_at named upto) (raised-within named upto within) x true before

  entry-within : (asked : KeeperAsk) → AsksWithin asked → (x : Option Entry) → AllWithin x → AllWithin (entry_after spir asked x)
  entry-within (ask.Enter sa) within x before = added-within sa x (fresh sa) (sa.spir == spir) (λ low. low) before
  entry-within (ask.TakeOver asked member) within x before = edited-within (taken_over member) (λ o old. old) x (asked == spir) before
  entry-within (ask.Cover asked kind child epoch upto) within x before = covered-within asked upto (counter_named kind child) within x before
  entry-within (ask.Lease pool count) within x before = before
  entry-within (ask.Settle ticket asked sa member) within x before =
      added-within sa (if asked == spir then option_map closed x else x) (settled sa member) (sa.spir == spir) (λ low. low)
      (edited-within closed (λ o old. old) x (asked == spir) before)
  entry-within (ask.Look ticket) within x before = before

  call-within : (old new : Book) (call : Call) → Enters old call new → AsksWithin call.asked → HighWithin old → HighWithin new
  call-within old new call enters within before = ⊎_elim
      (λ same. subst HighWithin (sym same) before)
      (λ has. subst HighWithin (sym has.is) (subst AllWithin (sym (entry-entered spir old call.asked))
      (entry-within call.asked within (entry_of spir old.entries) before)))
      (answers-entry old new call.asked call.answer enters)

  -- and so is where an epoch begins that is granted
  abbrev pub GrantsWithin : Call → Type 0
  GrantsWithin call = (taken : Taken) → granted spir call.asked (seen call) ≡ Some taken → taken.sa.starts.esp_in ≤ bound → taken.bases.esp_in ≤ bound

  grants-within : (old new : Book) (call : Call) → Enters old call new → HighWithin old → GrantsWithin call
  grants-within old new call enters before taken is low =
      let from : GrantedFrom old spir taken = grant-called old new spir taken call enters is in
      let start : taken.sa.starts.esp_in ≡ from.entry.sa.starts.esp_in = ap (λ (r : Record). r.starts.esp_in) from.sa in
      let base : taken.bases.esp_in ≡ from.entry.highs.esp_in = ap (λ (five : _). five.esp_in) from.bases in
      let high : from.entry.highs.esp_in ≤ bound = before from.entry from.found (omega (arith, start, low)) in
      omega (arith, base, high)

  calls-within : (calls : List Call) (old new : Book) → EntersAll old calls new → AllByRecursion (λ u. u ≤ bound) (uptos_of spir calls) → HighWithin old
      → AllByRecursion GrantsWithin calls × HighWithin new
  calls-within [] old new enters uptos before = (tt, subst HighWithin (sym enters) before)
  calls-within (call ∷ calls) old new enters uptos before =
      let parts : AsksWithin call.asked × AllByRecursion (λ u. u ≤ bound) (uptos_of spir calls) = split (upto_asked spir counter.EspIn call.asked) refl uptos in
      let rest : AllByRecursion GrantsWithin calls × HighWithin new =
      calls-within calls enters.0 new enters.2 parts.1 (call-within old enters.0 call enters.1 parts.0 before) in
      ((grants-within old enters.0 call enters.1 before, rest.0), rest.1)
    where
      split : (x : Option ℕ) → upto_asked spir counter.EspIn call.asked ≡ x → AllByRecursion (λ u. u ≤ bound) (cons_option x (uptos_of spir calls))
          → AsksWithin call.asked × AllByRecursion (λ u. u ≤ bound) (uptos_of spir calls)
      split None e all = ((λ upto is. let none : None ≡ Some upto = sym e ∙ is in absurd (cc)), all)
      split (Some n) e all = ((λ upto is. subst (λ k. k ≤ bound) (same_Some n upto (sym e ∙ is)) all.0), all.1)

  -- of all calls of a run
  pub run-within : (past : List Turn) (book : Book) → Stands past book → AllByRecursion (λ u. u ≤ bound) (uptos_in spir past)
      → AllByRecursion (λ turn. AllByRecursion GrantsWithin turn.calls) past × HighWithin book
  run-within [] book stands uptos = (tt, subst HighWithin (sym stands) (λ e is. absurd (cc)))
  run-within (turn ∷ past) book stands uptos =
      let parts : (mid : Book) × EntersAll empty (calls_of past) mid × EntersAll mid turn.calls book =
      enters_all-append (calls_of past) turn.calls empty book stands in
      let bounds : AllByRecursion (λ u. u ≤ bound) (uptos_of spir turn.calls) × AllByRecursion (λ u. u ≤ bound) (uptos_in spir past) =
      all-parts (λ u. u ≤ bound) (uptos_of spir turn.calls) (uptos_in spir past) uptos in
      let before : AllByRecursion (λ turn. AllByRecursion GrantsWithin turn.calls) past × HighWithin parts.0 = run-within past parts.0 parts.1 bounds.1 in
      let now : AllByRecursion GrantsWithin turn.calls × HighWithin book = calls-within turn.calls parts.0 book parts.2 bounds.0 before.1 in
      ((now.0, before.0), now.1)
