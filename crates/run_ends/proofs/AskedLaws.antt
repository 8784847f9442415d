-- What was asked of a gate was asked of the keeper behind it.
use Rattle.std.proofs.Common.{◌≡◌, ℕ, false, List, [], ◌∷◌, Option, refl, sym, subst}
use Rattle.keeper_book.specs.declared.calls.Call.{Call}
use Rattle.keeper_book.specs.Book.{Book}
use Rattle.keeper_book.specs.Gates.{Gated, PassedOn}
use Rattle.keeper_book.specs.Spoken.{EachGives, Spoken}
use Rattle.keeper_book.specs.Told.{IsCallOf, seen}
use Rattle.keeper_book.proofs.Asking.{asks_none, asks_then}
use Rattle.run_ends.specs.Asked.{AreSeenAs}

-- the caller saw the answer of a call that was not hidden
seen-plain : (call : Call) → call.hidden ≡ false → seen call ≡ call.answer
seen-plain call plain = rw plain refl

pub asked-behind : {K : Type 0} {book : K → Option Book} {told : K → Option (List Call)} {faults : K → ℕ} {gives : K → Call → K → Type 0} (old : Gated K) (asked : List Call) (new : Gated K) → EachGives (PassedOn book told faults gives) old asked new → (made : List Call) × AreSeenAs asked made × Spoken book told faults gives old.keeper made new.keeper
asked-behind {K} {book} {told} {faults} {gives} old [] new same =
    ([], tt, subst (λ (k : Gated K). Spoken book told faults gives old.keeper [] k.keeper) (sym same) (asks_none old.keeper))
asked-behind {K} {book} {told} {faults} {gives} old (call ∷ asked) new each =
    let mid = each.0 in
    let passed = each.1 in
    let rest = asked-behind {book = book} {told = told} {faults = faults} {gives = gives} mid asked new each.2 in
    let is : IsCallOf call.asked (seen call) passed.below.0 = subst (λ a. IsCallOf call.asked a passed.below.0) (sym (seen-plain call passed.open_answer)) passed.below.1 in
    (passed.below.0 ∷ rest.0, (is, rest.1), asks_then passed.below.2 rest.2)
