-- What was asked of a keeper over the turns of a run.
use Rattle.std.proofs.Common.{◌≡◌, ℕ, List, [], ◌∷◌, ◌++◌, Option, ap, sym, subst}
use Rattle.std.specs.Borrow.{MutBor}
use Rattle.events.specs.declared.turn.Turn.{Turn}
use Rattle.keeper_book.specs.Book.{Book}
use Rattle.keeper_book.specs.Spoken.{EachGives, Spoken}
use Rattle.keeper_book.specs.declared.calls.Call.{Call}
use Rattle.keeper_book.specs.declared.keepers.Keeper.{Ghosts}
use Rattle.keeper_book.proofs.Asking.{asks_none, asks_then}
use Rattle.run_ends.specs.Asked.{AreSeenAs, AsksAsSeen, newest_calls}
use Rattle.turn_rules.specs.Local.{calls_of}

pub asks-nothing : {K : Type 0} (keeper : Ghosts K) (old : K) → AsksAsSeen keeper old [] old
asks-nothing keeper old = record { made = []; seen_as = tt; asked = asks_none old }

seen-then : (xs ys made more : List Call) → AreSeenAs xs made → AreSeenAs ys more → AreSeenAs (xs ++ ys) (made ++ more)
seen-then [] ys [] more a b = b
seen-then [] ys (call ∷ made) more a b = absurd a
seen-then (x ∷ xs) ys [] more a b = absurd a
seen-then (x ∷ xs) ys (call ∷ made) more a b = (a.0, seen-then xs ys made more a.1 b)

asks-then : {K : Type 0} (keeper : Ghosts K) (old mid new : K) (xs ys : List Call) → AsksAsSeen keeper old xs mid → AsksAsSeen keeper mid ys new → AsksAsSeen keeper old (xs ++ ys) new
asks-then keeper old mid new xs ys a b = record {
  made = a.made ++ b.made;
  seen_as = seen-then xs ys a.made b.made a.seen_as b.seen_as;
  asked = asks_then a.asked b.asked;
}

-- one more turn
pub asks-more : {K : Type 0} (keeper : Ghosts K) (start mid now : K) (past new : List Turn) (turn : Turn) → new ≡ turn ∷ past → AsksAsSeen keeper start (calls_of past) mid → AsksAsSeen keeper mid (newest_calls new) now → AsksAsSeen keeper start (calls_of new) now
asks-more keeper start mid now past new turn more before newest =
    let calls = subst (λ turns. AsksAsSeen keeper mid (newest_calls turns) now) more newest in
    subst (λ turns. AsksAsSeen keeper start (calls_of turns) now) (sym more) (asks-then keeper start mid now (calls_of past) turn.calls before calls)

gives-lent : {K : Type 0} (gives : K → Call → K → Type 0) (old : MutBor K) (calls : List Call) (new : MutBor K) → EachGives (λ r call s. gives r.now call s.now) old calls new → EachGives gives old.now calls new.now
gives-lent gives old [] new same = ap (λ r. r.now) same
gives-lent gives old (call ∷ calls) new each = (each.0.now, each.1, gives-lent gives each.0 calls new each.2)

-- what was asked through a reference was asked of the keeper that is lent
pub asks-lent : {K : Type 0} {book : K → Option Book} {told : K → Option (List Call)} {faults : K → ℕ} {gives : K → Call → K → Type 0} (old : MutBor K) (calls : List Call) (new : MutBor K) → Spoken (λ r. book r.now) (λ r. told r.now) (λ r. faults r.now) (λ r call s. gives r.now call s.now) old calls new → Spoken book told faults gives old.now calls new.now
asks-lent {gives = gives} old calls new s = record {
  enters = s.enters;
  adds = s.adds;
  cause = s.cause;
  answers = s.answers;
  each = gives-lent gives old calls new s.each;
}

pub seen-lent : {K : Type 0} (keeper : Ghosts K) (old new : MutBor K) (calls made : List Call) → AreSeenAs calls made → Spoken (λ r. keeper.book r.now) (λ r. keeper.calls r.now) (λ r. keeper.faults r.now) (λ r call s. keeper.call_gives r.now call s.now) old made new → AsksAsSeen keeper old.now calls new.now
seen-lent keeper old new calls made seen asked = record {
  made = made;
  seen_as = seen;
  asked = asks-lent old made new asked;
}
