-- Each end answers by its own turns and by what it was handed.
use Rattle.std.specs.Prelude.{ℕ, ◌≡◌, false, List, [], ◌∷◌, ◌++◌}
use Rattle.std.specs.List.{AllByRecursion}
use Rattle.events.specs.declared.turn.Turn.{Turn}
use Rattle.keeper_book.specs.Book.{Book, StandsFor}
use Rattle.keeper_book.specs.Told.{AreAnswers}
use Rattle.keeper_book.specs.declared.calls.Call.{Call}
use Rattle.turn_rules.specs.Fits.{FitsTurns}

-- no answer was hidden from the end that asked
abbrev pub AreShown : List Call → Type 0
AreShown calls = AllByRecursion (λ call. call.hidden ≡ false) calls

-- a turn follows its rule: it is what the turns before it make of its event and the answers to its
-- calls, and each answer is one that its call has, whatever the keeper's book is
pub record IsByRule (boxes : ℕ) (past : List Turn) (turn : Turn) : Type 0 where
  pub fits : FitsTurns boxes past turn
  pub answers : AreAnswers turn.calls

-- each turn does, whether or not answers were hidden; the newest turn comes first
abbrev pub Explained : ℕ → List Turn → Type 0
Explained boxes [] = Unit {0}
Explained boxes (turn ∷ past) = IsByRule boxes past turn × Explained boxes past

-- a turn is explained by the turns before it
pub record IsExplained (boxes : ℕ) (past : List Turn) (turn : Turn) : Type 0 where
  pub fits : FitsTurns boxes past turn
  pub shown : AreShown turn.calls
  -- each answer is one that its call has, whatever the keeper's book is
  pub answers : AreAnswers turn.calls

-- each turn is explained by those before it; the newest turn comes first
abbrev pub Local : ℕ → List Turn → Type 0
Local boxes [] = Unit {0}
Local boxes (turn ∷ past) = IsExplained boxes past turn × Local boxes past

-- all calls of a trace, in the order in which they were made
abbrev pub calls_of : List Turn → List Call
calls_of [] = []
calls_of (turn ∷ past) = calls_of past ++ turn.calls

-- the book is the one that the calls of the trace lead to
abbrev pub Stands : List Turn → Book → Type 0
Stands past book = StandsFor (calls_of past) book
