use Rattle.std.proofs.Common.{sym, subst}
use Rattle.keeper_book.specs.Book.{Answers}
use Rattle.turn_laws.proofs.Safety.{owned-move}
use Rattle.turn_laws.specs.Acts.{Calls}
use Rattle.turn_laws.proofs.laws.calls_keep_owned.Goals as goal

pub returns-clause-answered : goal.returns-clause-answered
returns-clause-answered c acts w call old new owned may not_failed enters = owned-move acts old new w owned (Calls call) may enters

pub returns-clause-failed : goal.returns-clause-failed
returns-clause-failed c acts w call old new owned may failed either =
    owned-move acts old new w owned (Calls call) may (subst (λ answered. Answers old call.asked answered new) (sym failed) either)
