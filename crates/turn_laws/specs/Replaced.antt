-- What the answer `Replaced` says.
use Rattle.std.specs.Prelude.{◌<◌, List}
use Rattle.std.specs.List.{AllByRecursion}
use Rattle.events.specs.declared.turn.Turn.{Turn}
use Rattle.keeper_book.specs.declared.calls.KeeperAnswer.{KeeperAnswer}
use Rattle.keeper_book.specs.declared.calls.KeeperAnswer.TheVariants as answer
use Rattle.keeper_book.specs.declared.calls.KeeperAsk.{KeeperAsk}
use Rattle.keeper_book.specs.declared.calls.KeeperAsk.TheVariants as ask
use Rattle.keeper_book.specs.declared.faults.KeeperFault.TheVariants as fault

-- a cover that is answered so is one of an earlier epoch
abbrev pub IsReplacedLater : KeeperAsk → KeeperAnswer → Type 0
IsReplacedLater (ask.Cover spir kind child epoch upto) (answer.Refused (fault.Replaced later)) =
    epoch < later
IsReplacedLater asked answered = Unit {0}

-- so it is in each call of these turns
abbrev pub AreReplacedLater : List Turn → Type 0
AreReplacedLater past = AllByRecursion (λ turn. AllByRecursion
    (λ call. IsReplacedLater call.asked call.answer) turn.calls) past
