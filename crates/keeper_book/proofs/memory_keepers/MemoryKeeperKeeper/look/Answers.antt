-- Whether a ticket is spent, by the book.
use Rattle.std.proofs.Common.{ap, sym, subst, ◌∙◌, List, ℕ}
use Rattle.keeper_book.specs.declared.calls.KeeperAsk.TheVariants as ask
use Rattle.keeper_book.specs.declared.calls.KeeperAnswer.TheVariants as answer
use Rattle.keeper_book.specs.Book.{Answers, Book, is_spent}
use Rattle.keeper_book.proofs.BookAnswers.{memory_call}
use Rattle.keeper_book.proofs.PoolAnswers.{looked}
use Rattle.keeper_book.proofs.memory_keepers.MemoryKeeperKeeper.look.Goals as goal

pub returns-clause-call : goal.returns-clause-call
returns-clause-call c =
    let among = c.is_spent.ensures ∙ ap (is_spent c.args.ticket) (c.deref.ensures.value ∙ ap (λ (b : Book). b.spent) c.self.view_is) in
    memory_call _ _ (ask.Look c.args.ticket) _
    (subst (λ b. Answers c.args.self.now (ask.Look c.args.ticket) (answer.Look b) c.args.self.now) (sym among) (looked c.args.self.now c.args.ticket)) (λ failed. failed) tt
