-- An import by the book.
use Rattle.std.proofs.Common.{◌<◌, ◌≤◌, length, not, if◌then◌else◌, [], ◌∷◌, ◌++◌, ap, refl, subst, sym, ◌∙◌, arith}
use Rattle.std.specs.List.{list_any}
use Rattle.keeper_book.specs.declared.calls.KeeperAsk.TheVariants as ask
use Rattle.keeper_book.specs.declared.calls.KeeperAnswer.TheVariants as answer
use Rattle.keeper_book.specs.declared.faults.KeeperFault.TheVariants as fault
use Rattle.keeper_book.specs.Book.{Answers, Entry, shares_spi}
use Rattle.keeper_book.proofs.BookAnswers.{book_of, enter_done, enter_full, enter_memory, enter_shared, memory_call}
use Rattle.keeper_book.proofs.memory_keepers.MemoryKeeperKeeper.enter.Goals as goal

pub returns-then-any_shares_spi-clause-call : goal.returns-then-any_shares_spi-clause-call
returns-then-any_shares_spi-clause-call c =
    let shared = ap (list_any (shares_spi c.args.sa.now)) (sym c.deref.ensures.value) ∙ (sym c.any_shares_spi.ensures ∙ c.if-any_shares_spi.true) in
    memory_call _ _ (ask.Enter c.args.sa.now) _ (enter_shared c.self.inside.next c.self.inside.spent.items c.args.sa.now c.self.inside.associations.items c.args.self.now c.self.view_is shared) (λ failed. failed) tt

pub returns-then-len-ge-MAX_ASSOCIATIONS-clause-call :
    goal.returns-then-len-ge-MAX_ASSOCIATIONS-clause-call
returns-then-len-ge-MAX_ASSOCIATIONS-clause-call c =
    let other = ap (list_any (shares_spi c.args.sa.now)) (sym c.deref.ensures.value) ∙ (sym c.any_shares_spi.ensures ∙ c.if-any_shares_spi.false) in
    let many : 1024 ≤ length c.self.inside.associations.items = omega (arith, ap (length {A = Entry}) c.deref.ensures.value) in
    memory_call _ _ (ask.Enter c.args.sa.now) _ (enter_full c.self.inside.next c.self.inside.spent.items c.args.sa.now c.self.inside.associations.items c.args.self.now c.self.view_is other many) (λ failed. failed) refl

pub returns-then-is_err-clause-call : goal.returns-then-is_err-clause-call
returns-then-is_err-clause-call c =
    let es = c.self.inside.associations.items in
    let other = ap (list_any (shares_spi c.args.sa.now)) (sym c.deref.ensures.value) ∙ (sym c.any_shares_spi.ensures ∙ c.if-any_shares_spi.false) in
    let few : length es < 1024 = omega (arith, ap (length {A = Entry}) c.deref.ensures.value) in
    let kept = c.push.ensures.items ∙ ap (λ b. if b then es ++ c.fresh-association.result ∷ [] else es) (c.is_err.ensures.negation ∙ ap not c.if-is_err.true) in
    memory_call _ _ (ask.Enter c.args.sa.now) _ (subst (λ new. Answers c.args.self.now (ask.Enter c.args.sa.now) (answer.Refused fault.Memory) new) (sym (ap (book_of c.self.inside.next c.self.inside.spent.items) kept ∙ c.self.view_is)) (enter_memory c.self.inside.next c.self.inside.spent.items c.args.sa.now es c.args.self.now c.self.view_is other few)) (λ failed. failed) tt

pub returns-clause-call : goal.returns-clause-call
returns-clause-call c =
    let es = c.self.inside.associations.items in
    let other = ap (list_any (shares_spi c.args.sa.now)) (sym c.deref.ensures.value) ∙ (sym c.any_shares_spi.ensures ∙ c.if-any_shares_spi.false) in
    let few : length es < 1024 = omega (arith, ap (length {A = Entry}) c.deref.ensures.value) in
    let added = c.push.ensures.items ∙ (ap (λ b. if b then es ++ c.fresh-association.result ∷ [] else es) (c.is_err.ensures.negation ∙ ap not c.if-is_err.false) ∙ ap (λ e. es ++ e ∷ []) c.fresh-association.ensures) in
    memory_call _ _ (ask.Enter c.args.sa.now) _ (enter_done c.self.inside.next c.self.inside.spent.items c.args.sa.now es c.args.self.now _ c.self.view_is other few (ap (book_of c.self.inside.next c.self.inside.spent.items) (sym added))) (λ failed. failed) tt
