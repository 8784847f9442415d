-- A range of a pool by the book.
use Rattle.std.proofs.Common.{◌≡◌, ◌+◌, ◌<◌, ◌≤◌, ap, sym, subst, ◌∙◌, arith}
use Rattle.keeper_book.specs.declared.calls.KeeperAsk.TheVariants as ask
use Rattle.keeper_book.specs.declared.calls.KeeperAnswer.TheVariants as answer
use Rattle.keeper_book.specs.declared.faults.KeeperFault.TheVariants as fault
use Rattle.keeper_book.specs.Book.{Answers, Book, pool_next, with_pool_next}
use Rattle.keeper_book.specs.Pools.{IsRangeOf, pool_number, pool_end}
use Rattle.keeper_book.proofs.BookAnswers.{book_of, memory_call}
use Rattle.keeper_book.proofs.PoolAnswers.{lease_first, lease_full, number_within, range_within}
use Rattle.keeper_book.proofs.memory_keepers.MemoryKeeperKeeper.lease.Goals as goal

pub returns-then-count-end-clause-call : goal.returns-then-count-end-clause-call
returns-then-count-end-clause-call c =
    let first : c.at-first.result ≡ pool_number c.args.pool c.args.self.now.next = c.at-first.ensures ∙ ap (λ (b : Book). pool_number c.args.pool b.next) c.self.view_is in
    let end : c.end-end.result ≡ pool_end c.args.pool = c.end-end.ensures in
    let past : pool_end c.args.pool < pool_number c.args.pool c.args.self.now.next + c.args.count = omega (arith, c.if-count-end.true) in
    memory_call _ _ (ask.Lease c.args.pool c.args.count) _
    (subst (λ e. Answers c.args.self.now (ask.Lease c.args.pool c.args.count) (answer.Refused (fault.Full e)) c.args.self.now) (sym end) (lease_full c.args.self.now c.args.pool c.args.count past))
    (λ failed. failed) end

pub returns-clause-call : goal.returns-clause-call
returns-clause-call c =
    let own : c.at-first.result ≡ pool_number c.args.pool c.self.inside.next = c.at-first.ensures in
    let first : c.at-first.result ≡ pool_next c.args.pool c.args.self.now = own ∙ ap (λ (b : Book). pool_number c.args.pool b.next) c.self.view_is in
    let end : c.end-end.result ≡ pool_end c.args.pool = c.end-end.ensures in
    let lies : IsRangeOf c.args.pool 0 c.at-first.result = subst (λ n. IsRangeOf c.args.pool 0 n) (sym own) (number_within c.self.inside.next c.self.invariant c.args.pool) in
    let lies_below : c.at-first.result + 0 ≤ pool_end c.args.pool = lies.ends in
    let ends : c.at-first.result + c.args.count ≤ pool_end c.args.pool = omega (arith, c.if-count-end.false) in
    let below : pool_number c.args.pool c.args.self.now.next + c.args.count ≤ pool_end c.args.pool = omega arith in
    memory_call _ _ (ask.Lease c.args.pool c.args.count) _
    (lease_first c.args.self.now c.args.pool c.args.count c.at-first.result _ below first
    (ap (λ n. book_of n c.self.inside.spent.items c.self.inside.associations.items) c.set.ensures ∙ ap (with_pool_next c.args.pool (c.at-first.result + c.args.count)) c.self.view_is))
    (λ failed. failed) (range_within c.args.pool c.args.count c.at-first.result lies ends)
