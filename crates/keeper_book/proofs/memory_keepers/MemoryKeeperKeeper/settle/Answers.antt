-- A ticket is spent by the book.
use Rattle.std.proofs.Common.{sym, ◌∙◌}
use Rattle.keeper_book.specs.declared.calls.KeeperAsk.TheVariants as ask
use Rattle.keeper_book.proofs.BookAnswers.{memory_call}
use Rattle.keeper_book.proofs.PoolAnswers.{settle_done, settle_memory, settle_promised, settle_refused, settle_soundly}
use Rattle.keeper_book.proofs.memory_keepers.MemoryKeeperKeeper.settle.Goals as goal

pub returns-in-Some-clause-call : goal.returns-in-Some-clause-call
returns-in-Some-clause-call c =
    let refused = sym c.settle_refusal.ensures ∙ c.in-Some.is in
    memory_call _ _ (ask.Settle c.args.ticket c.args.old_spir c.args.sa.now c.args.member) _
    (settle_refused c.args.ticket c.args.old_spir c.args.sa.now c.args.member c.args.self.now c.in-Some.why refused)
    (settle_soundly c.args.ticket c.args.old_spir c.args.sa.now c.args.member c.args.self.now c.in-Some.why refused)
    (settle_promised c.args.ticket c.args.old_spir c.args.sa.now c.args.member c.args.self.now c.in-Some.why refused)

pub returns-in-Ok-clause-call : goal.returns-in-Ok-clause-call
returns-in-Ok-clause-call c =
    memory_call _ _ (ask.Settle c.args.ticket c.args.old_spir c.args.sa.now c.args.member) _
    (settle_done c.args.ticket c.args.old_spir c.args.sa.now c.args.member c.args.self.now c.spend.new.self (sym c.settle_refusal.ensures ∙ c.in-None.is) c.in-Ok.ensures.ok) (λ failed. failed) tt

pub returns-in-Err-clause-call : goal.returns-in-Err-clause-call
returns-in-Err-clause-call c =
    memory_call _ _ (ask.Settle c.args.ticket c.args.old_spir c.args.sa.now c.args.member) _
    (settle_memory c.args.ticket c.args.old_spir c.args.sa.now c.args.member c.args.self.now c.spend.new.self (sym c.settle_refusal.ensures ∙ c.in-None.is) c.in-Err.ensures.err) (λ failed. failed) tt
