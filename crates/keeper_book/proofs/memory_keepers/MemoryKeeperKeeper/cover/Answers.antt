-- A cover by the book.
use Rattle.std.proofs.Common.{ap, subst, refl, sym, ◌∙◌}
use Rattle.keeper_book.specs.declared.calls.KeeperAsk.TheVariants as ask
use Rattle.keeper_book.specs.Book.{Book, cover_refusal, entry_of}
use Rattle.keeper_book.specs.Counters.{counter_named}
use Rattle.keeper_book.specs.Entries.{IsPlaceOf}
use Rattle.keeper_book.proofs.BookAnswers.{covered, covered_promised, covered_soundly, memory_call, unknown}
use Rattle.keeper_book.proofs.memory_keepers.MemoryKeeperKeeper.cover.Goals as goal

pub returns-in-Some-clause-call : goal.returns-in-Some-clause-call
returns-in-Some-clause-call c =
    let place : IsPlaceOf c.args.spir c.in-Some.place c.self.inside.associations.items = subst (λ xs. IsPlaceOf c.args.spir c.in-Some.place xs) c.deref.ensures.value c.in-Some.ensures in
    memory_call _ _ (ask.Cover c.args.spir c.args.kind c.args.child c.args.epoch c.args.upto) _
    (covered c.self.inside.next c.self.inside.spent.items c.self.inside.associations.items _ _ c.args.spir c.args.kind c.args.child c.args.epoch c.args.upto c.in-Some.place _ c.cover.new.self c.cover.result c.self.view_is refl place c.index_mut-association.ensures.value c.cover.ensures.ok c.cover.ensures.err)
    (covered_soundly c.index_mut-association.result.now (counter_named c.args.kind c.args.child) c.args.epoch c.cover.result _ c.cover.ensures.err)
    (covered_promised c.args.spir c.args.kind c.args.child c.args.epoch c.args.upto c.index_mut-association.result.now.sa.spir c.cover.result (place.here _ c.index_mut-association.ensures.value) c.cover.ensures.refusals)

pub returns-in-None-clause-call : goal.returns-in-None-clause-call
returns-in-None-clause-call c =
    let none = ap (entry_of c.args.spir) (ap (λ (book : Book). book.entries) (sym c.self.view_is) ∙ sym c.deref.ensures.value) ∙ c.in-None.ensures in
    memory_call _ _ (ask.Cover c.args.spir c.args.kind c.args.child c.args.epoch c.args.upto) _
    (unknown c.args.self.now (ask.Cover c.args.spir c.args.kind c.args.child c.args.epoch c.args.upto) (ap (λ e. cover_refusal e (counter_named c.args.kind c.args.child) c.args.epoch) none)) (λ failed. failed) tt
