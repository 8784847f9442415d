-- A takeover by the book.
use Rattle.std.proofs.Common.{ap, subst, refl, sym, ◌∙◌}
use Rattle.keeper_book.specs.declared.calls.KeeperAsk.TheVariants as ask
use Rattle.keeper_book.specs.Book.{Book, entry_of, take_over_refusal}
use Rattle.keeper_book.specs.Entries.{IsPlaceOf}
use Rattle.keeper_book.proofs.BookAnswers.{memory_call, took_over, took_over_promised, took_over_soundly, unknown}
use Rattle.keeper_book.proofs.memory_keepers.MemoryKeeperKeeper.take_over.Goals as goal

pub returns-in-Some-clause-call : goal.returns-in-Some-clause-call
returns-in-Some-clause-call c =
    let place : IsPlaceOf c.args.spir c.in-Some.place c.self.inside.associations.items = subst (λ xs. IsPlaceOf c.args.spir c.in-Some.place xs) c.deref.ensures.value c.in-Some.ensures in
    memory_call _ _ (ask.TakeOver c.args.spir c.args.member) _
    (took_over c.self.inside.next c.self.inside.spent.items c.self.inside.associations.items _ _ c.args.spir c.args.member c.in-Some.place _ c.take_over.new.self c.take_over.result c.self.view_is refl place c.index_mut-association.ensures.value c.take_over.ensures.ok c.take_over.ensures.err)
    (took_over_soundly c.index_mut-association.result.now c.take_over.result _ c.take_over.ensures.err)
    (took_over_promised c.args.spir c.args.member c.index_mut-association.result.now.sa.spir c.take_over.result (place.here _ c.index_mut-association.ensures.value) c.take_over.ensures.refusals c.take_over.ensures.record c.take_over.ensures.bases_within)

pub returns-in-None-clause-call : goal.returns-in-None-clause-call
returns-in-None-clause-call c =
    let none = ap (entry_of c.args.spir) (ap (λ (book : Book). book.entries) (sym c.self.view_is) ∙ sym c.deref.ensures.value) ∙ c.in-None.ensures in
    memory_call _ _ (ask.TakeOver c.args.spir c.args.member) _ (unknown c.args.self.now (ask.TakeOver c.args.spir c.args.member) (ap take_over_refusal none)) (λ failed. failed) tt
