-- One call more.
use Rattle.std.proofs.Common.{◌≡◌, ℕ, ◌+◌, ◌++◌, ◌∷◌, [], Some, List, ap, append_assoc, arith, sym, take, ◌∙◌}
use Rattle.std.specs.Prelude.{slice_get}
use Rattle.std.proofs.lemmas.List.{take_more}
use Rattle.std.proofs.lemmas.Option.{get_or_from_slice_get, slice_get_within}
use Rattle.keeper_book.specs.declared.calls.Call.{Call}
use Rattle.turn_trace.proofs.kept_turn.copy_calls.Goals as goal

one_more : (calls : List Call) (at : ℕ) (call : Call) → slice_get calls at ≡ Some call → take at calls ++ call ∷ [] ≡ take (at + 1) calls
one_more calls at call found = sym (take_more calls at call (slice_get_within calls at call found) ∙ ap (λ c. take at calls ++ c ∷ []) (get_or_from_slice_get calls at call call found))

pub loop-at-preserved : goal.loop-at-preserved
loop-at-preserved c = record {
  copied =
      c.push_reserved.ensures.items
      ∙ ap (λ (kept : List Call). kept ++ c.copied.result ∷ []) c.loop-at.invariant.copied
      ∙ append_assoc c.args.kept.now.items (take c.loop-at.at c.args.calls.now) (c.copied.result ∷ [])
      ∙ ap (λ (calls : List Call). c.args.kept.now.items ++ calls) (ap (λ call. take c.loop-at.at c.args.calls.now ++ call ∷ []) c.copied.ensures ∙ one_more c.args.calls.now c.loop-at.at c.in-Some.call.now (sym c.in-Some.ensures));
  room = omega arith;
}
