use Rattle.std.proofs.Common.{◌≡◌, ◌∙◌, ◌++◌, ◌+◌, ℕ, sym, ap, arith, [], ◌∷◌, if◌then◌else◌, filter, nat_lt, length-append}
use Rattle.std.proofs.lemmas.List.{append-nil}
use Rattle.ike_window.specs.Kept.{message_ids_of}
use Rattle.ike_window.proofs.Rising.{all_below, below_contains, none_below, one_more_below}
use Rattle.ike_window.proofs.ring.Ring+ASKED.ids_from.Goals as goal
use Rattle.ike_window.proofs.ring.Ring+ASKED.ids_from.Goals.{then-has, else-has}

pub loop-step-init : goal.loop-step-init
loop-step-init c = record {
  ids = c.new-ids.ensures ∙ sym (none_below (c.args.first + 0) c.args.first c.args.self.now.kept c.requires.rising (omega arith));
  few = rw c.new-ids.ensures (omega arith);
}

next : (a b : ℕ) → a + b + 1 ≡ a + (b + 1)
next a b = omega arith

pub loop-step-preserved : goal.loop-step-preserved
loop-step-preserved c = elim c.if-has.branch [
  | then-has w ↦ record {
    ids =
        w.ids-is ∙ w.push.ensures ∙ ap (λ ids. ids ++ (c.args.first + c.loop-step.step) ∷ []) c.loop-step.invariant.ids
        ∙ sym (one_more_below (c.args.first + c.loop-step.step) c.args.first c.args.self.now.kept c.requires.rising
        ∙ ap (λ b. filter (λ id. nat_lt id (c.args.first + c.loop-step.step)) (message_ids_of c.args.self.now.kept) ++
        (if b then (c.args.first + c.loop-step.step) ∷ [] else [])) (sym c.has.ensures ∙ w.if-has.true))
        ∙ ap (λ k. filter (λ id. nat_lt id k) (message_ids_of c.args.self.now.kept)) (next c.args.first c.loop-step.step);
    few = let few = c.loop-step.invariant.few in rw (w.ids-is ∙ w.push.ensures) (simp length-append (omega arith));
  }
  | else-has w ↦ record {
    ids =
        w.ids-is ∙ c.loop-step.invariant.ids
        ∙ sym (one_more_below (c.args.first + c.loop-step.step) c.args.first c.args.self.now.kept c.requires.rising
        ∙ ap (λ b. filter (λ id. nat_lt id (c.args.first + c.loop-step.step)) (message_ids_of c.args.self.now.kept) ++
        (if b then (c.args.first + c.loop-step.step) ∷ [] else [])) (sym c.has.ensures ∙ w.if-has.false)
        ∙ append-nil (filter (λ id. nat_lt id (c.args.first + c.loop-step.step)) (message_ids_of c.args.self.now.kept)))
        ∙ ap (λ k. filter (λ id. nat_lt id k) (message_ids_of c.args.self.now.kept)) (next c.args.first c.loop-step.step);
    few = let few = c.loop-step.invariant.few in rw w.ids-is (omega arith);
  }
]

pub returns : goal.returns
returns c =
    c.loop-step.invariant.ids
    ∙ all_below (c.args.first + c.loop-step.step) c.args.self.now.kept
    (λ id among. let high = below_contains (c.args.first + 8) c.args.self.now.kept id c.requires.within among in omega (arith, c.loop-step-test.false))
