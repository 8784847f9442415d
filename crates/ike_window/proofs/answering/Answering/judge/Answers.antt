use Rattle.std.proofs.Common.{◌∙◌, sym, arith, ⊎_elim}
use Rattle.ike_window.proofs.Keeping.{among_repeat, repeat_of}
use Rattle.ike_window.proofs.Orders.{true_not_false}
use Rattle.ike_window.proofs.answering.Answering.judge.Goals as goal

pub returns-then-has : goal.returns-then-has
returns-then-has c = rw (← c.self.view_is)
    (repeat_of c.self.inside.floor c.self.inside.low c.self.inside.ring c.args.id c.self.invariant (sym c.has.ensures ∙ c.if-has.true))

pub returns-then-id-self : goal.returns-then-id-self
returns-then-id-self c =
    rw (← c.self.view_is) (
      (λ new. let from = new.from in omega (arith, c.if-id-self.true)),
      (λ repeat. true_not_false (sym (among_repeat c.self.inside.floor c.self.inside.low c.self.inside.ring c.args.id c.self.invariant repeat)
          ∙ sym c.has.ensures ∙ c.if-has.false)),
      (λ ahead. ⊎_elim (λ far. omega (arith, c.if-id-self.true)) (λ last. omega (arith, c.if-id-self.true, c.ranges.id.fits)) ahead),
    )
