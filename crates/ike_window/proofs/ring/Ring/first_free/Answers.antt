use Rattle.std.proofs.Common.{◌∙◌, sym, arith}
use Rattle.ike_window.specs.Kept.{message_ids_of}
use Rattle.ike_window.proofs.Lows.{among_from, from_among}
use Rattle.ike_window.proofs.Orders.{true_not_false}
use Rattle.ike_window.proofs.Rising.{below_contains}
use Rattle.ike_window.proofs.ring.Ring.first_free.Goals as goal

pub returns-then-not-has : goal.returns-then-not-has
returns-then-not-has g c = record {
  from = c.loop-id.auto.id;
  taken = λ m from below. from_among (message_ids_of c.args.self.now.kept) m (c.loop-id.invariant m from below);
  free = λ among. true_not_false (sym (among_from (message_ids_of c.args.self.now.kept) c.loop-id.id among) ∙ sym c.has.ensures ∙ c.if-not-has.true);
}

pub returns : goal.returns
returns g c = record {
  from = let fits = c.ranges.from.fits in omega arith;
  taken = λ m from below. from_among (message_ids_of c.args.self.now.kept) m (c.loop-id.invariant m from (omega arith));
  free = λ among. let low = below_contains _ c.args.self.now.kept _ c.requires (among_from (message_ids_of c.args.self.now.kept) _ among) in omega arith;
}
