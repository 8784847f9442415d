use Rattle.ike_window.proofs.Rising.{increasing}
use Rattle.ike_window.proofs.ring.Ring+ASKED.ids.Goals as goal

pub ids_from-requires : goal.ids_from-requires
ids_from-requires c = record {
  fits = rw c.first.ensures.value c.requires;
  rising = rw c.first.ensures.value c.first.ensures.rising;
  within = rw c.first.ensures.value c.first.ensures.within;
}

pub returns-clause-ascending : goal.returns-clause-ascending
returns-clause-ascending c = rw c.ids_from.ensures (increasing c.args.self.now.first c.args.self.now.kept c.first.ensures.rising)
