use Rattle.std.proofs.Common.{◌∙◌, sym, not, ◌==◌}
use Rattle.ike_window.specs.Kept.{message_ids_of}
use Rattle.ike_window.proofs.Lows.{among_from, from_among}
use Rattle.ike_window.proofs.Rising.{rise_filtered}
use Rattle.ike_window.proofs.asking.Asking.answered.Goals as goal

pub invariant_of-self : goal.invariant_of-self
invariant_of-self c =
    rw c.remove.ensures (record {
      rising = rise_filtered (λ message. not (message.id == c.args.id)) 0 c.self.inside.ring.kept c.self.invariant.rising;
      within = c.self.invariant.within;
    })

pub returns-clause-found : goal.returns-clause-found
returns-clause-found c =
    rw (← c.self.view_is) (
      (λ found. from_among (message_ids_of c.self.inside.ring.kept) c.args.id (sym c.has-found.ensures ∙ found)),
      λ among. c.has-found.ensures
          ∙ among_from (message_ids_of c.self.inside.ring.kept) c.args.id among,
    )
