use Rattle.std.proofs.Common.{◌∙◌, sym}
use Rattle.ike_window.proofs.Keeping.{among_repeat, repeat_of}
use Rattle.ike_window.proofs.Orders.{found_among}
use Rattle.ike_window.proofs.answering.Answering.stored.Goals as goal

pub returns-clause-repeat : goal.returns-clause-repeat
returns-clause-repeat c =
    rw (← c.self.view_is)
    (let found = found_among c.args.id c.self.inside.ring.kept c.get.result (λ octets. octets.now.octets) c.get.ensures in (
      (λ some. repeat_of c.self.inside.floor c.self.inside.low c.self.inside.ring c.args.id c.self.invariant (sym found ∙ some)),
      λ repeat. found ∙ among_repeat c.self.inside.floor c.self.inside.low c.self.inside.ring c.args.id c.self.invariant repeat,
    ))
