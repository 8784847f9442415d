use Rattle.std.proofs.Common.{◌-◌, ◌+◌, length, ap, arith}
use Rattle.ike_sas.proofs.Drafts.{draft_after}
use Rattle.ike_sas.proofs.draft.Draft.put_notify.Goals as goal

pub invariant_of-self : goal.invariant_of-self
invariant_of-self c =
    draft_after c.self.inside.frame c.put_notify.new.self c.self.inside.left (c.self.inside.left - (8 + length c.args.octets.now))
    c.args.kind c.args.octets.now c.self.inside.plain c.self.inside.sealed c.self.inside.given c.self.inside.kept
    c.self.invariant c.put_notify.ensures.payloads c.put_notify.ensures.room
    (omega (arith, c.requires.fits, ap (λ f. f.room) c.self.view_is))
