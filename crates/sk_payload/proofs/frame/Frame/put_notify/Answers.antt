use Rattle.std.proofs.Common.{◌≡◌, ◌+◌, ◌-◌, ◌≤◌, ◌∷◌, [], ◌++◌, length, set, ap, ◌∙◌, append_assoc, true, arith}
use Rattle.ike_values.specs.Notifications.{notify_of}
use Rattle.ike_values.specs.Spelling.{two}
use Rattle.ike_values.specs.Writing.{body_written}
use Rattle.ike_values.specs.Validity.{AreValid}
use Rattle.sk_payload.proofs.Frames.{behind, frame_after, payloads_after, notify_valid, put_together}
use Rattle.sk_payload.specs.declared.frame.Frame.TheInside.{Inside}
use Rattle.sk_payload.proofs.frame.Frame.put_notify.Goals as goal

module _ (c : goal.After-unwrap-3) where
  written : c.extend-2.new.self.octets ≡ c.begin_payload.new.message.octets ++ body_written (notify_of c.args.ntype c.args.octets.now)
  written =
      (rw c.unwrap-2.ensures at c.extend-2.ensures.ok)
      ∙ ap (λ ys. ys ++ c.args.octets.now) (rw c.unwrap.ensures at c.extend.ensures.ok)
      ∙ append_assoc c.begin_payload.new.message.octets (0 ∷ 0 ∷ two c.args.ntype) c.args.octets.now

  is : c.push.new.self.octets ≡ set c.self.inside.message.octets c.self.inside.link 41 ++ behind (notify_of c.args.ntype c.args.octets.now)
  is =
      put_together (set c.self.inside.message.octets c.self.inside.link 41) (notify_of c.args.ntype c.args.octets.now)
      c.begin_payload.new.message.octets c.extend-2.new.self.octets c.push.new.self.octets (4 + length c.args.octets.now) (omega arith)
      c.begin_payload.ensures.octets written (rw c.unwrap-3.ensures at c.push.ensures.ok)

  spare : c.self.inside.message.spare ≤ c.push.new.self.spare + 4 + length (body_written (notify_of c.args.ntype c.args.octets.now))
  spare = omega (arith, c.begin_payload.ensures.spare, rw c.unwrap.ensures at c.extend.ensures.spare, rw c.unwrap-2.ensures at c.extend-2.ensures.spare, rw c.unwrap-3.ensures at c.push.ensures.spare)

  room : 4 + length (body_written (notify_of c.args.ntype c.args.octets.now)) ≤ 2032 - length c.self.inside.message.octets
  room = omega (arith, c.requires.fits, ap (λ f. f.room) c.self.view_is)

  fits : AreValid true (notify_of c.args.ntype c.args.octets.now ∷ [])
  fits = notify_valid c.args.ntype c.args.octets.now (omega (arith, room))

  abbrev new : Inside
  new = record { message = c.push.new.self; link = c.begin_payload.new.link }

pub invariant_of-self : goal.invariant_of-self
invariant_of-self c = frame_after c.self.inside (new c) (notify_of c.args.ntype c.args.octets.now) c.self.invariant (fits c) (is c)
    c.begin_payload.ensures.link (spare c) (room c)

pub returns-clause-payloads : goal.returns-clause-payloads
returns-clause-payloads c = payloads_after c.self.inside (new c) (notify_of c.args.ntype c.args.octets.now) c.self.invariant (fits c) (is c)
    c.begin_payload.ensures.link (spare c) (room c)
    ∙ ap (λ f. f.payloads ++ notify_of c.args.ntype c.args.octets.now ∷ []) c.self.view_is
