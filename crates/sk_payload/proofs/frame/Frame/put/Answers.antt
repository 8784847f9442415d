use Rattle.std.proofs.Common.{◌≡◌, ◌+◌, ◌-◌, ◌≤◌, ◌∷◌, [], ◌++◌, length, set, ap, ◌∙◌, arith}
use Rattle.ike_values.specs.PayloadView.{payload_value}
use Rattle.ike_values.specs.Writing.{body_written}
use Rattle.sk_payload.proofs.Frames.{behind, frame_after, payloads_after, put_together}
use Rattle.sk_payload.specs.declared.frame.Frame.TheInside.{Inside}
use Rattle.sk_payload.proofs.frame.Frame.put.Goals as goal

module _ (c : goal.After-unwrap-2) where
  room : 4 + length (body_written (payload_value c.args.payload.now)) ≤ 2032 - length c.self.inside.message.octets
  room = omega (arith, c.requires.fits, ap (λ f. f.room) c.self.view_is)

  size : c.body_len.result ≡ length (body_written (payload_value c.args.payload.now))
  size = omega (arith, c.body_len.ensures, room)

  is : c.push.new.self.octets ≡ set c.self.inside.message.octets c.self.inside.link c.type_of.result ++ behind (payload_value c.args.payload.now)
  is =
      put_together (set c.self.inside.message.octets c.self.inside.link c.type_of.result) (payload_value c.args.payload.now)
      c.begin_payload.new.message.octets c.encode_body.new.out.octets c.push.new.self.octets c.body_len.result size
      c.begin_payload.ensures.octets (rw c.unwrap.ensures at c.encode_body.ensures.written) (rw c.unwrap-2.ensures at c.push.ensures.ok)

  spare : c.self.inside.message.spare ≤ c.push.new.self.spare + 4 + length (body_written (payload_value c.args.payload.now))
  spare = omega (arith, c.begin_payload.ensures.spare, rw c.unwrap.ensures at c.encode_body.ensures.spare, rw c.unwrap-2.ensures at c.push.ensures.spare)

  abbrev new : Inside
  new = record { message = c.push.new.self; link = c.begin_payload.new.link }

pub invariant_of-self : goal.invariant_of-self
invariant_of-self c = frame_after c.self.inside (new c) (payload_value c.args.payload.now) c.self.invariant c.requires.valid
    (is c ∙ ap (λ kind. set c.self.inside.message.octets c.self.inside.link kind ++ behind (payload_value c.args.payload.now)) c.type_of.ensures)
    c.begin_payload.ensures.link (spare c) (room c)

pub returns-clause-payloads : goal.returns-clause-payloads
returns-clause-payloads c = payloads_after c.self.inside (new c) (payload_value c.args.payload.now) c.self.invariant c.requires.valid
    (is c ∙ ap (λ kind. set c.self.inside.message.octets c.self.inside.link kind ++ behind (payload_value c.args.payload.now)) c.type_of.ensures)
    c.begin_payload.ensures.link (spare c) (room c)
    ∙ ap (λ f. f.payloads ++ payload_value c.args.payload.now ∷ []) c.self.view_is
