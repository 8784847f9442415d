use Rattle.std.proofs.Common.{◌≡◌, [], ◌++◌, ◌∙◌, ap, length, refl, arith}
use Rattle.sk_payload.specs.HeldFrame.{payloads_in, octets_before}
use Rattle.sk_payload.proofs.Frames.{held_is, frame_begun}
use Rattle.sk_payload.proofs.frame.Frame.new.Goals as goal

octets : (c : goal.After-unwrap) → c.extend.new.self.octets ≡ octets_before 0 []
octets c = (rw c.unwrap.ensures at c.extend.ensures.ok) ∙ ap (λ ys. ys ++ octets_before 0 []) c.in_ok-message.ensures.none

pub invariant_of-result : goal.invariant_of-result
invariant_of-result c =
    frame_begun (record { message = c.extend.new.self; link = 28 }) (octets c) refl
    (omega (arith, c.in_ok-message.ensures.room, rw c.unwrap.ensures at c.extend.ensures.spare, ap length (octets c)))

pub returns-clause-none : goal.returns-clause-none
returns-clause-none c = ap payloads_in (octets c) ∙ held_is [] tt
