use Rattle.std.proofs.Common.{length-append, ◌≡◌, ◌+◌, ◌-◌, ◌^◌, ◌<◌, ◌++◌, length, drop, take, vec_len, ap, ◌∙◌, take_at, arith}
use Rattle.ike_values.specs.Writing.{first_type_of}
use Rattle.ike_encoding.specs.Messages.{header_written}
use Rattle.sk_payload.specs.Front.{sk_front}
use Rattle.sk_payload.specs.Message.{plain_of}
use Rattle.sk_payload.proofs.Frames.{text_is, front_is, octets_long}
use Rattle.sk_payload.proofs.Seals.{datagram_is}
use Rattle.sk_payload.proofs.seal.seal_message.Goals as goal

module _ (c : goal.After-of) where
  long : vec_len c.into_message-message.result ≡ 40 + length (plain_of c.args.frame.payloads)
  long = c.into_message-message.result.ok.0 ∙ octets_long c.into_message-message.result.items c.args.frame.payloads c.into_message-message.ensures.octets c.into_message-message.ensures.valid

  text : drop 40 c.deref_mut.result.now ≡ plain_of c.args.frame.payloads
  text = ap (drop 40) c.deref_mut.ensures.value ∙ text_is c.into_message-message.result.items c.args.frame.payloads c.into_message-message.ensures.octets c.into_message-message.ensures.valid

  front : take (vec_len c.into_message-message.result) (c.seal_text-tag.new.message ++ drop (length c.seal_text-tag.new.message) c.into_message-message.result.items) ≡ c.seal_text-tag.new.message
  front =
      take_at c.seal_text-tag.new.message (drop (length c.seal_text-tag.new.message) c.into_message-message.result.items) (vec_len c.into_message-message.result)
      (c.seal_text-tag.auto.message ∙ c.deref_mut.ensures.len)

  sealed : c.of.result.octets ≡ c.seal_text-tag.new.message ++ c.seal_text-tag.result
  sealed = c.of.ensures ∙ (rw c.unwrap.ensures at c.extend_from_slice.ensures.items) ∙ ap (λ ys. ys ++ c.seal_text-tag.result) front

  small : c.args.n.value < 2 ^ 64
  small = omega (arith, c.value.type_inv, c.value.ensures)

  first : c.index.result.now ≡ first_type_of c.args.frame.payloads
  first = c.index.ensures ∙ front_is c.into_message-message.result.items c.args.frame.payloads c.index.result.now c.into_message-message.ensures.octets

  before : c.front_octets-front.result ≡ header_written c.args.header.now 46 (vec_len c.into_message-message.result + 16) ++ sk_front c.index.result.now (vec_len c.into_message-message.result + 16 - 28) c.args.n.value
  before =
      c.front_octets-front.ensures.octets
      ∙ (λ i. header_written c.args.header.now 46 (c.len-length.ensures i + 16) ++ sk_front c.index.result.now (c.len-length.ensures i + 16 - 28) (c.value.ensures i))

pub returns-clause-datagram : goal.returns-clause-datagram
returns-clause-datagram c =
    datagram_is c.args.key.now.octets (c.sealing_laws.ensures c.args.key.now.octets c.seal_text-tag.ensures.key_size) c.args.n.value (small c) c.args.header.now
    c.front_octets-front.ensures.fits
    c.args.frame.payloads c.into_message-message.ensures.valid (omega (arith, long c, c.into_message-message.ensures.small))
    (vec_len c.into_message-message.result + 16) c.index.result.now (drop 40 c.deref_mut.result.now) c.front_octets-front.result c.of.result.octets
    (omega (arith, long c)) (first c) (text c) (before c)
    (sealed c ∙ (λ i. c.seal_text-tag.ensures.octets i ++ c.seal_text-tag.ensures.tag i))

pub returns-clause-length : goal.returns-clause-length
returns-clause-length c =
    omega (arith, ap length (sealed c), length-append c.seal_text-tag.new.message c.seal_text-tag.result, c.seal_text-tag.auto.message, c.deref_mut.ensures.len, long c)
