use Rattle.std.proofs.Common.{◌∙◌, refl, sym, ap}
use Rattle.std.proofs.lemmas.Bool.{false≢true}
use Rattle.aes_gcm.specs.Gcm.{cipher_of, nonce_of, encrypted}
use Rattle.aes_gcm.proofs.Seals.{ciphertext_is, tag_is, sealed_again}
use Rattle.aes_gcm.proofs.open_in_place.Goals as goal

pub returns-then-not-is_same-clause-unsealed : goal.returns-then-not-is_same-clause-unsealed
returns-then-not-is_same-clause-unsealed c =
    λ plain e.
    let right = tag_is c.args.key.now.octets c.args.iv c.args.aad.now plain c.args.buf.now c.args.tag.now e in
    absurd (false≢true (sym c.if-not-is_same.true ∙ c.is_same.ensures.1 (sym right ∙ sym c.tag.ensures.tag)))

pub returns-clause-opened : goal.returns-clause-opened
returns-clause-opened c =
    let octets = c.args.key.now.octets in
    let crypt = encrypted (cipher_of octets) (nonce_of octets c.args.iv) in
    let right = c.is_same.ensures.0 c.if-not-is_same.false in
    sealed_again octets c.args.iv c.args.aad.now c.stream_into.new.buf c.args.buf.now c.args.tag.now (ap crypt c.stream_into.ensures.streamed ∙ c.stream_into.ensures.inverse c.args.buf.now) (sym c.tag.ensures.tag ∙ sym right)

pub returns-clause-unsealed : goal.returns-clause-unsealed
returns-clause-unsealed c =
    let octets = c.args.key.now.octets in
    let crypt = encrypted (cipher_of octets) (nonce_of octets c.args.iv) in
    λ plain e.
    (refl, c.stream_into.ensures.streamed ∙ ap crypt (sym (ciphertext_is octets c.args.iv c.args.aad.now plain c.args.buf.now c.args.tag.now e)) ∙ c.stream_into.ensures.inverse plain)
