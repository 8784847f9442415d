-- What is answered to a message.
use Rattle.std.proofs.Common.{◌≡◌, ℕ, ◌-◌, ◌<◌, ◌≤◌, ◌⊎◌, true, List, [], ◌∷◌, length, get_or, Result, Ok, Err, inl, inr, refl, sym, ap, subst, ◌∙◌, length-append, take_at, arith}
use Rattle.std.proofs.lemmas.List.{get_or-append_right}
use Rattle.ike_values.specs.declared.header.Header.{Header}
use Rattle.ike_values.specs.declared.header.Message.{Message}
use Rattle.ike_values.specs.Values.{SkValue, PayloadValue, sk}
use Rattle.ike_values.specs.Writing.{first_type_of, chain_written}
use Rattle.ike_values.specs.Chains.{Spells}
use Rattle.ike_values.specs.Headers.{IsMessage}
use Rattle.ike_values.specs.declared.fault.Bad.{Bad as Fault}
use Rattle.ike_values.specs.declared.fault.Reason.{Reason}
use Rattle.ike_grammar.specs.Chain.{Refused}
use Rattle.ike_grammar.specs.Messages.{MessageRefused}
use Rattle.sk_payload.specs.declared.open.Opened.{Opened}
use Rattle.sk_payload.specs.declared.not_read.NotRead.{NotRead}
use Rattle.sk_payload.specs.declared.not_read.NotRead.TheVariants.{Bad, NotOpened, Memory}
use Rattle.sk_payload.specs.declared.not_read.OpenFault.{OpenFault}
use Rattle.sk_payload.specs.declared.not_read.OpenFault.TheVariants as fault
use Rattle.sk_payload.specs.Message.{only_sk, plain_of, IsSealed, IsDatagram, pad_length_in, chain_in, IsInner}
use Rattle.sk_payload.specs.Answers.{IsAnswer, IsOpening, IsText, IsTextOpened, IsSealedTextFault}

-- ---- messages whose only payload is SK

-- the header, and enough ciphertext for a pad length but not more than a length field tells
pub sk_fits : (header : Header) (body : SkValue) (octets : List ℕ) → IsMessage (only_sk header body) octets →
    (32 ≤ length octets) × (length body.ciphertext ≤ 65536) × (0 < length body.ciphertext)
sk_fits header body octets s =
    let chain = s.2.1 in
    let fits = chain.valid.0 in (
      omega (arith, ap length s.1.bytes_are, ap length chain.bytes_are),
      omega (arith, fits.length_fits, length-append body.ciphertext body.icv),
      fits.body.some,
    )

-- the body of the first payload, if it is SK
abbrev body_or : SkValue → List PayloadValue → SkValue
body_or other (sk body ∷ payloads) = body
body_or other payloads = other

pub same_body : (header others : Header) (body other : SkValue) → only_sk header body ≡ only_sk others other → body ≡ other
same_body header others body other e = ap (λ m. body_or body m.payloads) e

abbrev pub OneMessage : Type 0
OneMessage = (bytes : List ℕ) (message other : Message) → IsMessage message bytes → IsMessage other bytes → message ≡ other

module _ (unique : OneMessage) (key octets : List ℕ) (header : Header) (body : SkValue) (message : IsMessage (only_sk header body) octets) where
  -- a plaintext that is sealed in the octets is the text of this body
  text_of : (others : Header) (other : SkValue) (plain : List ℕ) → IsSealed key others other plain octets → IsText key body octets plain
  text_of others other plain is =
      let same : other ≡ body = same_body others header other body (unique octets (only_sk others other) (only_sk header body) is.message message) in
      subst (λ b. IsText key b octets plain) same is.text

  pub answers_opened : (plain : List ℕ) (inner : Result (List PayloadValue) Fault) → IsTextOpened key body octets plain → IsInner body.first plain inner →
      IsOpening key octets (Ok (record { header = header; inner = inner }))
  answers_opened plain inner opened is = (
    body,
    plain,
    record {
      is = record { message = message; text = opened.is };
      only = λ others other_body other sealed. opened.only other (text_of others other_body other sealed);
    },
    is,
  )

  pub answers_fault : (why : OpenFault) → IsSealedTextFault key body octets why → IsOpening key octets (Err why)
  answers_fault fault.NotOpened none = record {
    message = only_sk header body;
    is = message;
    none = λ others other plain sealed. none plain (text_of others other plain sealed);
  }
  answers_fault fault.Memory none = tt

-- SK is not the only payload
pub answers_others : (unique : OneMessage) (key octets : List ℕ) (message : Message) → IsMessage message octets →
    ((body : SkValue) → message.payloads ≡ sk body ∷ [] → ⊥) → IsOpening key octets (Err fault.NotOpened)
answers_others unique key octets message is none = record {
  message = message;
  is = is;
  none = λ header body plain sealed. none body (ap (λ m. m.payloads) (unique octets message (only_sk header body) is sealed.message));
}

-- ---- what was sealed opens

pub pad_is : (payloads : List PayloadValue) → pad_length_in (plain_of payloads) ≡ 0
pad_is payloads =
    let long = length-append (chain_written payloads) (0 ∷ []) in
    let at : length (plain_of payloads) - 1 ≡ length (chain_written payloads) = omega (arith, long) in
    let none : length (chain_written payloads) - length (chain_written payloads) ≡ 0 = omega arith in
    ap (λ k. get_or (plain_of payloads) k 0) at
    ∙ get_or-append_right (chain_written payloads) (0 ∷ []) (length (chain_written payloads)) (length (chain_written payloads)) 0 refl (omega arith)
    ∙ ap (λ k. get_or (0 ∷ []) k 0) none

pub chain_is : (payloads : List PayloadValue) → chain_in (plain_of payloads) ≡ chain_written payloads
chain_is payloads =
    let long = length-append (chain_written payloads) (0 ∷ []) in
    let at : length (chain_written payloads) ≡ length (plain_of payloads) - 1 - pad_length_in (plain_of payloads) = omega (arith, long, pad_is payloads) in
    take_at (chain_written payloads) (0 ∷ []) (length (plain_of payloads) - 1 - pad_length_in (plain_of payloads)) at

abbrev pub OneReading : Type 0
OneReading = (first : ℕ) (bytes : List ℕ) (payloads others : List PayloadValue) → Spells payloads first true bytes → Spells others first true bytes → payloads ≡ others

abbrev pub NotBoth : Type 0
NotBoth = (first : ℕ) (bytes : List ℕ) (payloads : List PayloadValue) (place : ℕ) (reason : Reason) → Spells payloads first true bytes → Refused first true bytes place reason → ⊥

abbrev pub NotBothMessages : Type 0
NotBothMessages = (bytes : List ℕ) (message : Message) (place : ℕ) (reason : Reason) → IsMessage message bytes → MessageRefused bytes place reason → ⊥

module _ (unique : OneMessage) (not_both : NotBothMessages) (one : OneReading) (neither : NotBoth)
    (key : List ℕ) (iv : ℕ) (header : Header) (payloads : List PayloadValue) (octets : List ℕ) (datagram : IsDatagram key iv header payloads octets) where
  spelled : Spells payloads (first_type_of payloads) true (chain_in (plain_of payloads))
  spelled = subst (Spells payloads (first_type_of payloads) true) (sym (chain_is payloads)) datagram.inner

  inner_is : (inner : Result (List PayloadValue) Fault) → IsInner (first_type_of payloads) (plain_of payloads) inner → inner ≡ Ok payloads
  inner_is (Ok others) is = ap Ok (one (first_type_of payloads) (chain_in (plain_of payloads)) others payloads is.1 spelled)
  inner_is (Err bad) (inl is) = absurd (omega (arith, is.long, pad_is payloads, length-append (chain_written payloads) (0 ∷ [])))
  inner_is (Err bad) (inr is) = absurd (neither (first_type_of payloads) (chain_in (plain_of payloads)) payloads bad.place bad.reason spelled is.1)

  pub opens : (answer : Result Opened NotRead) → IsAnswer key octets answer →
      (answer ≡ Ok (record { header = header; inner = Ok payloads })) ⊎ (answer ≡ Err Memory)
  opens (Ok opened) (body, plain, found, is) =
      let same : only_sk opened.header body ≡ only_sk header datagram.body =
      unique octets (only_sk opened.header body) (only_sk header datagram.body) found.is.message datagram.is.message in
      let first : body.first ≡ first_type_of payloads = ap (λ b. b.first) (same_body opened.header header body datagram.body same) ∙ datagram.first_is in
      let text : plain ≡ plain_of payloads = sym (found.only header datagram.body (plain_of payloads) datagram.is) in
      let inner : opened.inner ≡ Ok payloads =
      inner_is opened.inner (subst (λ p. IsInner (first_type_of payloads) p opened.inner) text (subst (λ f. IsInner f plain opened.inner) first is)) in
      inl (λ i. Ok (record { header = (same i).header; inner = inner i }))
  opens (Err (Bad bad)) is = absurd (not_both octets (only_sk header datagram.body) bad.place bad.reason datagram.is.message is)
  opens (Err NotOpened) is = absurd (is.none header datagram.body (plain_of payloads) datagram.is)
  opens (Err Memory) is = inr refl
