-- A message that is sealed is the datagram of its payloads.
use Rattle.std.proofs.Common.{◌≡◌, ℕ, ◌+◌, ◌-◌, ◌<◌, ◌^◌, ◌≤◌, true, List, [], ◌∷◌, ◌++◌, length, take, refl, sym, subst, ◌∙◌, append-nil, length-append, arith}
use Rattle.std.specs.Int.{w64, to_be_bytes}
use Rattle.aes_gcm.specs.Gcm.{Sealed, sealed}
use Rattle.aes_gcm.specs.Sealing.{IsSealing}
use Rattle.ike_values.specs.declared.header.Header.{Header}
use Rattle.ike_values.specs.Values.{SkValue, PayloadValue, sk}
use Rattle.ike_values.specs.Spelling.{two}
use Rattle.ike_values.specs.Writing.{body_written, first_type_of, chain_written}
use Rattle.ike_values.specs.Validity.{AreValid}
use Rattle.ike_values.specs.Headers.{FitsHeader, IsMessage}
use Rattle.ike_values.proofs.SpellingLaws.{chain_spelled}
use Rattle.ike_encoding.specs.Messages.{header_written, message_written}
use Rattle.ike_encoding.proofs.WrittenLaws.{message_spelled}
use Rattle.sk_payload.specs.Front.{sk_front}
use Rattle.sk_payload.specs.Message.{only_sk, plain_of, IsDatagram}

module _ (key : List ℕ) (sealing : IsSealing key) (iv : ℕ) (small : iv < 2 ^ 64) (header : Header) (fits : FitsHeader header)
    (payloads : List PayloadValue) (valid : AreValid true payloads) (short : length (plain_of payloads) ≤ 1992) where
  abbrev size : ℕ
  size = 56 + length (plain_of payloads)

  abbrev front : List ℕ
  front = header_written header 46 (56 + length (plain_of payloads)) ++ sk_front (first_type_of payloads) (56 + length (plain_of payloads) - 28) iv

  abbrev text : Sealed
  text = sealed key iv (take 32 front) (plain_of payloads)

  abbrev body : SkValue
  body = record { first = first_type_of payloads; iv = iv; ciphertext = text.ciphertext; icv = text.tag }

  long : length text.ciphertext ≡ length (plain_of payloads)
  long = sealing.ciphertext_length iv (take 32 front) (plain_of payloads)

  tag_long : length text.tag ≡ 16
  tag_long = sealing.tag_length iv (take 32 front) (plain_of payloads)

  some : 1 ≤ length (plain_of payloads)
  some = omega (arith, length-append (chain_written payloads) (0 ∷ []))

  body_long : length (body_written (sk body)) ≡ 24 + length (plain_of payloads)
  body_long = omega (arith, long, tag_long, length-append text.ciphertext text.tag)

  chain_long : length (chain_written (sk body ∷ [])) ≡ 28 + length (plain_of payloads)
  chain_long = omega (arith, body_long, length-append (body_written (sk body)) [])

  written : front ++ text.ciphertext ++ text.tag ≡ message_written (only_sk header body)
  written =
      let whole : 56 + length (plain_of payloads) ≡ 28 + length (chain_written (sk body ∷ [])) = omega (arith, chain_long) in
      let inside : 56 + length (plain_of payloads) - 28 ≡ 4 + length (body_written (sk body)) = omega (arith, body_long) in
      λ i. header_written header 46 (whole i) ++ (first_type_of payloads ∷ 0 ∷ two (inside i) ++ to_be_bytes w64 iv ++ sym (append-nil (text.ciphertext ++ text.tag)) i)

  is_message : IsMessage (only_sk header body) (front ++ text.ciphertext ++ text.tag)
  is_message =
      subst (IsMessage (only_sk header body)) (sym written)
      (message_spelled (only_sk header body) fits
      ((record { body = record { iv_fits = small; some = omega (arith, long, some); icv_len = tag_long }; length_fits = omega (arith, body_long, short) }, (refl, refl), tt))
      (omega (arith, chain_long, short)))

  pub datagram : IsDatagram key iv header payloads (front ++ text.ciphertext ++ text.tag)
  datagram = record {
    body = body;
    written = written;
    first_is = refl;
    iv_is = refl;
    is = record { message = is_message; text = refl };
    inner = chain_spelled true payloads valid;
  }

  pub datagram_is : (total first : ℕ) (plain before octets : List ℕ) → total ≡ 56 + length (plain_of payloads) → first ≡ first_type_of payloads → plain ≡ plain_of payloads →
      before ≡ header_written header 46 total ++ sk_front first (total - 28) iv →
      octets ≡ before ++ (sealed key iv (take 32 before) plain).ciphertext ++ (sealed key iv (take 32 before) plain).tag →
      IsDatagram key iv header payloads octets
  datagram_is total first plain before octets is_total is_first is_plain is_before is =
      let same : before ≡ front = is_before ∙ (λ i. header_written header 46 (is_total i) ++ sk_front (is_first i) (is_total i - 28) iv) in
      let sealed_so : octets ≡ front ++ text.ciphertext ++ text.tag =
      is ∙ (λ i. same i ++ (sealed key iv (take 32 (same i)) (is_plain i)).ciphertext ++ (sealed key iv (take 32 (same i)) (is_plain i)).tag) in
      subst (IsDatagram key iv header payloads) (sym sealed_so) datagram
