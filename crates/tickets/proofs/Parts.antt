-- The parts of a ticket.
use Rattle.std.proofs.Common.{◌≡◌, ℕ, ◌+◌, ◌-◌, ◌≤◌, List, ◌++◌, length, take, drop, sym, ap, ◌∙◌, take-append-drop, drop-drop, take_at, drop_at, length-append, arith}
use Rattle.aes_gcm.specs.Gcm.{Sealed, sealed}
use Rattle.aes_gcm.specs.Sealing.{IsSealing}
use Rattle.tickets.specs.Tickets.{ticket_front, ticket_octets}

-- what lies between the front and the end of a ticket
abbrev pub text_in : List ℕ → Sealed
text_in ticket = record { ciphertext = take (length ticket - 16 - 9) (drop 9 ticket); tag = drop (length ticket - 16) ticket }

-- a list is its first nine octets, its last sixteen and what lies between
three_parts : (octets : List ℕ) → 25 ≤ length octets → take 9 octets ++ (take (length octets - 16 - 9) (drop 9 octets) ++ drop (length octets - 16) octets) ≡ octets
three_parts octets h =
    let place : 9 + (length octets - 16 - 9) ≡ length octets - 16 = omega arith in
    let end : drop (length octets - 16) octets ≡ drop (length octets - 16 - 9) (drop 9 octets) =
    ap (λ k. drop k octets) (sym place) ∙ sym (drop-drop (length octets - 16 - 9) 9 octets) in
    ap (λ ys. take 9 octets ++ (take (length octets - 16 - 9) (drop 9 octets) ++ ys)) end
    ∙ ap (λ ys. take 9 octets ++ ys) (take-append-drop (length octets - 16 - 9) (drop 9 octets))
    ∙ take-append-drop 9 octets

module _ (key : List ℕ) (sealing : IsSealing key) (number : ℕ) (plain ticket : List ℕ) (is : ticket ≡ ticket_octets key number plain) where
  abbrev text : Sealed
  text = sealed key number (ticket_front number) plain

  rest : drop 9 ticket ≡ text.ciphertext ++ text.tag
  rest = ap (drop 9) is

  pub ticket_length : length ticket ≡ 9 + length plain + 16
  ticket_length =
      omega (
        arith,
        ap length is,
        length-append text.ciphertext text.tag,
        sealing.ciphertext_length number (ticket_front number) plain,
        sealing.tag_length number (ticket_front number) plain,
      )

  -- what is sealed in a ticket is what lies between its front and its end
  pub parts : sealed key number (ticket_front number) plain ≡ text_in ticket
  parts =
      let wide : length text.ciphertext ≡ length ticket - 16 - 9 = omega (arith, ticket_length, sealing.ciphertext_length number (ticket_front number) plain) in
      let front : length (ticket_front number ++ text.ciphertext) ≡ length ticket - 16 =
      omega (arith, ticket_length, length-append (ticket_front number) text.ciphertext, sealing.ciphertext_length number (ticket_front number) plain) in
      let middle : take (length ticket - 16 - 9) (drop 9 ticket) ≡ text.ciphertext =
      ap (take (length ticket - 16 - 9)) rest ∙ take_at text.ciphertext text.tag (length ticket - 16 - 9) wide in
      let end : drop (length ticket - 16) ticket ≡ text.tag =
      ap (drop (length ticket - 16)) is ∙ drop_at (ticket_front number ++ text.ciphertext) text.tag (length ticket - 16) front in
      λ i. record { ciphertext = sym middle i; tag = sym end i }

-- octets with this front and a sealed text are the ticket
pub ticket_of : (key : List ℕ) (number : ℕ) (plain ticket : List ℕ) → 25 ≤ length ticket → ticket_front number ≡ take 9 ticket →
    sealed key number (ticket_front number) plain ≡ text_in ticket → ticket ≡ ticket_octets key number plain
ticket_of key number plain ticket long front text =
    sym (three_parts ticket long) ∙ (λ i. sym front i ++ ((sym text i).ciphertext ++ (sym text i).tag))
