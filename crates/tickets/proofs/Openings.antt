-- What the opening of a ciphertext tells of its ticket.
use Rattle.std.proofs.Common.{◌≡◌, ℕ, ◌≤◌, List, ◌∷◌, length, get_or, take, drop, sym, ap, subst, ◌∙◌, drop-cons, arith}
use Rattle.std.specs.Int.{w64, to_be_bytes}
use Rattle.aes_gcm.specs.Gcm.{sealed}
use Rattle.aes_gcm.specs.Sealing.{IsSealing}
use Rattle.tickets.specs.Answers.{IsSealedIn}
use Rattle.tickets.specs.Tickets.{number_in, ticket_front, ticket_octets}
use Rattle.tickets.specs.declared.form.TheConstants.{TICKET_VERSION}
use Rattle.tickets.proofs.Parts.{parts, text_in, ticket_of}

-- the first nine octets of a ticket of the version
pub front_is : (ticket : List ℕ) (number : ℕ) → 91 ≤ length ticket → get_or ticket 0 0 ≡ TICKET_VERSION → to_be_bytes w64 number ≡ take 8 (drop 1 ticket) →
    ticket_front number ≡ take 9 ticket
front_is ticket number long version is =
    (λ i. sym version i ∷ is i) ∙ sym (ap (take 9) (drop-cons ticket 0 0 (omega arith)))

module _ (key : List ℕ) (sealing : IsSealing key) (number : ℕ) (ticket : List ℕ) (long : 91 ≤ length ticket) (front : ticket_front number ≡ take 9 ticket)
    (named : number ≡ number_in ticket) where
  -- a plaintext that is sealed to what lies in the ticket
  pub sealed_in : (plain : List ℕ) → sealed key number (take 9 ticket) plain ≡ text_in ticket → IsSealedIn key ticket plain
  sealed_in plain text =
      subst (λ n. ticket ≡ ticket_octets key n plain) named
      (ticket_of key number plain ticket (omega arith) front (ap (λ aad. sealed key number aad plain) front ∙ text))

  -- the text of any plaintext that is sealed in the ticket
  pub text_of : (plain : List ℕ) → IsSealedIn key ticket plain → sealed key number (take 9 ticket) plain ≡ text_in ticket
  text_of plain is =
      ap (λ aad. sealed key number aad plain) (sym front)
      ∙ parts key sealing number plain ticket (subst (λ n. ticket ≡ ticket_octets key n plain) (sym named) is)
