-- What holds of tickets.
use Rattle.std.specs.Prelude.{◌≡◌, ℕ, ◌^◌, ◌<◌, ◌⊎◌, List, Result, Ok, Err}
use Rattle.ha_base.specs.KeySizes.{HasKeySize}
use Rattle.tickets.specs.declared.bad_ticket.BadTicket.{BadTicket}
use Rattle.tickets.specs.declared.bad_ticket.BadTicket.TheVariants.{Memory}
use Rattle.tickets.specs.declared.content.Content.{Content}
use Rattle.tickets.specs.Answers.{IsTicketAnswer}
use Rattle.tickets.specs.Tickets.{IsCarried, content_octets, ticket_octets}

-- what was issued opens with its number and its content, unless memory runs out
abbrev pub IssuedTicketsOpen : Type 0
IssuedTicketsOpen =
    (key : List ℕ) (number : ℕ) (content : Content) (answer : Result (ℕ × Content) BadTicket) →
    HasKeySize key → number < 2 ^ 64 → IsCarried content →
    IsTicketAnswer key (ticket_octets key number (content_octets content)) answer →
    (answer ≡ Ok (number, content)) ⊎ (answer ≡ Err Memory)
