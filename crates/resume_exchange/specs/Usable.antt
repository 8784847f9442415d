-- Which tickets a member takes, as far as it can tell by itself.
use Rattle.std.specs.Prelude.{◌≢◌, ℕ, ◌<◌, ◌≤◌, ◌⊎◌, List, Ok, Err}
use Rattle.tickets.specs.Answers.{IsTicketAnswer}
use Rattle.tickets.specs.declared.bad_ticket.BadTicket.{BadTicket}
use Rattle.tickets.specs.declared.bad_ticket.BadTicket.TheVariants.{Memory}
use Rattle.tickets.specs.declared.content.Content.{Content}

-- the ticket opens and has not expired
pub record IsUsable (key ticket : List ℕ) (now number : ℕ) (content : Content) : Type 0 where
  pub opens : IsTicketAnswer key ticket (Ok (number, content))
  pub in_time : now < content.expiry

-- it does not open, for a reason of its own
abbrev pub IsBad : List ℕ → List ℕ → Type 0
IsBad key ticket = (why : BadTicket) × (why ≢ Memory) × IsTicketAnswer key ticket (Err why)

-- it opens, but has expired: at its expiry it is not taken any more
abbrev pub HasExpired : List ℕ → List ℕ → ℕ → Type 0
HasExpired key ticket now =
    (number : ℕ) × (content : Content)
    × IsTicketAnswer key ticket (Ok (number, content)) × (content.expiry ≤ now)

abbrev pub IsUseless : List ℕ → List ℕ → ℕ → Type 0
IsUseless key ticket now = IsBad key ticket ⊎ HasExpired key ticket now
