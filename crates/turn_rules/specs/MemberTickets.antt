-- What a member does with a request for a ticket (RFC 5723, section 4.1).
use Rattle.std.specs.Prelude.{ℕ, ◌+◌, ◌≡◌, ◌≤◌, length, MatchBool, MatchOption, unwrap_or, Option, None, Some, List, []}
use Rattle.std.specs.Option.{option_map}
use Rattle.aes_gcm.specs.NamedKey.{NamedKey}
use Rattle.events.specs.declared.seals.Seal.{Seal}
use Rattle.events.specs.declared.turn.Step.{Step}
use Rattle.events.specs.declared.verdict.Refusal.TheVariants as refusal
use Rattle.ha_base.specs.declared.outside.Moment.{Moment}
use Rattle.ike_sas.specs.TicketMessages.{is_ticket_due}
use Rattle.ike_sas.specs.declared.ticket_messages.TheConstants.{LONGEST_KEPT_TICKET}
use Rattle.ike_sas.specs.declared.ticket_messages.TicketAnswer.{TicketAnswer}
use Rattle.ike_sas.specs.declared.ticket_messages.TicketAnswer.TheVariants.{Declined, Issued}
use Rattle.keeper_book.specs.declared.calls.Call.{Call}
use Rattle.keeper_book.specs.declared.faults.KeeperFault.{KeeperFault}
use Rattle.keeper_book.specs.declared.faults.KeeperFault.TheVariants as fault
use Rattle.keeper_book.specs.declared.pools.Pool.TheVariants as pool
use Rattle.keeper_book.specs.declared.records.Record.{Record}
use Rattle.pool_lots.specs.Lots.{LotReady}
use Rattle.sk_payload.specs.declared.open.Opened.{Opened}
use Rattle.tickets.specs.Tickets.{content_octets, ticket_octets}
use Rattle.tickets.specs.declared.content.Content.{Content}
use Rattle.turn_rules.specs.Configurations.{Configuration, Membership, default_configuration}
use Rattle.turn_rules.specs.MemberStates.{MemberHeld}
use Rattle.turn_rules.specs.Steps.{RefusesThen}

-- how a member is configured, once it joined
abbrev pub config_of : Option Membership → Configuration
config_of given = unwrap_or (option_map (λ (m : Membership). m.config) given) default_configuration

-- what a ticket carries that is issued in an association at a moment
abbrev pub content_of : Configuration → Moment → Record → Content
content_of config now sa = record {
  spii = sa.spii;
  spir = sa.spir;
  sk_d = sa.keys.sk_d;
  size = sa.size;
  issued = now.0;
  expiry = now.0 + config.lifetime;
  identity = sa.identity;
}

-- the content was sealed in a ticket of this number, which is no longer than one that a peer keeps
pub record SealsTicket (key : NamedKey) (number : ℕ) (content : Content) (seal : Seal) : Type 0 where
  pub named : seal.name ≡ key.name
  pub iv_is : seal.iv ≡ number
  pub plain : seal.plain.octets ≡ content_octets content
  pub sealed : seal.sealed.octets ≡ ticket_octets key.octets number (content_octets content)
  pub short : length seal.sealed.octets ≤ LONGEST_KEPT_TICKET

-- a ticket was issued, and no call is left
pub record IssuesTicket (key : NamedKey) (config : Configuration) (now : Moment) (sa : Record)
    (number : ℕ) (rest : List Call) (done : Option TicketAnswer → Type 0) : Type 0 where
  pub no_more : rest ≡ []
  pub seal : Seal
  pub sealed : SealsTicket key number (content_of config now sa) seal
  pub does : done (Some (Issued config.lifetime seal))

-- nothing more is asked, and this is said of a ticket
abbrev pub Tells : Option TicketAnswer → List Call → (Option TicketAnswer → Type 0) → Type 0
Tells ticket rest done = (rest ≡ []) × done ticket

-- no number of a ticket was leased: where there is none, the response says so
abbrev pub TellsWithout : KeeperFault → List Call → Step → (Option TicketAnswer → Type 0) → Type 0
TellsWithout (fault.Full limit) rest step done = Tells (Some Declined) rest done
TellsWithout fault.Failed rest step done = RefusesThen refusal.KeeperFault rest step
TellsWithout other rest step done = ⊥

-- a ticket is issued under the key, once a number is ready
abbrev pub TellsIssued : MemberHeld → Moment → Record → NamedKey → List Call → Step
    → (Option TicketAnswer → Type 0) → Type 0
TellsIssued member now sa key calls step done = LotReady pool.Ticket member.numbers calls
    (λ why rest. TellsWithout why rest step done)
    (λ number lot rest. IssuesTicket key (config_of member.given) now sa number rest done)

-- What the response to a request says of a ticket, where it asks for one: the ticket, or that there
-- is none, which is so without a key.
abbrev pub TellsTicket : MemberHeld → Moment → Record → Opened → List Call → Step
    → (Option TicketAnswer → Type 0) → Type 0
TellsTicket member now sa request calls step done = MatchBool (is_ticket_due request)
    (MatchOption (config_of member.given).ticket_key
    (Tells (Some Declined) calls done)
    (λ key. TellsIssued member now sa key calls step done))
    (Tells None calls done)
