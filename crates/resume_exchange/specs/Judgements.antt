-- What a member makes of a request to resume before it asks the keeper: the first case that
-- applies.
use Rattle.std.specs.Prelude.{◌≡◌, ◌≢◌, ℕ, ◌&&◌, ◌||◌, ◌<◌, ◌⊎◌, Bool, true, false}
use Rattle.std.specs.Prelude.{List, length, filter, Option, None, Some, is_some}
use Rattle.aes_gcm.specs.NamedKey.{NamedKey}
use Rattle.aes_gcm.specs.declared.TheConstants.{MAX_LEN}
use Rattle.ike_values.specs.Values.{PayloadValue}
use Rattle.ike_values.specs.Notifications.{first_notify}
use Rattle.ike_values.specs.declared.header.Message.{Message}
use Rattle.ike_values.specs.declared.notify_types.TheConstants.{REDIRECT_SUPPORTED, REDIRECTED_FROM}
use Rattle.tickets.specs.declared.content.Content.{Content}
use Rattle.resume_exchange.specs.declared.half_opens.HalfOpen.{HalfOpen}
use Rattle.resume_exchange.specs.declared.half_opens.TheConstants.{MAX_HALF_OPENS}
use Rattle.resume_exchange.specs.declared.judging.Judged.{Judged}
use Rattle.resume_exchange.specs.declared.judging.Judged.TheVariants.{Form, Full, Redirected, Nack, Presented}
use Rattle.resume_exchange.specs.HalfOpens.{is_live}
use Rattle.resume_exchange.specs.Requests.{IsPresented}
use Rattle.resume_exchange.specs.Usable.{IsUsable, IsUseless}

-- there is a ticket key, under which the ticket is usable
abbrev pub IsTaken : Option NamedKey → List ℕ → ℕ → ℕ → Content → Type 0
IsTaken None ticket now number content = ⊥
IsTaken (Some key) ticket now number content = IsUsable key.octets ticket now number content

-- there is none, or the ticket is useless under it, or longer than any that a message has
abbrev pub IsNotTaken : Option NamedKey → List ℕ → ℕ → Type 0
IsNotTaken None ticket now = Unit {0}
IsNotTaken (Some key) ticket now = IsUseless key.octets ticket now ⊎ (MAX_LEN < length ticket)

-- the peer says that it follows redirects (RFC 5685, section 3)
abbrev pub follows_redirects : List PayloadValue → Bool
follows_redirects payloads =
    is_some (first_notify REDIRECT_SUPPORTED payloads)
    || is_some (first_notify REDIRECTED_FROM payloads)

-- a request that has its form, and after which these half-open associations are left
pub record HasRequestForm
    (now : ℕ) (message : Message) (old : List HalfOpen)
    (nonce ticket : List ℕ) (new : List HalfOpen) : Type 0 where
  pub presented : IsPresented message.header message.payloads nonce ticket
  pub left : new ≡ filter (is_live now) old

-- there is room for one more, and the peer is not sent elsewhere
pub record IsHeard (is_steered : Bool) (message : Message) (new : List HalfOpen) : Type 0 where
  pub room : length new ≢ MAX_HALF_OPENS
  pub not_redirected : (is_steered && follows_redirects message.payloads) ≡ false

-- what is made of it, and what half-open associations are left
abbrev pub IsJudged :
    Option NamedKey → Bool → ℕ → Message → List HalfOpen → Judged → List HalfOpen → Type 0
IsJudged ticket_key is_steered now message old Form new =
    ((nonce ticket : List ℕ) → ¬ IsPresented message.header message.payloads nonce ticket)
    × (new ≡ old)
IsJudged ticket_key is_steered now message old Full new =
    ((nonce : List ℕ) × (ticket : List ℕ) × HasRequestForm now message old nonce ticket new)
    × (length new ≡ MAX_HALF_OPENS)
IsJudged ticket_key is_steered now message old Redirected new =
    ((nonce : List ℕ) × (ticket : List ℕ) × HasRequestForm now message old nonce ticket new)
    × (length new ≢ MAX_HALF_OPENS)
    × (is_steered ≡ true) × (follows_redirects message.payloads ≡ true)
IsJudged ticket_key is_steered now message old Nack new =
    (nonce : List ℕ) × (ticket : List ℕ) × HasRequestForm now message old nonce ticket new
    × IsHeard is_steered message new
    × IsNotTaken ticket_key ticket now
IsJudged ticket_key is_steered now message old (Presented number content) new =
    (nonce : List ℕ) × (ticket : List ℕ) × HasRequestForm now message old nonce ticket new
    × IsHeard is_steered message new
    × IsTaken ticket_key ticket now number content
