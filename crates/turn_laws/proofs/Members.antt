-- Whose turns are a member's, and what a member holds.
use Rattle.std.proofs.Common.{◌≢◌, subst, ◌≡◌, ℕ, ◌≤◌, arith, ◌==◌, ◌||◌, Bool, true, false, unwrap_or, Option, Some, None, List, [], ◌∷◌, length, refl, ap, sym, ◌∙◌, if◌then◌else◌}
use Rattle.std.proofs.lemmas.Option.{same_Some}
use Rattle.std.specs.Option.{option_map}
use Rattle.aes_gcm.specs.NamedKey.{NamedKey}
use Rattle.ha_base.specs.KeySizes.{sealing_octets}
use Rattle.ha_base.specs.declared.key_material.KeySize.TheVariants.{Bits128, Bits256}
use Rattle.events.specs.declared.event.Event.{Event}
use Rattle.events.specs.declared.event.Event.TheVariants as event
use Rattle.events.specs.declared.turn.Turn.{Turn}
use Rattle.events.specs.declared.verdict.Verdict.{Verdict}
use Rattle.events.specs.declared.verdict.Verdict.TheVariants as out
use Rattle.turn_rules.specs.Configurations.{Configuration, configured_in, default_configuration, first_ticket_counter, first_ticket_key, membership}
use Rattle.turn_laws.proofs.Holdings.{is_performer-same, is_performer-true}
use Rattle.turn_laws.specs.Holdings.{End}
use Rattle.turn_laws.specs.Turns.{actor_as}
use Rattle.turn_rules.specs.Ends.{Member, Performer, is_end, is_performer, is_refused_by_run, own, performer_at, performer_of}
use Rattle.turn_rules.specs.Held.{Held, config_by, configured_at, first_some, found, held_by, window_by}
use Rattle.turn_rules.specs.MemberStates.{fresh_at, held_unless, numbers_unless}
use Rattle.turn_rules.specs.MemberTickets.{config_of}
use Rattle.turn_rules.specs.States.{has_ended, told_state}
use Rattle.turn_rules.specs.TicketNumbers.{numbers_by}
use Rattle.turn_laws.proofs.Deeds.{AreTicketsTold}
use Rattle.turn_laws.proofs.Tickets.{HasLot}

-- whose turn it is
pub is_end-true : (end : Performer) (x : Option Performer) → is_end end x ≡ true → x ≡ Some end
is_end-true end None e = absurd (cc)
is_end-true end (Some other) e = ap Some (sym (is_performer-true end other e))

pub is_end-false : (end : Performer) (x : Option Performer) → is_end end x ≡ false → actor_as x ≢ End end
is_end-false end None e same = absurd (cc)
is_end-false end (Some other) e same = let here : is_performer end other ≡ true = subst (λ x. is_performer end x ≡ true) (let s : End other ≡ End end = same in let t : end ≡ other = cc in t) (is_performer-same end) in absurd (cc)

-- an event that comes to a member is one of its turns, unless the run refuses it
pub member-performs : (event : Event) (verdict : Verdict) (member : ℕ) → performer_of event verdict ≡ Some (Member member) → is_refused_by_run verdict ≡ false → performer_at event verdict ≡ Some (Member member)
member-performs event verdict member by not_run = rw not_run by

-- the key of tickets that is configured is the first one
octets-key : (octets : List ℕ) (key : NamedKey) → first_ticket_key octets ≡ Some key → key.name ≡ first_ticket_counter
octets-key octets key is = by_test ((length octets == sealing_octets Bits128) || (length octets == sealing_octets Bits256)) is
  where
    by_test : (b : Bool) → (if b then Some (record { name = first_ticket_counter; octets = octets }) else None) ≡ Some key → key.name ≡ first_ticket_counter
    by_test true is = sym (ap (λ (k : NamedKey). k.name) (same_Some (record { name = first_ticket_counter; octets = octets }) key is))
    by_test false is = absurd (cc)

configured-key : (event : Event) (verdict : Verdict) (config : Configuration) → configured_in event verdict ≡ Some config → (key : NamedKey) → config.ticket_key ≡ Some key → key.name ≡ first_ticket_counter
configured-key (event.Cluster identity lifetime window octets) out.Configured config is key has =
    octets-key octets key (ap (λ (c : Configuration). c.ticket_key) (same_Some _ config is) ∙ has)
configured-key event verdict config is key has = absurd (cc)

config-key : (past : List Turn) (key : NamedKey) → (config_by past).ticket_key ≡ Some key → key.name ≡ first_ticket_counter
config-key [] key is = absurd (cc)
config-key (turn ∷ past) key is = go (config-key past key) (configured_at turn) refl is
  where
    go : ((config_by past).ticket_key ≡ Some key → key.name ≡ first_ticket_counter) → (x : Option Configuration) → configured_at turn ≡ x → (unwrap_or (first_some x (found configured_at past)) default_configuration).ticket_key ≡ Some key
        → key.name ≡ first_ticket_counter
    go before None e is = before is
    go before (Some config) e is = configured-key turn.event turn.step.verdict config e key is

module _ (boxes : ℕ) (past : List Turn) where
  -- what a member of a state holds, its own turns say
  pub own-held : (member spir : ℕ) (held : Held) → ((told_state boxes past).members member).held spir ≡ Some held → held_by (window_by past) (own (Member member) past) spir ≡ Some held
  own-held member spir held is = by_test (has_ended member past) is
    where
      by_test : (b : Bool) → held_unless b (held_by (window_by past) (own (Member member) past) spir) ≡ Some held → held_by (window_by past) (own (Member member) past) spir ≡ Some held
      by_test true is = absurd (cc)
      by_test false is = is

  -- and what it has left of its lot of tickets, where it holds anything
  pub own-numbers : (member spir : ℕ) (held : Held) → ((told_state boxes past).members member).held spir ≡ Some held → ((told_state boxes past).members member).numbers ≡ numbers_by (own (Member member) past)
  own-numbers member spir held is = by_test (has_ended member past) is
    where
      by_test : (b : Bool) → held_unless b (held_by (window_by past) (own (Member member) past) spir) ≡ Some held → numbers_unless b (numbers_by (own (Member member) past)) ≡ numbers_by (own (Member member) past)
      by_test true is = absurd (cc)
      by_test false is = refl

  -- a member has no key of tickets but the first one
  pub member-key : (member : ℕ) (key : NamedKey) → (config_of ((told_state boxes past).members member).given).ticket_key ≡ Some key → key.name ≡ first_ticket_counter
  member-key member key is = by_given (has_ended member past) (found fresh_at (own (Member member) past)) is
    where
      by_given : (b : Bool) (fresh : Option (List ℕ)) → (config_of (held_unless b (option_map (membership (config_by past)) fresh))).ticket_key ≡ Some key → key.name ≡ first_ticket_counter
      by_given true fresh is = absurd (cc)
      by_given false None is = absurd (cc)
      by_given false (Some fresh) is = config-key past key is

  -- the next number of a member's lot is not above its end
  pub told-lot : ((member : ℕ) → AreTicketsTold past member) → (member : ℕ) → HasLot ((told_state boxes past).members member)
  told-lot tickets member = by_test (has_ended member past)
    where
      by_test : (b : Bool) → (numbers_unless b (numbers_by (own (Member member) past))).next ≤ (numbers_unless b (numbers_by (own (Member member) past))).end
      by_test true = omega arith
      by_test false = (tickets member).within
