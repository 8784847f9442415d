-- What turns make of what the ends hold is what each end's own turns tell of it.
use Rattle.std.proofs.Common.{◌≡◌, ℕ, ◌||◌, unwrap_or, Bool, true, false, Option, Some, None, List, [], ◌∷◌, ◌++◌, option_to_list, append-nil, length, refl, ap, ap₂, sym, ◌∙◌, subst, if◌then◌else◌}
use Rattle.std.proofs.lemmas.Bool.{or_parts}
use Rattle.std.specs.List.{filter}
use Rattle.std.specs.Option.{option_map}
use Rattle.events.specs.declared.turn.Turn.{Turn}
use Rattle.keeper_book.specs.declared.records.Record.{Record}
use Rattle.turn_rules.proofs.SlotTies.{DoesTold, apart-append, import-differs, other-config, own-config, slots-other, slots-own}
use Rattle.turn_rules.proofs.Ties.{held_by-cons}
use Rattle.turn_rules.specs.Configurations.{Configuration, default_configuration, gateway_of, membership}
use Rattle.turn_rules.specs.Datagrams.{datagrams_of}
use Rattle.turn_rules.specs.Ends.{Member, Peer, is_by, own}
use Rattle.turn_rules.specs.Fits.{Does}
use Rattle.turn_rules.specs.Held.{config_by, configured_at, first_some, found, window_by}
use Rattle.turn_rules.specs.Local.{Explained, IsByRule, Local}
use Rattle.turn_rules.specs.Peers.{AreDistinct, associations_by, entered_in}
use Rattle.turn_rules.specs.PeerStates.{PeerHeld, peer_after, peer_by, peer_configured}
use Rattle.turn_rules.specs.Slots.{Slot, slots_after, slots_by}
use Rattle.turn_rules.specs.MemberStates.{MemberHeld, fresh_at, member_after, member_by, member_unless}
use Rattle.turn_rules.specs.States.{ends, has_ended, is_join, joined_after, joins, state_after, state_by, told_state}
use Rattle.turn_rules.specs.TicketNumbers.{numbers_by}
use Rattle.turn_rules.specs.Tasks.{member_task, peer_task}

-- what own turns tell of a member, after one more of them
member_by-cons : (config : Configuration) (turn : Turn) (mine : List Turn) → member_by config (turn ∷ mine) ≡ member_after config turn.moment (fresh_at turn) (member_task turn.event) turn.calls turn.step (member_by config mine)
member_by-cons config turn mine i = record {
  given = newest (fresh_at turn) (found fresh_at mine) i;
  held = λ spir. held_by-cons config.window spir turn mine i;
  numbers = numbers_by (turn ∷ mine);
}
  where
    newest : (x y : Option (List ℕ)) → option_map (membership config) (first_some x y) ≡ first_some (option_map (membership config) x) (option_map (membership config) y)
    newest None y = refl
    newest (Some fresh) y = refl

abbrev with_slots : Configuration → List Slot → PeerHeld
with_slots config slots = record { gateway = gateway_of config; slots = slots }

module _ (boxes : ℕ) (past : List Turn) (turn : Turn) (does : DoesTold boxes past turn) where
  config-more : config_by (turn ∷ past) ≡ unwrap_or (configured_at turn) (config_by past)
  config-more = go (configured_at turn) (found configured_at past)
    where
      go : (c x : Option Configuration) → unwrap_or (first_some c x) default_configuration ≡ unwrap_or c (unwrap_or x default_configuration)
      go None x = refl
      go (Some c) x = refl

  joined-more : joins (turn ∷ past) ≡ joined_after (is_join turn.step.verdict) (joins past)
  joined-more = go (is_join turn.step.verdict)
    where
      rest : List Turn
      rest = filter (λ (t : Turn). is_join t.step.verdict) past

      go : (b : Bool) → length (if b then turn ∷ rest else rest) ≡ joined_after b (length rest)
      go true = refl
      go false = refl

  -- what the peer holds, once the turn may have configured the cluster
  peer-set : (c : Option Configuration) (slots : List Slot) → with_slots (unwrap_or c (config_by past)) slots ≡ peer_configured c (with_slots (config_by past) slots)
  peer-set None slots = refl
  peer-set (Some config) slots = refl

  peer-more : (b : Bool) → is_by Peer turn ≡ b → peer_by (config_by (turn ∷ past)) (own Peer (turn ∷ past))
      ≡ peer_configured (configured_at turn) (if b then peer_after (window_by past) turn.moment (peer_task turn.event) turn.step (peer_by (config_by past) (own Peer past)) else peer_by (config_by past) (own Peer past))
  peer-more true mine =
      ap₂ with_slots config-more (slots-own boxes past turn does mine) ∙ peer-set (configured_at turn) (slots_after (window_by past) turn.moment (peer_task turn.event) turn.step (slots_by (window_by past) (own Peer past)))
  peer-more false other =
      ap₂ with_slots config-more (slots-other boxes past turn does other) ∙ peer-set (configured_at turn) (slots_by (window_by past) (own Peer past))

  module _ (member : ℕ) where
    abbrev mine : List Turn
    mine = own (Member member) past

    abbrev told : MemberHeld
    told = member_by (config_by past) mine

    abbrev acted : MemberHeld → MemberHeld
    acted m = member_after (config_by past) turn.moment (fresh_at turn) (member_task turn.event) turn.calls turn.step m

    -- what own turns tell of a member after the turn, whether or not it is one of them
    member-now : (b : Bool) → is_by (Member member) turn ≡ b → member_by (config_by (turn ∷ past)) (own (Member member) (turn ∷ past)) ≡ (if b then acted told else told)
    member-now true by =
        ap (λ config. member_by config (own (Member member) (turn ∷ past))) (own-config (Member member) past turn by)
        ∙ ap (λ b. member_by (config_by past) (if b then turn ∷ mine else mine)) by
        ∙ member_by-cons (config_by past) turn mine
    member-now false other =
        ap (λ b. member_by (config_by (turn ∷ past)) (if b then turn ∷ mine else mine)) other ∙ other-config member_by (Member member) boxes past turn does (λ c d. refl)

    members-more : (b : Bool) → (ends member turn.event turn.step.verdict || has_ended member past) ≡ b
        → member_unless b (member_by (config_by (turn ∷ past)) (own (Member member) (turn ∷ past)))
        ≡ member_unless b (if is_by (Member member) turn then acted (member_unless (has_ended member past) told) else member_unless (has_ended member past) told)
    members-more true ended = refl
    members-more false up = ap (member_unless false)
        (member-now (is_by (Member member) turn) refl
        ∙ ap (λ ended. if is_by (Member member) turn then acted (member_unless ended told) else member_unless ended told)
        (sym (or_parts (ends member turn.event turn.step.verdict) (has_ended member past) up).1))

  pub told-cons : told_state boxes (turn ∷ past) ≡ state_after turn.moment turn.event turn.calls turn.step (told_state boxes past)
  told-cons i = record {
    boxes = boxes;
    started = true;
    config = config-more i;
    joined = joined-more i;
    ended = λ member. has_ended member (turn ∷ past);
    datagrams = datagrams_of (turn ∷ past);
    peer = peer-more (is_by Peer turn) refl i;
    members = λ member. members-more member (ends member turn.event turn.step.verdict || has_ended member past) refl i;
  }

-- where each turn follows its rule, each end's own turns tell what it holds
pub states-explained : (boxes : ℕ) (past : List Turn) → Explained boxes past → state_by boxes past ≡ told_state boxes past
states-explained boxes [] local = refl
states-explained boxes (turn ∷ past) local =
    let before : state_by boxes past ≡ told_state boxes past = states-explained boxes past local.1 in
    let does : DoesTold boxes past turn = subst (λ state. Does state turn.moment turn.event turn.calls turn.step) before local.0.fits in
    ap (state_after turn.moment turn.event turn.calls turn.step) before ∙ sym (told-cons boxes past turn does)

-- where no answer was hidden besides, each turn follows its rule
pub local-explained : (boxes : ℕ) (past : List Turn) → Local boxes past → Explained boxes past
local-explained boxes [] local = tt
local-explained boxes (turn ∷ past) local = (record { fits = local.0.fits; answers = local.0.answers }, local-explained boxes past local.1)

pub states-told : (boxes : ℕ) (past : List Turn) → Local boxes past → state_by boxes past ≡ told_state boxes past
states-told boxes past local = states-explained boxes past (local-explained boxes past local)

-- and each turn is explained by what they tell
pub does-told : (boxes : ℕ) (past : List Turn) (turn : Turn) → IsByRule boxes past turn → Explained boxes past → DoesTold boxes past turn
does-told boxes past turn explained local = subst (λ state. Does state turn.moment turn.event turn.calls turn.step) (states-explained boxes past local) explained.fits

-- the associations that came to the peer differ
pub associations-apart : (boxes : ℕ) (past : List Turn) → Explained boxes past → AreDistinct (associations_by (own Peer past))
associations-apart boxes [] local = tt
associations-apart boxes (turn ∷ past) local = by_test (associations-apart boxes past local.1) (is_by Peer turn) refl
  where
    with_entered : AreDistinct (associations_by (own Peer past)) → (x : Option Record) → entered_in turn ≡ x → AreDistinct (associations_by (own Peer past) ++ option_to_list x)
    with_entered before None e = subst (λ list. AreDistinct list) (sym (append-nil (associations_by (own Peer past)))) before
    with_entered before (Some sa) e = apart-append (associations_by (own Peer past)) sa before
        (import-differs boxes past turn (does-told boxes past turn local.0 local.1) sa e)

    by_test : AreDistinct (associations_by (own Peer past)) → (b : Bool) → is_by Peer turn ≡ b → AreDistinct (associations_by (own Peer (turn ∷ past)))
    by_test before true t = subst (λ b. AreDistinct (associations_by (if b then turn ∷ own Peer past else own Peer past))) (sym t) (with_entered before (entered_in turn) refl)
    by_test before false t = subst (λ b. AreDistinct (associations_by (if b then turn ∷ own Peer past else own Peer past))) (sym t) before
