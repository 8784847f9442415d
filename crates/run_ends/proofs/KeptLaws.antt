-- After an event the ends hold what the turns make of it, and each turn is explained.
use Rattle.std.proofs.Common.{◌≡◌, ℕ, zero, suc, ◌≤◌, false, arith, List, [], ◌∷◌, ◌++◌, length, refl, ap, sym, ◌∙◌, subst}
use Rattle.std.specs.List.{AllByRecursion}
use Rattle.std.specs.Prelude.{is_none}
use Rattle.events.specs.Events.{plain}
use Rattle.events.specs.Ranges.{Fits}
use Rattle.events.specs.declared.turn.Turn.{Turn}
use Rattle.keeper_book.specs.Told.{AreAnswers}
use Rattle.turn_rules.specs.Configurations.{default_configuration, gateway_of}
use Rattle.turn_rules.specs.Datagrams.{PlainDatagram}
use Rattle.turn_rules.specs.Fits.{Does}
use Rattle.turn_rules.specs.Local.{AreShown, IsExplained, Local}
use Rattle.turn_rules.specs.PeerStates.{peer_begun}
use Rattle.turn_rules.specs.States.{RunState, state_after, state_by}
use Rattle.run_ends.proofs.Performing.{does-few}
use Rattle.run_ends.proofs.ShortKept.{StateKeepsShort, state-short}
use Rattle.run_ends.specs.Parties.{AreKept, EndsHeld, IsShort, Plays, holder_of, member_at, state_of}
use Rattle.turn_rules.specs.MemberStates.{no_member}

all-append : (xs ys : List PlainDatagram) → AllByRecursion IsShort xs → AllByRecursion IsShort ys → AllByRecursion IsShort (xs ++ ys)
all-append [] ys a b = b
all-append (x ∷ xs) ys a b = (a.0, all-append xs ys a.1 b)

-- so it is before the first turn
first-gone : (k : ℕ) → is_none (holder_of [] k) ≡ false
first-gone zero = refl
first-gone (suc k) = refl

first-member : (k : ℕ) → member_at [] k ≡ no_member
first-member zero = refl
first-member (suc k) = refl

pub kept-at_first : (boxes : ℕ) → AreKept [] (record { boxes = boxes; config = default_configuration; peer = peer_begun (gateway_of default_configuration); members = [] })
kept-at_first boxes = record {
  state = λ i. record {
    boxes = boxes;
    started = false;
    config = default_configuration;
    joined = 0;
    ended = λ k. first-gone k i;
    datagrams = [];
    peer = peer_begun (gateway_of default_configuration);
    members = λ k. first-member k i;
  };
  in_place = λ place holder l sits. absurd (omega (arith, l));
  short = tt;
  local = tt;
}

module _ (past : List Turn) (turn : Turn) (s new : EndsHeld) (k : AreKept past s) (fits : Fits (plain turn.event)) (shown : AreShown turn.calls) (answers : AreAnswers turn.calls) (p : Plays past s turn.moment turn.event turn.calls turn.step new) where
  keeps : StateKeepsShort (state_of past s)
  keeps = subst StateKeepsShort (sym k.state) (state-short s.boxes past k.short)

  pub few : length turn.calls ≤ 3
  few = (does-few (state_of past s) keeps turn.moment turn.calls turn.step turn.event fits p.does).0

  pub boxes-stay : new.boxes ≡ s.boxes
  boxes-stay = ap (λ (x : RunState). x.boxes) p.holds

  explained : IsExplained s.boxes past turn
  explained = record { fits = subst (λ state. Does state turn.moment turn.event turn.calls turn.step) k.state p.does; shown = shown; answers = answers }

  pub kept : AreKept (turn ∷ past) new
  kept = record {
    state = p.holds ∙ ap (state_after turn.moment turn.event turn.calls turn.step) k.state ∙ ap (λ boxes. state_by boxes (turn ∷ past)) (sym boxes-stay);
    in_place = p.in_place;
    short = all-append _ _ k.short (does-few (state_of past s) keeps turn.moment turn.calls turn.step turn.event fits p.does).1;
    local = subst (λ boxes. Local boxes (turn ∷ past)) (sym boxes-stay) (explained, k.local);
  }
