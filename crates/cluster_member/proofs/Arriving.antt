-- What arrives at a member, and what a message leaves that moves nothing.
use Rattle.std.proofs.Common.{◌≡◌, ◌≢◌, ℕ, ◌==◌, Bool, true, false, Option, Some, None, MatchOption, List, [], refl, ap, sym, ◌∙◌, if◌then◌else◌}
use Rattle.std.proofs.lemmas.Bool.{eq-eqb, ne_eqb}
use Rattle.std.proofs.lemmas.Option.{same_Some}
use Rattle.std.specs.Option.{option_map}
use Rattle.events.specs.declared.ike_outcomes.IkeDrop.{IkeDrop}
use Rattle.events.specs.declared.turn.Step.{Step}
use Rattle.events.specs.declared.verdict.Verdict.{Verdict}
use Rattle.events.specs.declared.verdict.Verdict.TheVariants as out
use Rattle.ha_base.specs.declared.counter_names.End.TheVariants as end
use Rattle.ike_sas.specs.Held.{IkeHeld, is_initiator}
use Rattle.request_exchange.specs.Given.{IsOfSync}
use Rattle.sk_payload.specs.declared.open.Opened.{Opened}
use Rattle.turn_rules.proofs.NoSynchronisation.{is_of_sync}
use Rattle.turn_rules.proofs.Readies.{none-vain}
use Rattle.turn_rules.proofs.Ties.{said-receiving, used-unsealed}
use Rattle.turn_rules.specs.Held.{Held, accepted, held_at}
use Rattle.turn_rules.specs.IkeState.{replied_in, taken_id}
use Rattle.turn_rules.specs.MemberMessages.{held_ike, of_spii}
use Rattle.turn_rules.specs.Steps.{Says}
use Rattle.turn_rules.specs.Tasks as task
use Rattle.cluster_member.proofs.Advancing.{received-no-message, unmoved}
use Rattle.cluster_member.proofs.Placed.{stays-held}
use Rattle.cluster_member.specs.Arriving.{ike_under}
use Rattle.cluster_member.specs.Members.{HoldsOn}

-- ---- what is found

test_of : (b : Bool) (held : Held) (ike : IkeHeld) → option_map held_ike (if b then Some held else None) ≡ Some ike
    → ((if b then Some held else None) ≡ Some held) × (held_ike held ≡ ike)
test_of true held ike is = (refl, same_Some (held_ike held) ike is)
test_of false held ike is = absurd (cc)

-- what is found of messages is what is held of the association
pub found-there : (held_by : ℕ → Option Held) (spii spir : ℕ) (held : Held) (ike : IkeHeld) → held_by spir ≡ Some held
    → ike_under held_by spii spir ≡ Some ike → (of_spii spii (held_by spir) ≡ Some held) × (held_ike held ≡ ike)
found-there held_by spii spir held ike is found =
    let here = test_of (held.sa.spii == spii) held ike (ap (λ x. option_map held_ike (of_spii spii x)) (sym is) ∙ found) in
    (ap (of_spii spii) is ∙ here.0, here.1)

-- a message belongs where something is held
pub nothing-there : {X : Type 0} (held_by : ℕ → Option Held) (spii spir : ℕ) (ike : IkeHeld) → held_by spir ≡ None → ike_under held_by spii spir ≡ Some ike → X
nothing-there held_by spii spir ike none found =
    let no : ike_under held_by spii spir ≡ None = ap (λ x. option_map held_ike (of_spii spii x)) none in absurd (cc)

-- ---- no member is asked to synchronise

cluster_end : (held_by : ℕ → Option Held) (spii spir : ℕ) (ike : IkeHeld) → ike_under held_by spii spir ≡ Some ike → ike.keys.end ≡ end.Cluster
cluster_end held_by spii spir ike found = go (held_by spir) found
  where
    go : (x : Option Held) → option_map held_ike (of_spii spii x) ≡ Some ike → ike.keys.end ≡ end.Cluster
    go None found = absurd (cc)
    go (Some held) found = ap (λ (k : IkeHeld). k.keys.end) (sym (test_of (held.sa.spii == spii) held ike found).1)

pub none-synchronise : (held_by : ℕ → Option Held) (request : Opened) → IsOfSync (ike_under held_by) true request → ⊥
none-synchronise held_by request of =
    let member : is_initiator of.held.keys.end ≡ false = ap is_initiator (cluster_end held_by request.header.spii request.header.spir of.held of.found) in
    let initiator : is_initiator of.held.keys.end ≡ true = of.there in
    absurd (cc)

-- ---- what moves nothing

-- a message by which nothing was sealed, answered or ended leaves what is held
pub unmoved-holds : (step : Step) (verdict : Verdict) (held : List Held) → step.seals ≡ [] → step.verdict ≡ verdict
    → ((spir : ℕ) → accepted spir verdict ≡ None) → ((spir : ℕ) → replied_in spir task.Receive verdict ≡ None)
    → ((spir : ℕ) → taken_id spir verdict ≡ None) → is_of_sync verdict ≡ false → HoldsOn task.Receive [] step held held
unmoved-holds step verdict held sealed said unaccepted unreplied untaken plain size s =
    sym (stays-held size task.Receive [] step s refl
    (unmoved task.Receive [] step (none-vain [] refl) (λ spir c. used-unsealed end.Cluster spir c task.Receive step sealed (said-receiving spir c step.verdict))
    (λ spir. ap (accepted spir) said ∙ unaccepted spir) (received-no-message step verdict said unreplied untaken plain) s) (held_at held s))

-- what is found of messages by the place where an association is held
pub find-there : {X : Type 0} (ike_of : X → IkeHeld) (held_by : ℕ → Option Held) (spii spir : ℕ) (held : Held) → held_by spir ≡ Some held → (result : Option X)
    → MatchOption result (held.sa.spii ≢ spii) (λ x. (held.sa.spii ≡ spii) × (ike_of x ≡ held_ike held))
    → MatchOption result (ike_under held_by spii spir ≡ None) (λ x. ike_under held_by spii spir ≡ Some (ike_of x))
find-there ike_of held_by spii spir held is None differs =
    ap (λ x. option_map held_ike (of_spii spii x)) is ∙ ap (λ b. option_map held_ike (if b then Some held else None)) (ne_eqb held.sa.spii spii differs)
find-there ike_of held_by spii spir held is (Some x) same =
    ap (λ x. option_map held_ike (of_spii spii x)) is ∙ ap (λ b. option_map held_ike (if b then Some held else None))
    (eq-eqb held.sa.spii spii same.0) ∙ ap Some (sym same.1)

pub drop-holds : (step : Step) (why : IkeDrop) (held : List Held) → Says (out.DroppedIke why) step → HoldsOn task.Receive [] step held held
drop-holds step why held says = unmoved-holds step (out.DroppedIke why) held says.quiet.seals says.said (λ s. refl) (λ s. refl) (λ s. refl) refl
