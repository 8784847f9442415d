-- What one turn makes of the services of a run, one of which was lent to the end that acts.
use Rattle.std.proofs.Common.{◌≡◌, ℕ, suc, ◌+◌, ◌≤◌, Bool, true, false, Option, Some, None, IsSome, IsSomeAnd, List, ◌∷◌, length, refl, ap, sym, ◌∙◌, subst, arith, if◌then◌else◌}
use Rattle.std.specs.Prelude.{is_some}
use Rattle.std.proofs.lemmas.Bool.{or_parts}
use Rattle.events.specs.declared.turn.Served.{Served}
use Rattle.events.specs.declared.turn.Turn.{Turn}
use Rattle.ha_base.specs.Services.{ReplyRelation}
use Rattle.turn_laws.proofs.Holdings.{is_performer-true}
use Rattle.turn_laws.proofs.Serving.{serves-named}
use Rattle.turn_laws.specs.Serving.{GoesOn, HaveServed, KeepServices, LentFor, ServesNamed, ServesThere, end_named, ends_in, served_for}
use Rattle.turn_rules.specs.Ends.{Member, Peer, Performer, is_by, is_end, is_performer}
use Rattle.turn_rules.specs.Fits.{named_in}
use Rattle.turn_rules.specs.Genuine.{IsUp}
use Rattle.turn_rules.specs.Local.{Explained}
use Rattle.turn_rules.specs.States.{ended_in, ends, has_ended, is_number, joins}

module _ {B : Type 0} (count : B → ℕ) (last : B → Option (List ℕ)) (gives : B → ReplyRelation) (places : ℕ) (past : List Turn) (turn : Turn) (old acted new : Performer → Option B) where
  abbrev There : Option B → Option Served → Option B → Type 0
  There was served now = ServesThere count last gives was served now

  stays-there : (was : Option B) → There was None was
  stays-there None = refl
  stays-there (Some was) = refl

  idle-there : (was now : Option B) → There was None now → now ≡ was
  idle-there None now there = there
  idle-there (Some was) None there = absurd there
  idle-there (Some was) (Some now) there = ap Some there

  there-some : (was : Option B) (served : Option Served) (now : Option B) → There was served now → IsSome was → IsSome now
  there-some None served now there some = absurd (cc)
  there-some (Some was) served None there some = absurd there
  there-some (Some was) served (Some now) there some = refl

  there-few : (was : Option B) (served : Option Served) (now : Option B) (box : B) → There was served now → now ≡ Some box → ((before : B) → was ≡ Some before → count before ≤ length past) → count box ≤ suc (length past)
  there-few None served now box there is few = absurd (let no : None ≡ Some box = sym there ∙ is in cc)
  there-few (Some was) served None box there is few = absurd there
  there-few (Some was) None (Some now) box there is few =
      let low : count was ≤ length past = few was refl in
      let same : count box ≡ count was = ap count (sym (let e : now ≡ box = cc in e) ∙ there) in
      omega (arith, low, same)
  there-few (Some was) (Some served) (Some now) box there is few =
      let low : count was ≤ length past = few was refl in
      let more : count now ≡ count was + 1 = there.counted in
      let same : count box ≡ count now = ap count (sym (let e : now ≡ box = cc in e)) in
      omega (arith, low, more, same)

  module _ (boxes : ℕ) (local : Explained boxes (turn ∷ past)) (kept : KeepServices count places past old) (lent : Performer) (lending : LentFor count last gives lent turn.step.served old acted)
      (meant : IsSome (old (end_named (named_in turn.event))) → lent ≡ end_named (named_in turn.event))
      (dropped : (end : Performer) → new end ≡ (if ends_in end turn then None else acted end)) (joined : joins (turn ∷ past) ≤ places) where
    up-there : (end : Performer) → IsUp past end → IsSome (old end)
    up-there Peer up = kept.of_peer
    up-there (Member member) up = let few : _ = up.1 in let known : _ = kept.joined in kept.of_member member up.0 (omega (arith, few, known)) up.2

    acts : IsSome turn.step.served → ServesNamed past turn
    acts some = serves-named boxes past turn local some

    lent-is : (named : ServesNamed past turn) → lent ≡ end_named (named_in turn.event)
    lent-is named = meant (up-there (end_named (named_in turn.event)) named.up)

    no-end : (end : Performer) → ended_in turn ≡ None → ends_in end turn ≡ false
    no-end Peer none = refl
    no-end (Member member) none = ap (is_number member) none

    -- what an end's service executed, before one that ended was dropped
    acts-there : (end : Performer) → (x : Option Served) → turn.step.served ≡ x → There (old end) (served_for end turn) (acted end)
    acts-there end None none =
        let idle : acted lent ≡ old lent = idle-there (old lent) (acted lent) (subst (λ x. There (old lent) x (acted lent)) none lending.serves) in
        let all : acted end ≡ old end = by_lent (is_performer end lent) refl idle in
        let nothing : served_for end turn ≡ None = for_none (is_by end turn) refl in
        subst (λ x. There (old end) x (acted end)) (sym nothing) (subst (λ y. There (old end) None y) (sym all) (stays-there (old end)))
      where
        by_lent : (b : Bool) → is_performer end lent ≡ b → acted lent ≡ old lent → acted end ≡ old end
        by_lent true e idle = let same : end ≡ lent = is_performer-true end lent e in ap acted same ∙ idle ∙ ap old (sym same)
        by_lent false e idle = lending.others end e

        for_none : (b : Bool) → is_by end turn ≡ b → served_for end turn ≡ None
        for_none true by = rw (by, none) refl
        for_none false by = rw by refl
    acts-there end (Some served) some = by_end (is_performer end lent) refl
      where
        named : ServesNamed past turn
        named = acts (ap is_some some)

        by_is : (b : Bool) → is_performer end lent ≡ b → is_by end turn ≡ b
        by_is b e = ap (is_end end) named.by ∙ ap (is_performer end) (sym (lent-is named)) ∙ e

        by_end : (b : Bool) → is_performer end lent ≡ b → There (old end) (served_for end turn) (acted end)
        by_end true e =
            let same : end ≡ lent = is_performer-true end lent e in
            let by : is_by end turn ≡ true = by_is true e in
            let it : served_for end turn ≡ turn.step.served = rw by refl in
            subst (λ x. There (old end) x (acted end)) (sym it) (subst (λ k. There (old k) turn.step.served (acted k)) (sym same) lending.serves)
        by_end false e =
            let by : is_by end turn ≡ false = by_is false e in
            let nothing : served_for end turn ≡ None = rw by refl in
            subst (λ x. There (old end) x (acted end)) (sym nothing) (subst (λ y. There (old end) None y) (sym (lending.others end e)) (stays-there (old end)))

    each-end : (end : Performer) → GoesOn count last gives (ends_in end turn) (old end) (served_for end turn) (new end)
    each-end end = go (ends_in end turn) refl
      where
        goes : (b : Bool) → ends_in end turn ≡ b → new end ≡ (if b then None else acted end)
        goes b e = dropped end ∙ ap (λ b. if b then None else acted end) e

        ended-idle : (x : Option Served) → turn.step.served ≡ x → ends_in end turn ≡ true → (b : Bool) → is_by end turn ≡ b → served_for end turn ≡ None
        ended-idle None none e true by = rw (by, none) refl
        ended-idle None none e false by = rw by refl
        ended-idle (Some served) some e b by = absurd (let no : true ≡ false = sym e ∙ no-end end (acts (ap is_some some)).stays in cc)

        go : (b : Bool) → ends_in end turn ≡ b → GoesOn count last gives b (old end) (served_for end turn) (new end)
        go true e = (ended-idle turn.step.served refl e (is_by end turn) refl, goes true e)
        go false e = subst (λ y. There (old end) (served_for end turn) y) (sym (goes false e)) (acts-there end turn.step.served refl)

    pub have-served : HaveServed count last gives turn old new
    have-served = record {
      each = each-end;
      there = λ some.
          let named = acts some in
          subst (λ x. IsSomeAnd x (λ end. IsSome (old end))) (sym named.by) (up-there (end_named (named_in turn.event)) named.up);
    }

    goes-few : (end : Performer) (box : B) → new end ≡ Some box → (b : Bool) → GoesOn count last gives b (old end) (served_for end turn) (new end) → count box ≤ suc (length past)
    goes-few end box is true goes = absurd (let no : None ≡ Some box = sym goes.1 ∙ is in cc)
    goes-few end box is false goes = there-few (old end) (served_for end turn) (new end) box goes is (kept.few end)

    goes-some : (end : Performer) → IsSome (old end) → ends_in end turn ≡ false → IsSome (new end)
    goes-some end some e = there-some (old end) (served_for end turn) (new end) (subst (λ b. GoesOn count last gives b (old end) (served_for end turn) (new end)) e (each-end end)) some

    pub keeps-services : KeepServices count places (turn ∷ past) new
    keeps-services = record {
      few = λ end box is. goes-few end box is (ends_in end turn) (each-end end);
      joined = joined;
      of_peer = goes-some Peer kept.of_peer refl;
      of_member = λ member from to up.
          let parts = or_parts (ends member turn.event turn.step.verdict) (has_ended member past) up in
          goes-some (Member member) (kept.of_member member from to parts.1) parts.0;
    }
