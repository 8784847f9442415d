-- What a world knows of its services before and after a turn.
use Rattle.std.proofs.Common.{◌≡◌, ℕ, zero, suc, ◌+◌, ◌==◌, ◌<◌, ◌≤◌, Bool, true, false, Option, Some, None, IsSome, Result, Ok, Err, OnOk, OnErr, List, [], ◌∷◌, map, length, refl, ap, sym, ◌∙◌, subst, arith, if◌then◌else◌}
use Rattle.std.proofs.Math.ListN.{get_or, set}
use Rattle.std.proofs.lemmas.List.{get_or-set_other, get_or-set_same, get_or_default, set-get_or}
use Rattle.std.proofs.lemmas.Bool.{eq-eqb, eqb-false, eqb-true}
use Rattle.std.specs.Prelude.{Vec, is_some, slice_get}
use Rattle.std.specs.List.{AllByRecursion}
use Rattle.std.proofs.lemmas.Option.{same_Some}
use Rattle.std.specs.Vec.{with_item}
use Rattle.std_alloc.specs.formers.vec.Vec.{holding_along}
use Rattle.events.specs.declared.event.Event.{Event}
use Rattle.events.specs.declared.turn.Served.{Served}
use Rattle.events.specs.declared.turn.Turn.{Turn}
use Rattle.ha_base.specs.Services.{ReplyRelation}
use Rattle.ha_base.specs.declared.outside.Moment.{Moment}
use Rattle.ha_base.specs.declared.services.TheConstants.{MOST_REQUESTS}
use Rattle.replay_world.specs.Crashes.{ended_last, services_after}
use Rattle.replay_world.specs.Worlds.{IsServicePlace, ServeNewest, ServesOn, lent_for}
use Rattle.run_ends.specs.Runs.{Grows, Run, served_last}
use Rattle.turn_laws.proofs.ServeRuns.{serve-begun, serve-turn}
use Rattle.turn_laws.proofs.ServeTurns.{have-served, keeps-services}
use Rattle.turn_laws.specs.Serving.{KeepServices, LentFor, ServeRun, ServesThere, box_of, end_named, ends_in, member_box}
use Rattle.turn_rules.proofs.StateLaws.{local-explained}
use Rattle.turn_rules.specs.Fits.{named_in}
use Rattle.turn_rules.specs.Local.{Explained, Local}
use Rattle.turn_rules.specs.Services.{AreGiven, Serves, service_of}
use Rattle.turn_rules.specs.States.{ended_in, ends, is_number, joins}
use Rattle.turn_rules.specs.Ends.{Member, Peer, Performer, is_performer}

-- a service of a run has room for one more request
pub has-room : {B : Type 0} (count : B → ℕ) (places : ℕ) (past : List Turn) (boxes : Performer → Option B) → KeepServices count places past boxes → length past < MOST_REQUESTS
    → (end : Performer) (box : B) → boxes end ≡ Some box → count box < MOST_REQUESTS
has-room count places past boxes kept few end box is = let low : count box ≤ length past = kept.few end box is in omega (arith, low, few)

-- a list with an item put back
put-back : {X : Type 0} (xs : List X) (place : ℕ) (x : X) → x ≡ get_or xs place x → set xs place x ≡ xs
put-back xs place x at = ap (set xs place) at ∙ set-get_or xs place x

pub same-vec : {X Z : Type 0} (v : Vec X Z) (place : ℕ) (x : X) → x ≡ get_or v.items place x → with_item v place x ≡ v
same-vec v place x at = holding_along v (set v.items place x) v.items (put-back v.items place x at) (with_item v place x).ok v.ok

-- a world that is as it was keeps its services
pub keeps-same : {W B : Type 0} (count : B → ℕ) (places : W → ℕ) (past : W → List Turn) (boxes : W → Performer → Option B) (old new : W) → new ≡ old → KeepServices count (places old) (past old) (boxes old) → KeepServices count (places new) (past new) (boxes new)
keeps-same count places past boxes old new same kept = subst (λ w. KeepServices count (places w) (past w) (boxes w)) (sym same) kept

-- and goes on as it did
pub serves-same : {W B : Type 0} (count : B → ℕ) (gives : B → ReplyRelation) (handed : Performer → Option B) (past : W → List Turn) (boxes : W → Performer → Option B) (old new : W) → new ≡ old → ServeRun count gives handed (past old) (boxes old) → ServeRun count gives handed (past new) (boxes new)
serves-same count gives handed past boxes old new same run = subst (λ w. ServeRun count gives handed (past w) (boxes w)) (sym same) run

pub keeps-past : {B : Type 0} (count : B → ℕ) (places : ℕ) (boxes : Performer → Option B) (before past : List Turn) → before ≡ past → KeepServices count places before boxes → KeepServices count places past boxes
keeps-past count places boxes before past same kept = subst (λ p. KeepServices count places p boxes) same kept

pub serves-past : {B : Type 0} (count : B → ℕ) (gives : B → ReplyRelation) (before start : List Turn) (old : Performer → Option B) (past : List Turn) (new : Performer → Option B) → before ≡ start → ServesOn count gives before old past new → ServesOn count gives start old past new
serves-past count gives before start old past new same on = subst (λ b. ServesOn count gives b old past new) same on

pub always-ok : {T E A : Type 0} (r : Result T E) → A → OnOk r A
always-ok (Ok x) a = a
always-ok (Err e) a = tt

pub on-err : {T E A B C : Type 0} (r : Result T E) → OnErr r A → OnErr r B → (A → B → C) → OnErr r C
on-err (Ok x) a b f = tt
on-err (Err e) a b f = f a b

pub on-ok : {T E A C : Type 0} (r : Result T E) → OnOk r A → (A → C) → OnOk r C
on-ok (Ok x) a f = f a
on-ok (Err e) a f = tt

module _ {B : Type 0} (peer : B) (services : List (Option B)) where
  -- the service of a member that stands at its place
  pub box-at : (place : ℕ) (x : Option B) → place < length services → x ≡ get_or services place x → box_of peer services (Member (suc place)) ≡ x
  box-at place x within at = get_or_default services place None x within ∙ sym at

  pub lent-there : (named : Option ℕ) (place : ℕ) → IsServicePlace services named place → lent_for (box_of peer services) named ≡ Member (suc place)
  lent-there named place is =
      let number : named ≡ Some (suc place) = (is.named ∙ ap Some (let e : place + 1 ≡ suc place = omega arith in e)) in
      let there : is_some (box_of peer services (Member (suc place))) ≡ true = is.there in
      rw (number, there) refl

  member-other : (place number : ℕ) (x : Option B) → (number ≡ suc place → ⊥) → member_box (set services place x) number ≡ member_box services number
  member-other place zero x other = refl
  member-other place (suc n) x other = get_or-set_other services place n x None (λ same. other (ap suc same))

  none-set : (xs : List (Option B)) (place : ℕ) → get_or (set xs place None) place None ≡ None
  none-set [] place = refl
  none-set (x ∷ xs) zero = refl
  none-set (x ∷ xs) (suc place) = none-set xs place

  -- what was lent of a member is put back at its place
  pub lent-member : (count : B → ℕ) (last : B → Option (List ℕ)) (gives : B → ReplyRelation) (place : ℕ) (was now : B) (served : Option Served) (lent : Performer) → lent ≡ Member (suc place) → place < length services → get_or services place None ≡ Some was
      → Serves count last gives was served now → LentFor count last gives lent served (box_of peer services) (box_of peer (set services place (Some now)))
  lent-member count last gives place was now served lent is within at serves = subst (λ k. LentFor count last gives k served (box_of peer services) (box_of peer (set services place (Some now)))) (sym is) (record {
    serves = subst (λ x. ServesThere count last gives x served (get_or (set services place (Some now)) place None)) (sym at)
        (subst (λ y. ServesThere count last gives (Some was) served y) (sym (get_or-set_same services place (Some now) None within)) serves);
    others = others;
  })
    where
      others : (end : Performer) → is_performer end (Member (suc place)) ≡ false → box_of peer (set services place (Some now)) end ≡ box_of peer services end
      others Peer apart = refl
      others (Member number) apart = member-other place number (Some now) (λ same. absurd (let yes : is_performer (Member number) (Member (suc place)) ≡ true = eq-eqb number (suc place) same in let no : true ≡ false = sym yes ∙ apart in cc))

  -- the services that are left after a turn
  pub dropped : (past : List Turn) (turn : Turn) (end : Performer) → box_of peer (services_after (ended_last (turn ∷ past)) services) end ≡ (if ends_in end turn then None else box_of peer services end)
  dropped past turn Peer = refl
  dropped past turn (Member zero) = go (ends zero turn.event turn.step.verdict)
    where
      go : (b : Bool) → ◌≡◌ {A = Option B} None (if b then None else None)
      go true = refl
      go false = refl
  dropped past turn (Member (suc place)) = go (ended_in turn)
    where
      apart : (other : ℕ) (b : Bool) → (other == suc place) ≡ b → member_box (services_after (Some other) services) (suc place) ≡ (if b then None else get_or services place None)
      apart zero true e = absurd (let same : zero ≡ suc place = eqb-true zero (suc place) e in cc)
      apart zero false e = refl
      apart (suc other) true e = let same : suc other ≡ suc place = eqb-true (suc other) (suc place) e in ap (λ k. get_or (set services k None) place None) (let it : other ≡ place = omega (arith, same) in it) ∙ none-set services place
      apart (suc other) false e = get_or-set_other services other place None None (λ same. eqb-false (suc other) (suc place) e (ap suc (sym same)))

      go : (x : Option ℕ) → member_box (services_after x services) (suc place) ≡ (if is_number (suc place) x then None else get_or services place None)
      go None = refl
      go (Some other) = apart other (other == suc place) refl

-- the services that the drop left
pub left-of : {B : Type 0} (peer : B) (services now : List (Option B)) (newest : List Turn) (ended : Option ℕ) → ended ≡ ended_last newest → now ≡ services_after ended services
    → (turn : Turn) (past : List Turn) → newest ≡ turn ∷ past → (end : Performer) → box_of peer now end ≡ (if ends_in end turn then None else box_of peer services end)
left-of peer services now newest ended is drop turn past more end =
    ap (λ l. box_of peer l end) (drop ∙ ap (λ x. services_after x services) (is ∙ ap ended_last more)) ∙ dropped peer services past turn end

module _ {B : Type 0} (count : B → ℕ) (last : B → Option (List ℕ)) (gives : B → ReplyRelation) (old new : Run) (now : Moment) (event : Event) (grows : Grows old now event new) (local : Local new.boxes new.past)
    (before acted after : Performer → Option B) (kept : KeepServices count old.boxes old.past before)
    (lending : LentFor count last gives (lent_for before (named_in event)) (served_last new.past) before acted)
    (left : (turn : Turn) (past : List Turn) → new.past ≡ turn ∷ past → (end : Performer) → after end ≡ (if ends_in end turn then None else acted end)) (joined : joins new.past ≤ new.boxes) where
  abbrev turn : Turn
  turn = grows.turn

  explained : Explained old.boxes (turn ∷ old.past)
  explained = subst (λ p. Explained old.boxes p) grows.more (subst (λ n. Explained n new.past) grows.boxes (local-explained new.boxes new.past local))

  lent-turn : LentFor count last gives (lent_for before (named_in turn.event)) turn.step.served before acted
  lent-turn = subst (λ p. LentFor count last gives (lent_for before (named_in turn.event)) (served_last p) before acted) grows.more
      (subst (λ e. LentFor count last gives (lent_for before (named_in e)) (served_last new.past) before acted) (sym grows.of_event) lending)

  meant : IsSome (before (end_named (named_in turn.event))) → lent_for before (named_in turn.event) ≡ end_named (named_in turn.event)
  meant some = rw some refl

  joined-turn : joins (turn ∷ old.past) ≤ old.boxes
  joined-turn = subst (λ n. joins (turn ∷ old.past) ≤ n) grows.boxes (subst (λ p. joins p ≤ new.boxes) grows.more joined)

  pub serve-newest : ServeNewest count last gives new.past before after
  serve-newest = subst (λ p. ServeNewest count last gives p before after) (sym grows.more)
      (have-served count last gives old.boxes old.past turn before acted after old.boxes explained kept (lent_for before (named_in turn.event)) lent-turn meant (left turn old.past grows.more) joined-turn)

  pub keeps-on : KeepServices count new.boxes new.past after
  keeps-on = subst (λ p. KeepServices count new.boxes p after) (sym grows.more) (subst (λ n. KeepServices count n (turn ∷ old.past) after) (sym grows.boxes)
      (keeps-services count last gives old.boxes old.past turn before acted after old.boxes explained kept (lent_for before (named_in turn.event)) lent-turn meant (left turn old.past grows.more) joined-turn))

-- one more turn, whose services did what it says
pub serves-more : {B : Type 0} (count : B → ℕ) (last : B → Option (List ℕ)) (gives : B → ReplyRelation) (handed : Performer → Option B) (past newest : List Turn) (turn : Turn) (old new : Performer → Option B)
    → newest ≡ turn ∷ past → ServeNewest count last gives newest old new → ServeRun count gives handed past old → ServeRun count gives handed newest new
serves-more count last gives handed past newest turn old new more served run =
    subst (λ p. ServeRun count gives handed p new) (sym more) (serve-turn count last gives handed past turn old new (subst (λ p. ServeNewest count last gives p old new) more served) run)

-- services that were handed in and executed nothing
item-fresh : {B : Type 0} (count : B → ℕ) (services : List B) (place : ℕ) (box : B) → AllByRecursion (λ service. count service ≡ 0) services → get_or (map Some services) place None ≡ Some box → count box ≡ 0
item-fresh count [] place box fresh is = absurd (cc)
item-fresh count (x ∷ xs) zero box fresh is = ap count (sym (same_Some x box is)) ∙ fresh.0
item-fresh count (x ∷ xs) (suc place) box fresh is = item-fresh count xs place box fresh.1 is

item-there : {B : Type 0} (services : List B) (place : ℕ) → place < length services → IsSome (get_or (map Some services) place None)
item-there [] place within = absurd (omega arith)
item-there (x ∷ xs) zero within = refl
item-there (x ∷ xs) (suc place) within = item-there xs place (omega (arith, within))

item-handed : {B : Type 0} (services : List B) (place : ℕ) → get_or (map Some services) place None ≡ slice_get services place
item-handed [] place = refl
item-handed (x ∷ xs) zero = refl
item-handed (x ∷ xs) (suc place) = item-handed xs place

module _ {B : Type 0} (count : B → ℕ) (peer : B) (services : List B) (peer_fresh : count peer ≡ 0) (fresh : AllByRecursion (λ service. count service ≡ 0) services) where
  box-fresh : (end : Performer) (box : B) → box_of peer (map Some services) end ≡ Some box → count box ≡ 0
  box-fresh Peer box is = ap count (sym (same_Some peer box is)) ∙ peer_fresh
  box-fresh (Member zero) box is = absurd (cc)
  box-fresh (Member (suc place)) box is = item-fresh count services place box fresh is

  pub keep-begun : KeepServices count (length services) [] (box_of peer (map Some services))
  keep-begun = record {
    few = λ end box is. let none : count box ≡ 0 = box-fresh end box is in omega (arith, none);
    joined = omega arith;
    of_peer = refl;
    of_member = λ member from to up. there member from to;
  }
    where
      there : (member : ℕ) → 1 ≤ member → member ≤ length services → IsSome (box_of peer (map Some services) (Member member))
      there zero from to = absurd (omega (arith, from))
      there (suc place) from to = item-there services place (omega (arith, to))

  handed-same : (end : Performer) → box_of peer (map Some services) end ≡ service_of peer services end
  handed-same Peer = refl
  handed-same (Member zero) = refl
  handed-same (Member (suc place)) = item-handed services place

  -- what they executed over a run, they may give as they were handed in
  pub given-run : (gives : B → ReplyRelation) (past : List Turn) (now : Performer → Option B) → ServesOn count gives [] (box_of peer (map Some services)) past now → AreGiven gives (service_of peer services) past
  given-run gives past now on = (on (service_of peer services)
      (serve-begun count gives (service_of peer services) (box_of peer (map Some services)) handed-same box-fresh)).given

module _ {B : Type 0} (count : B → ℕ) (peer started : B) (services : List B) (kept : List (Option B)) (peer_is : started ≡ peer) (kept_are : kept ≡ map Some services) where
  -- a world that begins has its services
  pub begun-keeps : (places : ℕ) → places ≡ length services → count peer ≡ 0 → AllByRecursion (λ service. count service ≡ 0) services → KeepServices count places [] (box_of started kept)
  begun-keeps places many peer_fresh fresh = subst (λ n. KeepServices count n [] (box_of started kept)) (sym many)
      (subst (λ p. KeepServices count (length services) [] (box_of p kept)) (sym peer_is) (subst (λ k. KeepServices count (length services) [] (box_of peer k)) (sym kept_are) (keep-begun count peer services peer_fresh fresh)))

  pub begun-on : (gives : B → ReplyRelation) (past : List Turn) (now : Performer → Option B) → ServesOn count gives [] (box_of started kept) past now → ServesOn count gives [] (box_of peer (map Some services)) past now
  begun-on gives past now on = subst (λ k. ServesOn count gives [] (box_of peer k) past now) kept_are (subst (λ p. ServesOn count gives [] (box_of p kept) past now) peer_is on)
