-- What the services of a run executed, they may give.
use Rattle.std.proofs.Common.{◌≡◌, ◌↔◌, ℕ, suc, ◌+◌, Bool, true, false, Option, Some, None, IsSome, IsSomeAnd, List, [], ◌∷◌, refl, ap, sym, ◌∙◌, subst, add-one}
use Rattle.std.specs.Prelude.{IfSome, is_some}
use Rattle.std.proofs.lemmas.Bool.{eq-eqb}
use Rattle.events.specs.declared.turn.Served.{Served}
use Rattle.events.specs.declared.turn.Turn.{Turn}
use Rattle.ha_base.specs.Services.{ReplyRelation}
use Rattle.turn_laws.specs.Serving.{GoesOn, HasServed, HaveServed, ServeRun, ServesThere, ends_in, served_for}
use Rattle.turn_rules.specs.Ends.{Member, Peer, Performer, is_by, is_end, is_performer, own, performer}
use Rattle.turn_rules.specs.Services.{AreGiven, Executes, IsGiven, Serves, services_executed}

-- how many were executed once these were
abbrev counted_on : Option Served → ℕ → ℕ
counted_on None n = n
counted_on (Some served) n = n + 1

executed-turn : (end : Performer) (turn : Turn) (past : List Turn) → services_executed (own end (turn ∷ past)) ≡ counted_on (served_for end turn) (services_executed (own end past))
executed-turn end turn past = go (is_by end turn) refl
  where
    served : (x : Option Served) → turn.step.served ≡ x → is_by end turn ≡ true → services_executed (own end (turn ∷ past)) ≡ counted_on x (services_executed (own end past))
    served None e by = rw (by, e) refl
    served (Some x) e by = let more : suc (services_executed (own end past)) ≡ services_executed (own end past) + 1 = sym (add-one (services_executed (own end past))) in rw (by, e) more

    go : (b : Bool) → is_by end turn ≡ b → services_executed (own end (turn ∷ past)) ≡ counted_on (served_for end turn) (services_executed (own end past))
    go true by = let same : turn.step.served ≡ served_for end turn = rw by refl in served turn.step.served refl by ∙ ap (λ x. counted_on x (services_executed (own end past))) same
    go false by = rw by refl

same-performer : (end : Performer) → is_performer end end ≡ true
same-performer Peer = refl
same-performer (Member n) = eq-eqb n n refl

module _ {B : Type 0} (count : B → ℕ) (last : B → Option (List ℕ)) (gives : B → ReplyRelation) (handed : Performer → Option B) (past : List Turn) (turn : Turn) (old new : Performer → Option B) (turned : HaveServed count last gives turn old new) (run : ServeRun count gives handed past old) where
  -- a service that executed what is said goes on as one that has served
  served-on : (given : B) (end : Performer) (was now : B) (x : Option Served) → served_for end turn ≡ x → HasServed count gives given (own end past) was → Serves count last gives was x now → HasServed count gives given (own end (turn ∷ past)) now
  served-on given end was now None none has same = record {
    counted = ap count same ∙ has.counted ∙ sym (executed-turn end turn past ∙ ap (λ x. counted_on x (services_executed (own end past))) none);
    same = λ n request reply. subst (λ b. gives b n request reply ↔ gives given n request reply) (sym same) (has.same n request reply);
  }
  served-on given end was now (Some x) some has executes = record {
    counted = executes.counted ∙ ap (λ n. n + 1) has.counted ∙ sym (executed-turn end turn past ∙ ap (λ x. counted_on x (services_executed (own end past))) some);
    same = λ n request reply. ((λ p. (has.same n request reply).0 ((executes.same n request reply).0 p)), (λ p. (executes.same n request reply).1 ((has.same n request reply).1 p)));
  }

  each-on : (end : Performer) (box : B) → new end ≡ Some box → IsSomeAnd (handed end) (λ given. HasServed count gives given (own end (turn ∷ past)) box)
  each-on end box is = by_end (ends_in end turn) (turned.each end)
    where
      there : (was after : Option B) → old end ≡ was → after ≡ Some box → ServesThere count last gives was (served_for end turn) after → IsSomeAnd (handed end) (λ given. HasServed count gives given (own end (turn ∷ past)) box)
      there None after e now none = absurd (let no : None ≡ Some box = sym none ∙ now in cc)
      there (Some was) None e now serves = absurd serves
      there (Some was) (Some box') e now serves =
          found (handed end) (run.each end was e)
        where
          found : (x : Option B) → IsSomeAnd x (λ given. HasServed count gives given (own end past) was) → IsSomeAnd x (λ given. HasServed count gives given (own end (turn ∷ past)) box)
          found None has = absurd has
          found (Some given) has = served-on given end was box (served_for end turn) refl has (subst (λ b. Serves count last gives was (served_for end turn) b) (cc) serves)

      by_end : (b : Bool) → GoesOn count last gives b (old end) (served_for end turn) (new end) → IsSomeAnd (handed end) (λ given. HasServed count gives given (own end (turn ∷ past)) box)
      by_end true goes = absurd (let no : None ≡ Some box = sym goes.1 ∙ is in cc)
      by_end false goes = there (old end) (new end) refl is goes

  -- the reply is one that the service may give, as it was handed in
  abbrev MayGive : Performer → Served → Type 0
  MayGive end served = IsSomeAnd (handed end) (λ box. gives box (services_executed (own end past) + 1) served.request.octets served.reply.octets)

  found-gives : (end : Performer) (served : Served) (was : B) → gives was (count was + 1) served.request.octets served.reply.octets
      → (x : Option B) → IsSomeAnd x (λ given. HasServed count gives given (own end past) was) → IsSomeAnd x (λ box. gives box (services_executed (own end past) + 1) served.request.octets served.reply.octets)
  found-gives end served was gave None has = absurd has
  found-gives end served was gave (Some given) has =
      (has.same (services_executed (own end past) + 1) served.request.octets served.reply.octets).0
      (subst (λ n. gives was (n + 1) served.request.octets served.reply.octets) has.counted gave)

  there-gives : (end : Performer) (served : Served) → served_for end turn ≡ Some served → (was after : Option B) → old end ≡ was → IsSome was → ServesThere count last gives was (served_for end turn) after → MayGive end served
  there-gives end served some None after e is serves = absurd (cc)
  there-gives end served some (Some was) None e is serves = absurd serves
  there-gives end served some (Some was) (Some now) e is serves =
      let executes : Executes count last gives was served now = subst (λ x. Serves count last gives was x now) some serves in
      found-gives end served was executes.given (handed end) (run.each end was e)

  end-gives : (end : Performer) (served : Served) → served_for end turn ≡ Some served → IsSome (old end) → (b : Bool) → GoesOn count last gives b (old end) (served_for end turn) (new end) → MayGive end served
  end-gives end served some is true goes = absurd (let no : Some served ≡ None = sym some ∙ goes.0 in cc)
  end-gives end served some is false goes = there-gives end served some (old end) (new end) refl is goes

  given-on : IsGiven gives handed past turn
  given-on = by_served turn.step.served refl
    where
      by_end : (served : Served) → turn.step.served ≡ Some served → (x : Option Performer) → performer turn ≡ x → IsSomeAnd x (λ end. IsSome (old end)) → IsSomeAnd x (λ end. MayGive end served)
      by_end served e None p is = absurd is
      by_end served e (Some end) p is =
          let by : is_by end turn ≡ true = ap (is_end end) p ∙ same-performer end in
          let some : served_for end turn ≡ Some served = rw (by, e) refl in
          end-gives end served some is (ends_in end turn) (turned.each end)

      by_served : (x : Option Served) → turn.step.served ≡ x → IfSome x (λ served. IsSomeAnd (performer turn) (λ end. MayGive end served))
      by_served None e = tt
      by_served (Some served) e = by_end served e (performer turn) refl (turned.there (ap is_some e))

  -- one turn more, whose services did what it says
  pub serve-turn : ServeRun count gives handed (turn ∷ past) new
  unfolding AreGiven
  serve-turn = record { each = each-on; given = (given-on, run.given) }

-- services that have executed nothing, and are those that were handed in
pub serve-begun : {B : Type 0} (count : B → ℕ) (gives : B → ReplyRelation) (handed boxes : Performer → Option B) → ((end : Performer) → boxes end ≡ handed end) → ((end : Performer) (box : B) → boxes end ≡ Some box → count box ≡ 0) → ServeRun count gives handed [] boxes
unfolding AreGiven
serve-begun count gives handed boxes same fresh = record {
  each = λ end box is. subst (λ x. IsSomeAnd x (λ given. HasServed count gives given [] box)) (sym (sym (same end) ∙ is))
      (record { counted = fresh end box is; same = λ n request reply. ((λ p. p), (λ p. p)) });
  given = tt;
}
