-- What covers make of the highs, and what the turn of a message makes of what is held.
use Rattle.std.proofs.Common.{◌≡◌, ℕ, ◌==◌, max, false, Option, Some, None, List, [], ◌∷◌, ◌++◌, refl, ap, sym, ◌∙◌}
use Rattle.std.proofs.lemmas.List.Elements.{filter_map-append}
use Rattle.events.specs.declared.turn.Step.{Step}
use Rattle.ha_base.specs.declared.counter_names.End.TheVariants as end
use Rattle.keeper_book.specs.Counters.{five_at, with_five}
use Rattle.keeper_book.specs.Told.{seen}
use Rattle.keeper_book.specs.declared.calls.Call.{Call}
use Rattle.keeper_book.specs.declared.counters.Counter.{Counter}
use Rattle.keeper_book.specs.declared.counters.Five.{Five}
use Rattle.keeper_book.specs.declared.records.Taken.{Taken}
use Rattle.turn_rules.proofs.NoSynchronisation.{is_of_sync}
use Rattle.turn_rules.proofs.Readies.{AreCovers, AreVain}
use Rattle.turn_rules.proofs.Ties.{five_at-five_of, greatest-max}
use Rattle.turn_rules.specs.Held.{Held, advanced, after_number, after_received, covered, covers_in, first_some, five_of, grant_in, granted, greatest, received_in, used_in}
use Rattle.turn_rules.specs.IkeState.{outstanding_after, replied_in, request_in, response_in, with_taken}
use Rattle.turn_rules.specs.Tasks.{Task}
use Rattle.cluster_member.proofs.Plain.{plain-advanced}
use Rattle.cluster_member.specs.Advances.{Advances}

-- calls that granted nothing, by which the highs of what is held became these, and that covered nothing else
pub record AreCoversTo (held : Held) (calls : List Call) (highs : Five) : Type 0 where
  pub no_grant : (spir : ℕ) → grant_in spir calls ≡ None
  pub elsewhere : (spir : ℕ) → (held.sa.spir == spir) ≡ false → (c : Counter) → covers_in spir c calls ≡ []
  pub here : five_of (λ c. greatest (five_at held.highs c) (covers_in held.sa.spir c calls)) ≡ highs

pub vain-covers : (held : Held) (calls : List Call) → AreVain calls → AreCoversTo held calls held.highs
vain-covers held calls vain = record {
  no_grant = vain.no_grant;
  elsewhere = λ spir other. vain.no_cover spir;
  here = λ i. five_of (λ c. greatest (five_at held.highs c) (vain.no_cover held.sa.spir c i));
}

pub one-covers : (held : Held) (c : Counter) (high : ℕ) (calls : List Call) → AreCovers held c calls high → AreCoversTo held calls (with_five c high held.highs)
one-covers held c high calls covers = record { no_grant = covers.no_grant; elsewhere = covers.elsewhere; here = covers.here }

greatest-then : (least : ℕ) (xs ys : List ℕ) → greatest least (xs ++ ys) ≡ greatest (greatest least xs) ys
greatest-then least [] ys = refl
greatest-then least (x ∷ xs) ys = ap (max x) (greatest-then least xs ys) ∙ sym (greatest-max x (greatest least xs) ys)

grant-then : (spir : ℕ) (xs ys : List Call) → grant_in spir xs ≡ None → grant_in spir ys ≡ None → grant_in spir (xs ++ ys) ≡ None
grant-then spir [] ys first second = second
grant-then spir (x ∷ xs) ys first second = go (λ none. grant-then spir xs ys none second) (granted spir x.asked (seen x)) first
  where
    go : (grant_in spir xs ≡ None → grant_in spir (xs ++ ys) ≡ None) → (g : Option Taken) → first_some g (grant_in spir xs) ≡ None
        → first_some g (grant_in spir (xs ++ ys)) ≡ None
    go later None first = later first
    go later (Some taken) first = absurd (cc)

abbrev covers_by : ℕ → Counter → Call → Option ℕ
covers_by spir c call = covered spir c call.asked (seen call)

-- calls after calls
module _ (held : Held) (xs ys : List Call) (mid : Five) (first : AreCoversTo held xs mid) where
  elsewhere-then : (spir : ℕ) → (held.sa.spir == spir) ≡ false → (c : Counter) → covers_in spir c (xs ++ ys) ≡ covers_in spir c ys
  elsewhere-then spir other c = filter_map-append (covers_by spir c) xs ys ∙ ap (λ ns. ns ++ covers_in spir c ys) (first.elsewhere spir other c)

  here-then : (c : Counter) → greatest (five_at held.highs c) (covers_in held.sa.spir c (xs ++ ys)) ≡ greatest (five_at mid c) (covers_in held.sa.spir c ys)
  here-then c =
      ap (greatest (five_at held.highs c)) (filter_map-append (covers_by held.sa.spir c) xs ys)
      ∙ greatest-then (five_at held.highs c) (covers_in held.sa.spir c xs) (covers_in held.sa.spir c ys)
      ∙ ap (λ least. greatest least (covers_in held.sa.spir c ys))
      (sym (five_at-five_of (λ d. greatest (five_at held.highs d) (covers_in held.sa.spir d xs)) c) ∙ ap (λ f. five_at f c) first.here)

  pub then-covers : (highs : Five) → AreCoversTo (record held { highs = mid }) ys highs → AreCoversTo held (xs ++ ys) highs
  then-covers highs second = record {
    no_grant = λ spir. grant-then spir xs ys (first.no_grant spir) (second.no_grant spir);
    elsewhere = λ spir other c. elsewhere-then spir other c ∙ second.elsewhere spir other c;
    here = (λ i. five_of (λ c. here-then c i)) ∙ second.here;
  }

  -- what a task makes of what is held behind calls that covered it
  pub then-advances : (asked : Task) (step : Step) (new : Held) → Advances (record held { highs = mid }) asked ys step new
      → Advances held asked (xs ++ ys) step new
  then-advances asked step new second = record {
    no_grant = λ spir. grant-then spir xs ys (first.no_grant spir) (second.no_grant spir);
    now = second.now ∙ sym (λ i. record (advanced held.sa.spir asked ys step held) { highs = five_of (λ c. here-then c i) });
    elsewhere = λ spir other there.
        (λ i. record (advanced spir asked ys step there) { highs = five_of (λ c. greatest (five_at there.highs c) (elsewhere-then spir other c i)) })
        ∙ second.elsewhere spir other there;
  }

-- a turn that is of one association, and none of a synchronisation: it used no number, received no packet, and sent, ended and answered no request of another one
pub record IsOf (mine : ℕ) (asked : Task) (step : Step) : Type 0 where
  pub plain : is_of_sync step.verdict ≡ false
  pub unused : (spir : ℕ) → (mine == spir) ≡ false → (c : Counter) → used_in end.Cluster spir c asked step ≡ None
  pub unreceived : (spir : ℕ) → received_in spir asked step.verdict ≡ None
  pub unsent : (spir : ℕ) → (mine == spir) ≡ false → request_in spir asked step ≡ None
  pub unreplied : (spir : ℕ) → (mine == spir) ≡ false → replied_in spir asked step.verdict ≡ None
  pub unanswered : (spir : ℕ) → (mine == spir) ≡ false → response_in spir asked step ≡ None

-- its association is held with the numbers and highs that it makes, and with the requests that it sent, ended and answered
pub message-advances : (held now : Held) (asked : Task) (calls : List Call) (step : Step) (highs : Five) → AreCoversTo held calls highs
    → IsOf held.sa.spir asked step
    → now ≡ record held {
      nexts = five_of (λ c. after_number (used_in end.Cluster held.sa.spir c asked step) (five_at held.nexts c));
      highs = highs;
      asked = outstanding_after false (request_in held.sa.spir asked step) (replied_in held.sa.spir asked step.verdict) held.asked;
      answered = with_taken (response_in held.sa.spir asked step) held.answered;
    } → Advances held asked calls step now
message-advances held now asked calls step highs covers of same = record {
  no_grant = covers.no_grant;
  now = same ∙ sym (plain-advanced held.sa.spir asked calls step held of.plain ∙ (λ i. record held {
    nexts = five_of (λ c. after_number (used_in end.Cluster held.sa.spir c asked step) (five_at held.nexts c));
    highs = covers.here i;
    window = after_received (of.unreceived held.sa.spir i) held.window;
    asked = outstanding_after false (request_in held.sa.spir asked step) (replied_in held.sa.spir asked step.verdict) held.asked;
    answered = with_taken (response_in held.sa.spir asked step) held.answered;
  }));
  elsewhere = λ spir other there. plain-advanced spir asked calls step there of.plain ∙ (λ i. record there {
    nexts = five_of (λ c. after_number (of.unused spir other c i) (five_at there.nexts c));
    highs = five_of (λ c. greatest (five_at there.highs c) (covers.elsewhere spir other c i));
    window = after_received (of.unreceived spir i) there.window;
    asked = outstanding_after false (of.unsent spir other i) (of.unreplied spir other i) there.asked;
    answered = with_taken (of.unanswered spir other i) there.answered;
  });
}
