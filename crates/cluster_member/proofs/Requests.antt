-- What is held after a request was sent, or was refused behind calls that covered numbers.
use Rattle.std.proofs.Common.{◌≡◌, ℕ, ◌+◌, ◌≤◌, ◌==◌, max, Bool, true, false, Option, Some, None, List, [], refl, ap, sym, ◌∙◌, subst, arith, MatchBool, inl, inr, if◌then◌else◌}
use Rattle.std.proofs.lemmas.Bool.{eq-eqb}
use Rattle.events.specs.declared.turn.Step.{Step}
use Rattle.events.specs.declared.verdict.Refusal.{Refusal}
use Rattle.events.specs.declared.verdict.Refusal.TheVariants as refusal
use Rattle.events.specs.declared.verdict.Verdict.TheVariants as out
use Rattle.ha_base.specs.declared.counter_names.CounterName.{CounterName}
use Rattle.ha_base.specs.declared.counter_names.End.TheVariants as end
use Rattle.ike_window.specs.Asking.{FitsBeside, IsLeast}
use Rattle.ike_window.specs.Kept.{message_ids_of}
use Rattle.ike_window.specs.declared.TheConstants.{WINDOW}
use Rattle.keeper_book.specs.Counters.{five_at, with_five}
use Rattle.ike_values.specs.Values.{PayloadValue}
use Rattle.keeper_book.specs.declared.calls.Call.{Call}
use Rattle.keeper_book.specs.declared.counters.Counter.{Counter}
use Rattle.keeper_book.specs.declared.counters.Counter.TheVariants as counter
use Rattle.keeper_book.specs.declared.counters.Five.{Five}
use Rattle.turn_rules.proofs.NoSynchronisation.{is_of_sync}
use Rattle.turn_rules.proofs.Readies.{none-vain}
use Rattle.turn_rules.proofs.Ties.{received-refused, replied-refused, request-refused, response-refused, used-refused}
use Rattle.turn_rules.specs.Draws.{refusal_of_stop}
use Rattle.turn_rules.specs.Held.{Held, after_number, first_some, five_of, iv_in, received_in, said_in, used_in}
use Rattle.turn_rules.specs.CountersOf.{is_of_spir}
use Rattle.turn_rules.specs.IkeState.{with_taken, kept_under, outstanding_after, replied_in, request_in, request_sent, sealed_iv}
use Rattle.turn_rules.specs.MemberMessages.{HeldAsks, HeldSendsRequest, held_ike}
use Rattle.turn_rules.specs.Messages.{SendsRequest, Windowed}
use Rattle.turn_rules.specs.Steps.{RefusesThen, Says}
use Rattle.turn_rules.specs.Tasks as task
use Rattle.turn_rules.specs.Tasks.{Task}
use Rattle.cluster_member.proofs.Advancing.{refused-advances}
use Rattle.cluster_member.proofs.Covering.{AreCoversTo, message-advances}
use Rattle.cluster_member.proofs.UsingIv.{with-iv-elim, with-iv-rule}
use Rattle.cluster_member.proofs.Uses.{AsksNext, asked_below}
use Rattle.cluster_member.specs.Advances.{Advances}

first-only : (b : Bool) (n : ℕ) → first_some (if b then Some n else None) None ≡ (if b then Some n else None)
first-only true n = refl
first-only false n = refl

module _ (request : List PayloadValue) (calls : List Call) (step : Step) (held now : Held)
    (sends : SendsRequest (held_ike held) held.nexts.ask held.nexts.iv request step) where
  abbrev asked : Task
  asked = task.Ask held.sa.spir request

  -- the IV that was used is that of the association
  abbrev iv_under : ℕ → CounterName → ℕ → Option ℕ
  iv_under spir name iv = first_some (sealed_iv end.Cluster spir (record sends.sends.sent.seal { name = name; iv = iv }) name.kind) None

  uses-iv : (spir : ℕ) → iv_in end.Cluster spir step.seals ≡ (if held.sa.spir == spir then Some held.nexts.iv else None)
  uses-iv spir =
      ap (iv_in end.Cluster spir) sends.sends.seals
      ∙ (λ i. iv_under spir (sends.sends.sends.named i) (sends.sends.sends.iv_is i))
      ∙ ap (λ (x : Option ℕ). first_some (if is_of_spir spir x then Some held.nexts.iv else None) None) held.sa.origin_is_own
      ∙ first-only (held.sa.spir == spir) held.nexts.iv

  uses-id : (spir : ℕ) → said_in spir counter.Ask asked step.verdict ≡ (if held.sa.spir == spir then Some held.nexts.ask else None)
  uses-id spir = ap (said_in spir counter.Ask asked) sends.said

  keeps : (spir : ℕ) → request_in spir asked step ≡ (if held.sa.spir == spir then kept_under held.nexts.ask step.gives else None)
  keeps spir = ap (λ verdict. if held.sa.spir == spir then request_sent verdict step.gives else None) sends.said

  unused : (spir : ℕ) → (held.sa.spir == spir) ≡ false → (c : Counter) → used_in end.Cluster spir c asked step ≡ None
  unused spir other counter.EspOut = refl
  unused spir other counter.EspIn = refl
  unused spir other counter.Iv = uses-iv spir ∙ ap (λ b. if b then Some held.nexts.iv else None) other
  unused spir other counter.Ask = uses-id spir ∙ ap (λ b. if b then Some held.nexts.ask else None) other
  unused spir other counter.Answer = refl

  own : (held.sa.spir == held.sa.spir) ≡ true
  own = eq-eqb held.sa.spir held.sa.spir refl

  next_after : (x : Option ℕ) (n : ℕ) → x ≡ (if held.sa.spir == held.sa.spir then Some n else None) → after_number x n ≡ n + 1
  next_after x n used =
      let more : max (n + 1) n ≡ n + 1 = omega arith in
      ap (λ number. after_number number n) (used ∙ ap (λ b. if b then Some n else None) own) ∙ more

  -- the next Message ID and the next IV were used, and the request is outstanding
  pub request-advances : (high above : ℕ) → AreCoversTo held calls (with_five counter.Iv above (with_five counter.Ask high held.highs)) → now ≡ asked_below high above step held
      → Advances held asked calls step now
  request-advances high above covers same = message-advances held now asked calls step (with_five counter.Iv above (with_five counter.Ask high held.highs)) covers
      (record {
        plain = ap is_of_sync sends.said;
        unused = unused;
        unreceived = λ spir. refl;
        unsent = λ spir other. keeps spir ∙ ap (λ b. if b then kept_under held.nexts.ask step.gives else None) other;
        unreplied = λ spir other. refl;
        unanswered = λ spir other. refl;
      })
      (same ∙ sym (λ i. record held {
        nexts = record held.nexts {
          ask = next_after _ held.nexts.ask (uses-id held.sa.spir) i;
          iv = next_after _ held.nexts.iv (uses-iv held.sa.spir) i;
        };
        highs = record held.highs { ask = high; iv = above };
        asked = outstanding_after false ((keeps held.sa.spir ∙ ap (λ b. if b then kept_under held.nexts.ask step.gives else None) own) i) None held.asked;
      }))

-- what was covered stays, though the event was refused
pub raised-refused : (asked : Task) (calls : List Call) (step : Step) (held now : Held) (highs : Five) (why : Refusal) → AreCoversTo held calls highs → Says (out.Refused why) step → now ≡ record held { highs = highs } → Advances held asked calls step now
raised-refused asked calls step held now highs why covers says same = message-advances held now asked calls step highs covers
    (record {
      plain = ap is_of_sync says.said;
      unused = λ spir other c. unused spir c;
      unreceived = λ spir. ap (received_in spir asked) says.said ∙ received-refused spir asked why;
      unsent = λ spir other. request-refused spir asked why step says.said;
      unreplied = λ spir other. unreplied spir;
      unanswered = λ spir other. response-refused spir asked why step says.said;
    })
    (same ∙ sym (λ i. record held {
      nexts = five_of (λ c. after_number (unused held.sa.spir c i) (five_at held.nexts c));
      highs = highs;
      asked = outstanding_after false (request-refused held.sa.spir asked why step says.said i) (unreplied held.sa.spir i) held.asked;
      answered = with_taken (response-refused held.sa.spir asked why step says.said i) held.answered;
    }))
  where
    unused : (spir : ℕ) (c : Counter) → used_in end.Cluster spir c asked step ≡ None
    unused spir c = used-refused end.Cluster spir c asked why step says

    unreplied : (spir : ℕ) → replied_in spir asked step.verdict ≡ None
    unreplied spir = ap (replied_in spir asked) says.said ∙ replied-refused spir asked why

-- ---- a request by the rule

module _ (held now : Held) (request : List PayloadValue) (calls : List Call) (step : Step) where
  abbrev Sends : ℕ → ℕ → Type 0
  Sends high above = SendsRequest (held_ike held) held.nexts.ask held.nexts.iv request step × (now ≡ asked_below high above step held)

  next-rule : AsksNext held request calls step now → HeldSendsRequest held request calls step
  next-rule = with-iv-rule held now counter.Ask held.nexts.ask Sends calls step (SendsRequest (held_ike held) held.nexts.ask held.nexts.iv request step) (λ high above s. s.0)

  next-advances : AsksNext held request calls step now → Advances held (task.Ask held.sa.spir request) calls step now
  next-advances = with-iv-elim held now counter.Ask held.nexts.ask Sends calls step (Advances held (task.Ask held.sa.spir request) calls step now) (λ high. refl)
      (λ why highs covers says same. raised-refused (task.Ask held.sa.spir request) calls step held now highs (refusal_of_stop why) covers says same)
      (λ high above covers s. request-advances request calls step held now s.0 high above covers s.1)

  pub next-is : AsksNext held request calls step now → HeldSendsRequest held request calls step × Advances held (task.Ask held.sa.spir request) calls step now
  next-is it = (next-rule it, next-advances it)

-- what the tests of the epoch and of the window leave
module _ (held : Held) (request : List PayloadValue) (calls : List Call) (step : Step) where
  abbrev Tested : Bool → Type 0
  Tested b = MatchBool b
      (Windowed (held_ike held) held.nexts.ask (λ least. RefusesThen (refusal.WindowFull least) calls step) (HeldSendsRequest held request calls step))
      (RefusesThen refusal.NotSynced calls step)

  pub asks-fitting : held.synced ≡ true → FitsBeside held.nexts.ask held.asked → HeldSendsRequest held request calls step → HeldAsks held request calls step
  asks-fitting synced fits sends = subst Tested (sym synced) (inl (fits, sends))

-- ---- a request that is refused before a call

module _ (held now : Held) (request : List PayloadValue) (step : Step) (same : now ≡ held) where
  refused : (why : Refusal) → Says (out.Refused why) step → Advances held (task.Ask held.sa.spir request) [] step now
  refused why says = refused-advances (task.Ask held.sa.spir request) [] step held now why (none-vain [] refl) says same

  pub asks-unsynced : held.synced ≡ false → Says (out.Refused refusal.NotSynced) step
      → HeldAsks held request [] step × Advances held (task.Ask held.sa.spir request) [] step now
  asks-unsynced synced says = (subst (Tested held request [] step) (sym synced) (refl, says), refused refusal.NotSynced says)

  pub asks-full : (least : ℕ) → held.synced ≡ true → IsLeast (message_ids_of held.asked) least → least + WINDOW ≤ held.nexts.ask → Says (out.Refused (refusal.WindowFull least)) step
      → HeldAsks held request [] step × Advances held (task.Ask held.sa.spir request) [] step now
  asks-full least synced is full says = (subst (Tested held request [] step) (sym synced) (inr (least, is, full, (refl, says))), refused (refusal.WindowFull least) says)
