-- What a holding is after a task, by the calls that were made and the step.
use Rattle.std.proofs.Common.{◌≡◌, ℕ, ◌+◌, ◌==◌, max, false, Option, Some, None, List, [], refl, ap, sym, ◌∙◌, subst, arith, if◌then◌else◌, Result, Ok, Err}
use Rattle.std.proofs.lemmas.Bool.{eq-eqb}
use Rattle.events.specs.declared.turn.Step.{Step}
use Rattle.events.specs.declared.verdict.EspVerdict.{EspVerdict}
use Rattle.events.specs.declared.verdict.EspVerdict.TheVariants as esp
use Rattle.events.specs.declared.verdict.Refusal.{Refusal}
use Rattle.events.specs.declared.verdict.Verdict.{Verdict}
use Rattle.events.specs.declared.verdict.Verdict.TheVariants as out
use Rattle.ha_base.specs.declared.counter_names.CounterName.{CounterName}
use Rattle.ha_base.specs.declared.counter_names.End.TheVariants as end
use Rattle.ha_base.specs.declared.esp_outcomes.EspDrop.{EspDrop}
use Rattle.ha_base.specs.declared.esp_outcomes.EspOpened.{EspOpened}
use Rattle.horizons.specs.declared.stop.Stop.{Stop}
use Rattle.keeper_book.specs.Counters.{five_at}
use Rattle.keeper_book.specs.declared.calls.Call.{Call}
use Rattle.keeper_book.specs.declared.counters.Counter.{Counter}
use Rattle.keeper_book.specs.declared.counters.Counter.TheVariants as counter
use Rattle.turn_rules.proofs.NoSynchronisation.{is_of_sync}
use Rattle.turn_rules.proofs.Readies.{AreCovers, AreVain, none-vain, ready-elim, ready-map}
use Rattle.turn_rules.proofs.Ties.{received-refused, replied-refused, request-refused, response-refused, used-receiving, used-refused}
use Rattle.turn_rules.specs.Draws.{Draws, counter_name, refusal_of_stop}
use Rattle.turn_rules.specs.Fits.{Quietly}
use Rattle.turn_rules.specs.Held.{Held, accepted, advanced, after_number, after_received, first_some, five_of, greatest, iv_in, received_in, said_in, used_in}
use Rattle.turn_rules.specs.CountersOf.{is_of_spir}
use Rattle.turn_rules.specs.IkeState.{sealed_iv, outstanding_after, replied_in, request_in, response_in, response_to, taken_id, with_taken}
use Rattle.turn_rules.specs.MemberPackets.{SendsData, TakesPacket, outbound_of}
use Rattle.turn_rules.specs.Packets.{IsVerdictOf, SendsEsp}
use Rattle.turn_rules.specs.Steps.{IsQuiet, Says}
use Rattle.turn_rules.specs.Tasks as task
use Rattle.turn_rules.specs.Tasks.{Task}
use Rattle.cluster_member.proofs.Plain.{plain-advanced}
use Rattle.cluster_member.proofs.Uses.{DrawsNext, Notes, SendsNext, received_below, sent_below}
use Rattle.cluster_member.specs.Advances.{Advances, AdvancesByPacket}

-- a turn by which no request was sent or answered, and none had its response, and that is none of a
-- synchronisation
pub record IsOfNoMessage (asked : Task) (step : Step) : Type 0 where
  pub plain : is_of_sync step.verdict ≡ false
  pub unsent : (spir : ℕ) → request_in spir asked step ≡ None
  pub unreplied : (spir : ℕ) → replied_in spir asked step.verdict ≡ None
  pub unanswered : (spir : ℕ) → response_in spir asked step ≡ None

-- what is received is no IKE message, by what is said of it
pub received-no-message : (step : Step) (verdict : Verdict) → step.verdict ≡ verdict → ((spir : ℕ) → replied_in spir task.Receive verdict ≡ None) → ((spir : ℕ) → taken_id spir verdict ≡ None) → is_of_sync verdict ≡ false → IsOfNoMessage task.Receive step
received-no-message step verdict said unreplied untaken plain = record {
  plain = ap is_of_sync said ∙ plain;
  unsent = λ spir. refl;
  unreplied = λ spir. ap (replied_in spir task.Receive) said ∙ unreplied spir;
  unanswered = λ spir. ap (λ v. response_to (taken_id spir v) step.gives) said ∙ ap (λ id. response_to id step.gives) (untaken spir);
}

module _ (asked : Task) (calls : List Call) (step : Step) where
  -- a turn by which nothing was covered, used or received
  pub unmoved : AreVain calls → ((spir : ℕ) (c : Counter) → used_in end.Cluster spir c asked step ≡ None) → ((spir : ℕ) → received_in spir asked step.verdict ≡ None) → IsOfNoMessage asked step
      → (spir : ℕ) (held : Held) → advanced spir asked calls step held ≡ held
  unmoved vain unused unreceived none spir held = plain-advanced spir asked calls step held none.plain ∙ (λ i. record held {
    nexts = five_of (λ c. after_number (unused spir c i) (five_at held.nexts c));
    highs = five_of (λ c. greatest (five_at held.highs c) (vain.no_cover spir c i));
    window = after_received (unreceived spir i) held.window;
    asked = outstanding_after false (none.unsent spir i) (none.unreplied spir i) held.asked;
    answered = with_taken (none.unanswered spir i) held.answered;
  })

  pub refused-unmoved : (why : Refusal) → AreVain calls → Says (out.Refused why) step → (spir : ℕ) (held : Held) → advanced spir asked calls step held ≡ held
  refused-unmoved why vain says = unmoved vain (λ spir c. used-refused end.Cluster spir c asked why step says) (λ spir. ap (received_in spir asked) says.said ∙ received-refused spir asked why) (record {
    plain = ap is_of_sync says.said;
    unsent = λ spir. request-refused spir asked why step says.said;
    unreplied = λ spir. ap (replied_in spir asked) says.said ∙ replied-refused spir asked why;
    unanswered = λ spir. response-refused spir asked why step says.said;
  })

  module _ (held now : Held) where
    pub vain-advances : AreVain calls → ((spir : ℕ) (other : Held) → advanced spir asked calls step other ≡ other) → now ≡ held → Advances held asked calls step now
    vain-advances vain stays same = record {
      no_grant = vain.no_grant;
      now = same ∙ sym (stays held.sa.spir held);
      elsewhere = λ spir other. stays spir;
    }

    pub refused-advances : (why : Refusal) → AreVain calls → Says (out.Refused why) step → now ≡ held → Advances held asked calls step now
    refused-advances why vain says = vain-advances vain (refused-unmoved why vain says)

    -- the next ESP number was used, and no other one
    number-advances : (high : ℕ) → AreCovers held counter.EspOut calls high → ((spir : ℕ) → used_in end.Cluster spir counter.EspOut asked step ≡ (if held.sa.spir == spir then Some held.nexts.esp_out else None))
        → ((spir : ℕ) → used_in end.Cluster spir counter.Ask asked step ≡ None) → ((spir : ℕ) → used_in end.Cluster spir counter.Iv asked step ≡ None)
        → ((spir : ℕ) → received_in spir asked step.verdict ≡ None) → IsOfNoMessage asked step → now ≡ sent_below high held → Advances held asked calls step now
    number-advances high covers uses unasked unsealed unreceived none same = record {
      no_grant = covers.no_grant;
      now = same ∙ sym (plain-advanced held.sa.spir asked calls step held none.plain ∙ (λ i. record held {
        nexts = record held.nexts {
          esp_out = own_next i;
          iv = after_number (unsealed held.sa.spir i) held.nexts.iv;
          ask = after_number (unasked held.sa.spir i) held.nexts.ask;
        };
        highs = covers.here i;
        window = after_received (unreceived held.sa.spir i) held.window;
        asked = outstanding_after false (none.unsent held.sa.spir i) (none.unreplied held.sa.spir i) held.asked;
        answered = with_taken (none.unanswered held.sa.spir i) held.answered;
      }));
      elsewhere = λ spir other there. plain-advanced spir asked calls step there none.plain ∙ (λ i. record there {
        nexts = record there.nexts {
          esp_out = after_number (unused spir other i) there.nexts.esp_out;
          iv = after_number (unsealed spir i) there.nexts.iv;
          ask = after_number (unasked spir i) there.nexts.ask;
        };
        highs = five_of (λ c. greatest (five_at there.highs c) (covers.elsewhere spir other c i));
        window = after_received (unreceived spir i) there.window;
        asked = outstanding_after false (none.unsent spir i) (none.unreplied spir i) there.asked;
        answered = with_taken (none.unanswered spir i) there.answered;
      });
    }
      where
        unused : (spir : ℕ) → (held.sa.spir == spir) ≡ false → used_in end.Cluster spir counter.EspOut asked step ≡ None
        unused spir other = uses spir ∙ ap (λ b. if b then Some held.nexts.esp_out else None) other

        own_next : after_number (used_in end.Cluster held.sa.spir counter.EspOut asked step) held.nexts.esp_out ≡ held.nexts.esp_out + 1
        own_next =
            let more : max (held.nexts.esp_out + 1) held.nexts.esp_out ≡ held.nexts.esp_out + 1 = omega arith in
            ap (λ n. after_number n held.nexts.esp_out) (uses held.sa.spir ∙ ap (λ b. if b then Some held.nexts.esp_out else None) (eq-eqb held.sa.spir held.sa.spir refl)) ∙ more

-- the number of a packet was noted
packet-advances : (calls : List Call) (step : Step) (held now : Held) (number high : ℕ) → AreCovers held counter.EspIn calls high → IsQuiet step → IsOfNoMessage task.Receive step
    → ((spir : ℕ) → accepted spir step.verdict ≡ (if held.sa.spir == spir then Some number else None)) → now ≡ received_below number high held → Advances held task.Receive calls step now
packet-advances calls step held now number high covers quiet none takes same = record {
  no_grant = covers.no_grant;
  now = same ∙ sym (plain-advanced held.sa.spir task.Receive calls step held none.plain ∙ (λ i. record held {
    nexts = five_of (λ c. after_number (used-receiving end.Cluster held.sa.spir c step quiet i) (five_at held.nexts c));
    highs = covers.here i;
    window = after_received (here i) held.window;
    asked = outstanding_after false (none.unsent held.sa.spir i) (none.unreplied held.sa.spir i) held.asked;
    answered = with_taken (none.unanswered held.sa.spir i) held.answered;
  }));
  elsewhere = λ spir other there. plain-advanced spir task.Receive calls step there none.plain ∙ (λ i. record there {
    nexts = five_of (λ c. after_number (used-receiving end.Cluster spir c step quiet i) (five_at there.nexts c));
    highs = five_of (λ c. greatest (five_at there.highs c) (covers.elsewhere spir other c i));
    window = after_received (nothing spir other i) there.window;
    asked = outstanding_after false (none.unsent spir i) (none.unreplied spir i) there.asked;
    answered = with_taken (none.unanswered spir i) there.answered;
  });
}
  where
    here : accepted held.sa.spir step.verdict ≡ Some number
    here = takes held.sa.spir ∙ ap (λ b. if b then Some number else None) (eq-eqb held.sa.spir held.sa.spir refl)

    nothing : (spir : ℕ) → (held.sa.spir == spir) ≡ false → accepted spir step.verdict ≡ None
    nothing spir other = takes spir ∙ ap (λ b. if b then Some number else None) other

-- an ESP packet's IV is none of an IKE message
sent-unsealed : (held : Held) (payload : List ℕ) (number : ℕ) (step : Step) → SendsEsp (outbound_of held) number payload step → (spir : ℕ) → iv_in end.Cluster spir step.seals ≡ None
sent-unsealed held payload number step sends spir =
    ap (iv_in end.Cluster spir) sends.seals ∙ ap (λ (name : CounterName). first_some (sealed_iv end.Cluster spir sends.seal name.kind) None) sends.named

module _ (held now : Held) (calls : List Call) (step : Step) where
  abbrev next : ℕ
  next = five_at held.nexts counter.EspOut

  abbrev Stops : Stop → List Call → Type 0
  Stops why rest = (rest ≡ []) × Says (out.Refused (refusal_of_stop why)) step × (now ≡ held)

  -- a draw is one by the rule
  abbrev Draws_it : ℕ → List Call → Type 0
  Draws_it high rest = (rest ≡ []) × Says (out.Number next) step × (now ≡ sent_below high held)

  draws-rule : DrawsNext held calls step now → Quietly (Draws held) calls step
  draws-rule draws = record {
    follows = ready-map {P = Stops} {G = Draws_it} (λ why rest s. record { no_more = s.0; said = s.1.said }) (λ high rest g. record { no_more = g.0; said = g.1.said }) _ _ calls draws;
    quiet = ready-elim held counter.EspOut next Stops Draws_it (λ why rest s. s.0) (λ high rest g. g.0) calls (λ why rest vain s. s.1.quiet) (λ high rest covers g. g.1.quiet) draws;
  }

  draws-advances : DrawsNext held calls step now → Advances held (task.Draw held.sa.spir) calls step now
  draws-advances draws = ready-elim held counter.EspOut next Stops Draws_it (λ why rest s. s.0) (λ high rest g. g.0) calls
      (λ why rest vain s. refused-advances (task.Draw held.sa.spir) calls step held now (refusal_of_stop why) vain s.1 s.2)
      (λ high rest covers g. number-advances (task.Draw held.sa.spir) calls step held now high covers
      (λ spir. ap (said_in spir counter.EspOut (task.Draw held.sa.spir)) g.1.said) (λ spir. refl) (λ spir. ap (iv_in end.Cluster spir) g.1.quiet.seals) (λ spir. refl)
      (record { plain = ap is_of_sync g.1.said; unsent = λ spir. refl; unreplied = λ spir. refl; unanswered = λ spir. refl }) g.2)
      draws

  pub draws-are : DrawsNext held calls step now → Quietly (Draws held) calls step × Advances held (task.Draw held.sa.spir) calls step now
  draws-are draws = (draws-rule draws, draws-advances draws)

  module _ (payload : List ℕ) where
    abbrev Sends_it : ℕ → List Call → Type 0
    Sends_it high rest = (rest ≡ []) × SendsEsp (outbound_of held) next payload step × (now ≡ sent_below high held)

    sends-rule : SendsNext held payload calls step now → SendsData held payload calls step
    sends-rule sends = ready-map {P = Stops} {G = Sends_it} (λ why rest s. (s.0, s.1)) (λ high rest g. (g.0, g.1)) _ _ calls sends

    sends-advances : SendsNext held payload calls step now → Advances held (task.Send held.sa.spir payload) calls step now
    sends-advances sends = ready-elim held counter.EspOut next Stops Sends_it (λ why rest s. s.0) (λ high rest g. g.0) calls
        (λ why rest vain s. refused-advances (task.Send held.sa.spir payload) calls step held now (refusal_of_stop why) vain s.1 s.2)
        (λ high rest covers g. number-advances (task.Send held.sa.spir payload) calls step held now high covers
        (λ spir. ap (said_in spir counter.EspOut (task.Send held.sa.spir payload)) g.1.said) (λ spir. refl) (sent-unsealed held payload next step g.1) (λ spir. refl)
        (record { plain = ap is_of_sync g.1.said; unsent = λ spir. refl; unreplied = λ spir. refl; unanswered = λ spir. refl }) g.2)
        sends

    pub sends-are : SendsNext held payload calls step now → SendsData held payload calls step × Advances held (task.Send held.sa.spir payload) calls step now
    sends-are sends = (sends-rule sends, sends-advances sends)

module _ (held now : Held) (calls : List Call) (answer : EspVerdict) where
  abbrev Halts : Stop → List Call → Type 0
  Halts why rest = (rest ≡ []) × (answer ≡ esp.Refused (refusal_of_stop why)) × (now ≡ held)

  abbrev Takes_it : EspOpened → ℕ → List Call → Type 0
  Takes_it packet high rest = (rest ≡ []) × (answer ≡ esp.Accepted (counter_name held.sa counter.EspIn) packet) × (now ≡ received_below packet.number high held)

  -- a packet is taken by the rule
  notes-rule : (opened : Result EspOpened EspDrop) → Notes held opened calls answer now → TakesPacket held opened calls answer
  notes-rule (Err why) notes = (notes.0, notes.1)
  notes-rule (Ok packet) notes = ready-map {P = Halts} {G = Takes_it packet} (λ why rest s. (s.0, s.1)) (λ high rest g. (g.0, g.1)) _ _ calls notes

  module _ (after : List ℕ) (step : Step) (worded : IsVerdictOf answer after step.verdict) (quiet : IsQuiet step) where
    as_said : (said : EspVerdict) → answer ≡ said → IsVerdictOf said after step.verdict
    as_said said e = subst (λ a. IsVerdictOf a after step.verdict) e worded

    takes_number : (packet : EspOpened) → answer ≡ esp.Accepted (counter_name held.sa counter.EspIn) packet → (spir : ℕ) → accepted spir step.verdict ≡ (if held.sa.spir == spir then Some packet.number else None)
    takes_number packet e spir =
        ap (accepted spir) (as_said (esp.Accepted (counter_name held.sa counter.EspIn) packet) e).2
        ∙ ap (λ (x : Option ℕ). if is_of_spir spir x then Some packet.number else None) held.sa.origin_is_own

    notes-advances : (opened : Result EspOpened EspDrop) → Notes held opened calls answer now → Advances held task.Receive calls step now
    notes-advances (Err why) notes =
        let said : step.verdict ≡ out.DroppedEsp why = as_said (esp.Dropped why) notes.1 in
        let vain : AreVain calls = none-vain calls notes.0 in
        vain-advances task.Receive calls step held now vain
        (unmoved task.Receive calls step vain (λ spir c. used-receiving end.Cluster spir c step quiet) (λ spir. ap (accepted spir) said)
        (received-no-message step (out.DroppedEsp why) said (λ spir. refl) (λ spir. refl) refl)) notes.2
    notes-advances (Ok packet) notes = ready-elim held counter.EspIn packet.number Halts (Takes_it packet) (λ why rest s. s.0) (λ high rest g. g.0) calls
        (λ why rest vain s. refused-advances task.Receive calls step held now (refusal_of_stop why) vain
        (record { said = as_said (esp.Refused (refusal_of_stop why)) s.1; quiet = quiet }) s.2)
        (λ high rest covers g.
        let is = as_said (esp.Accepted (counter_name held.sa counter.EspIn) packet) g.1 in
        packet-advances calls step held now packet.number high covers quiet
        (received-no-message step (out.Accepted (counter_name held.sa counter.EspIn) packet.number packet.next_header is.0) is.2 (λ spir. refl) (λ spir. refl) refl)
        (takes_number packet g.1) g.2)
        notes

  pub notes-are : (opened : Result EspOpened EspDrop) → Notes held opened calls answer now → TakesPacket held opened calls answer × ((after : List ℕ) → AdvancesByPacket held calls answer after now)
  notes-are opened notes = (notes-rule opened notes, λ after step worded quiet. notes-advances after step worded quiet opened notes)
