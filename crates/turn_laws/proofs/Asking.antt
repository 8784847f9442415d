-- Each event that is refused, or makes one call that asks for no number, is a deed.
use Rattle.std.proofs.Common.{◌≡◌, ℕ, ◌==◌, ◌&&◌, Bool, true, false, Option, Some, None, MatchOption, List, [], ◌∷◌, refl, ap, sym, ◌∙◌, subst, if◌then◌else◌}
use Rattle.std.proofs.lemmas.Option.{same_Some}
use Rattle.std.proofs.lemmas.Bool.{eqb-true, leb-true}
use Rattle.std.specs.Prelude.{nat_le, nat_lt}
use Rattle.events.specs.declared.event.Event.{Event}
use Rattle.events.specs.declared.event.Event.TheVariants as event
use Rattle.events.specs.declared.event.Party.TheVariants as parties
use Rattle.events.specs.declared.turn.Step.{Step}
use Rattle.events.specs.declared.turn.Turn.{Turn}
use Rattle.events.specs.declared.verdict.Refusal.{Refusal}
use Rattle.events.specs.declared.verdict.Verdict.{Verdict}
use Rattle.events.specs.declared.verdict.Verdict.TheVariants as out
use Rattle.ha_base.specs.declared.limits.TheConstants.{LEAST_ESP_SPI, LEAST_SPI}
use Rattle.keeper_book.specs.Told.{seen}
use Rattle.keeper_book.specs.declared.calls.Call.{Call}
use Rattle.keeper_book.specs.declared.calls.KeeperAnswer.{KeeperAnswer}
use Rattle.keeper_book.specs.declared.calls.KeeperAnswer.TheVariants as answer
use Rattle.keeper_book.specs.declared.calls.KeeperAsk.TheVariants as ask
use Rattle.keeper_book.specs.declared.pools.Pool.TheVariants as pools
use Rattle.keeper_book.specs.declared.records.Record.{Record}
use Rattle.keeper_book.specs.declared.records.Taken.{Taken}
use Rattle.turn_laws.proofs.Deeds.{quiet-rests, says-rests, Asked, Deed, IsIdle, Rested}
use Rattle.turn_laws.specs.Acts.{IsImport, entered_as, lot_of, settled_as}
use Rattle.turn_rules.specs.Draws.{Admits, EntersRecord, Grants, TakesOver, refusal_of_import, refusal_of_takeover}
use Rattle.turn_rules.specs.Fits.{Quietly, Refuses, Yields, is_importable}
use Rattle.turn_rules.specs.Held.{granted}
use Rattle.turn_rules.specs.Peers.{record_entered}
use Rattle.turn_rules.specs.Slots.{peer_counter}
use Rattle.turn_rules.specs.TicketNumbers.{first_leased}

admits-idle : (answered : KeeperAnswer) (verdict : Verdict) → Admits answered verdict → IsIdle verdict
admits-idle answer.Done verdict a = subst (λ v. IsIdle v) (sym a) tt
admits-idle (answer.Taken taken) verdict a = absurd a
admits-idle (answer.First first) verdict a = absurd a
admits-idle (answer.Look spent) verdict a = absurd a
admits-idle (answer.Refused why) verdict a = go (refusal_of_import why) a
  where
    go : (x : Option Refusal) → MatchOption x ⊥ (λ r. verdict ≡ out.Refused r) → IsIdle verdict
    go None a = absurd a
    go (Some r) a = subst (λ v. IsIdle v) (sym a) tt

-- an import that is entered brings its record to the peer
admits-entry : (sa : Record) (answered : KeeperAnswer) (verdict : Verdict) → Admits answered verdict → entered_as (ask.Enter sa) answered ≡ record_entered (event.Import sa) verdict
admits-entry sa answer.Done verdict a = sym (ap (λ v. record_entered (event.Import sa) v) a)
admits-entry sa (answer.Taken taken) verdict a = absurd a
admits-entry sa (answer.First first) verdict a = absurd a
admits-entry sa (answer.Look spent) verdict a = absurd a
admits-entry sa (answer.Refused why) verdict a = go (refusal_of_import why) a
  where
    go : (x : Option Refusal) → MatchOption x ⊥ (λ r. verdict ≡ out.Refused r) → None ≡ record_entered (event.Import sa) verdict
    go None a = absurd a
    go (Some r) a = sym (ap (λ v. record_entered (event.Import sa) v) a)

refused-entry : (event : Event) (why : Refusal) → record_entered event (out.Refused why) ≡ None
refused-entry (event.Import sa) why = refl
refused-entry (event.Send parties.Peer spir payload) why = refl
refused-entry (event.Send (parties.Member member) spir payload) why = refl
refused-entry (event.Ask parties.Peer spir request) why = refl
refused-entry (event.Ask (parties.Member member) spir request) why = refl
refused-entry (event.Again parties.Peer spir id) why = refl
refused-entry (event.Again (parties.Member member) spir id) why = refl
refused-entry event why = refl

grants-idle : (spir : ℕ) (answered : KeeperAnswer) (verdict : Verdict) → Grants spir answered verdict → IsIdle verdict
grants-idle spir answer.Done verdict g = absurd g
grants-idle spir (answer.First first) verdict g = absurd g
grants-idle spir (answer.Look spent) verdict g = absurd g
grants-idle spir (answer.Taken taken) verdict g = subst (λ v. IsIdle v) (sym g.1) tt
grants-idle spir (answer.Refused why) verdict g = go (refusal_of_takeover why) g
  where
    go : (x : Option Refusal) → MatchOption x ⊥ (λ r. verdict ≡ out.Refused r) → IsIdle verdict
    go None a = absurd a
    go (Some r) a = subst (λ v. IsIdle v) (sym a) tt

-- a takeover grants the record that was asked for
grants-record : (spir member : ℕ) (answered : KeeperAnswer) (verdict : Verdict) → Grants spir answered verdict → (other : ℕ) (taken : Taken) → granted other (ask.TakeOver spir member) answered ≡ Some taken → taken.sa.spir ≡ other
grants-record spir member answer.Done verdict g other taken is = absurd g
grants-record spir member (answer.First first) verdict g other taken is = absurd g
grants-record spir member (answer.Look spent) verdict g other taken is = absurd g
grants-record spir member (answer.Refused why) verdict g other taken is = absurd (cc)
grants-record spir member (answer.Taken t) verdict g other taken is = by_test (spir == other) refl is
  where
    by_test : (b : Bool) → (spir == other) ≡ b → (if b then Some t else None) ≡ Some taken → taken.sa.spir ≡ other
    by_test true e is = subst (λ (x : Taken). x.sa.spir ≡ other) (same_Some t taken is) (g.0 ∙ eqb-true spir other e)
    by_test false e is = absurd (cc)

second-third : (a b c d e f g : Bool) → (a && b && c && d && e && f && g) ≡ true → (b ≡ true) × (c ≡ true)
second-third true true true d e f g is = (refl, refl)
second-third true true false d e f g is = absurd (cc)
second-third true false c d e f g is = absurd (cc)
second-third false b c d e f g is = absurd (cc)

-- the SPIs of what the run lets be imported
importable-is : (sa : Record) → is_importable sa ≡ true → IsImport sa
importable-is sa is =
    let parts = second-third (nat_le LEAST_SPI sa.spii) (nat_le LEAST_SPI sa.spir) (nat_le LEAST_ESP_SPI sa.spi_in) (nat_le LEAST_ESP_SPI sa.spi_out) (nat_lt 0 sa.starts.esp_out) (nat_lt 0 sa.starts.esp_in) (nat_lt 0 sa.starts.iv) is in
    record { spir = leb-true LEAST_SPI sa.spir parts.0; spi_in = leb-true LEAST_ESP_SPI sa.spi_in parts.1 }

module _ (past : List Turn) (step : Step) where
  pub refused-deed : (event : Event) (calls : List Call) (why : Refusal) → Refuses why calls step → Deed past event calls step
  refused-deed event calls why r = Rested r.no_calls (says-rests step (out.Refused why) tt r.says) (ap (record_entered event) r.says.said ∙ refused-entry event why)

  pub yields-deed : (event : Event) (calls : List Call) (verdict : Verdict) → IsIdle verdict → record_entered event verdict ≡ None → Yields verdict calls step → Deed past event calls step
  yields-deed event calls verdict idle none y = Rested y.no_calls (says-rests step verdict idle y.says) (ap (record_entered event) y.says.said ∙ none)

  pub enters-deed : (sa : Record) (calls : List Call) → is_importable sa ≡ true → Quietly (EntersRecord sa) calls step → Deed past (event.Import sa) calls step
  enters-deed sa calls importable quietly = go calls quietly.follows
    where
      go : (calls : List Call) → EntersRecord sa calls step.verdict → Deed past (event.Import sa) calls step
      go [] e = absurd e
      go (call ∷ other ∷ more) e = absurd e
      go (call ∷ []) e = Asked (record {
        call = call;
        one = refl;
        may = λ acts w none. rw e.0 (importable-is sa importable, λ c. none (peer_counter sa c));
        own_record = λ spir taken is. absurd (not_granted spir taken (rw e.0 at is));
        unsettled = λ spir. ap (λ asked. settled_as spir asked (seen call)) e.0;
        no_lot = λ before. ap (λ asked. lot_of pools.Ticket before asked (seen call)) e.0;
        unleased = ap (λ asked. first_leased asked (seen call)) e.0;
        entry = ap (λ asked. entered_as asked (seen call)) e.0 ∙ admits-entry sa (seen call) step.verdict e.1;
        rests = quiet-rests step (admits-idle (seen call) step.verdict e.1) quietly.quiet;
      })
        where
          not_granted : (spir : ℕ) (taken : Taken) → granted spir (ask.Enter sa) (seen call) ≡ Some taken → ⊥
          not_granted spir taken is = absurd (cc)

  pub takes_over-deed : (member spir : ℕ) (calls : List Call) → Quietly (TakesOver spir member) calls step → Deed past (event.Own member spir) calls step
  takes_over-deed member spir calls quietly = go calls quietly.follows
    where
      go : (calls : List Call) → TakesOver spir member calls step.verdict → Deed past (event.Own member spir) calls step
      go [] t = absurd t
      go (call ∷ other ∷ more) t = absurd t
      go (call ∷ []) t = Asked (record {
        call = call;
        one = refl;
        may = λ acts w none. rw t.0 tt;
        entry = ap (λ asked. entered_as asked (seen call)) t.0;
        unsettled = λ other. ap (λ asked. settled_as other asked (seen call)) t.0;
        no_lot = λ before. ap (λ asked. lot_of pools.Ticket before asked (seen call)) t.0;
        unleased = ap (λ asked. first_leased asked (seen call)) t.0;
        own_record = λ other taken is. grants-record spir member (seen call) step.verdict t.1 other taken (rw t.0 at is);
        rests = quiet-rests step (grants-idle spir (seen call) step.verdict t.1) quietly.quiet;
      })
