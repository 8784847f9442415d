-- An import that the peer does not admit, or that the keeper enters, or refuses.
use Rattle.std.proofs.Common.{◌≡◌, MatchOption, Some, [], ◌∷◌, not, refl, sym, ◌∙◌, subst, rules}
use Rattle.std.specs.Prelude.{false, true}
use Rattle.events.specs.declared.verdict.Refusal.TheVariants as refusal
use Rattle.events.specs.declared.verdict.Verdict.TheVariants as out
use Rattle.keeper_book.proofs.Asking.{asks_for_none}
use Rattle.turn_rules.specs.Draws.{Admits, EntersRecord, refusal_of_import}
use Rattle.turn_rules.specs.Fits.{Quietly, Refusing}
use Rattle.turn_rules.specs.Slots.{admits}
use Rattle.turn_rules.specs.Steps.{IsQuiet}
use Rattle.run_ends.proofs.Events.{entered, not_entered}
use Rattle.run_ends.proofs.performers.import.Goals as goal

pub returns-then-not-admits-clause-imports : goal.returns-then-not-admits-clause-imports
returns-then-not-admits-clause-imports g c =
    let sa = c.args.sa.now in
    let step = c.refused.result in
    let clash : admits c.args.peer.now.held.slots sa ≡ false = search rules in
    asks_for_none g.K.Keeper c.args.keeper.now (
      subst (λ b. Refusing (not b) refusal.SpiInUse [] step (Quietly (EntersRecord sa) [] step)) (sym clash) (record { no_calls = refl; says = c.refused.ensures }),
      not_entered c.args.peer.now c.args.peer.now step sa refusal.SpiInUse refl c.refused.ensures,
    )

pub returns-in-Ok-clause-imports : goal.returns-in-Ok-clause-imports
returns-in-Ok-clause-imports g c =
    let sa = c.args.sa.now in
    let step = c.quiet.result in
    let said = c.quiet.ensures in
    let quiet : IsQuiet step = record { served = said.served; seals = said.seals; gives = said.gives } in
    let free : admits c.args.peer.now.held.slots sa ≡ true = search rules in
    let called = c.in-Ok.ensures.call in
    record {
      calls = called.0 ∷ [];
      follows = (
        subst (λ b. Refusing (not b) refusal.SpiInUse (called.0 ∷ []) step (Quietly (EntersRecord sa) (called.0 ∷ []) step)) (sym free)
            (record { follows = (called.1.asks, subst (λ k. Admits k step.verdict) (sym called.1.sees) said.verdict); quiet = quiet }),
        entered c.args.peer.now c.add.new.self step sa c.reserve.new.self c.in_ok-reserve.ensures.unchanged c.add.ensures (record { said = said.verdict; quiet = quiet }),
      );
      asked = called.2;
      held = c.in-Ok.ensures.held;
    }

pub returns-in-Some-clause-imports : goal.returns-in-Some-clause-imports
returns-in-Some-clause-imports g c =
    let sa = c.args.sa.now in
    let step = c.refused-in-Some.result in
    let says = c.refused-in-Some.ensures in
    let free : admits c.args.peer.now.held.slots sa ≡ true = search rules in
    let called = c.in-Err.ensures.call in
    let why : refusal_of_import c.in-Err.fault ≡ Some c.in-Some.refusal = sym c.of_import.ensures ∙ c.in-Some.is in
    record {
      calls = called.0 ∷ [];
      follows = (
        subst (λ b. Refusing (not b) refusal.SpiInUse (called.0 ∷ []) step (Quietly (EntersRecord sa) (called.0 ∷ []) step)) (sym free)
            (record {
              follows = (called.1.asks, subst (λ k. Admits k step.verdict) (sym called.1.sees) (subst (λ x. MatchOption x ⊥ (λ r. step.verdict ≡ out.Refused r)) (sym why) says.said));
              quiet = says.quiet;
            }),
        not_entered c.args.peer.now c.reserve.new.self step sa c.in-Some.refusal c.in_ok-reserve.ensures.unchanged says,
      );
      asked = called.2;
      held = c.in-Err.ensures.held;
    }
