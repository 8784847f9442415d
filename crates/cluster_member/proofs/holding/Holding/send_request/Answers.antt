-- A request is refused before a call.
use Rattle.std.proofs.Common.{rules, ◌≡◌, true, false, ap, sym, ◌∙◌}
use Rattle.keeper_book.proofs.Asking.{asks_for_none}
use Rattle.turn_rules.specs.Held.{Held}
use Rattle.cluster_member.proofs.Requests.{asks-fitting, asks-full, asks-unsynced}
use Rattle.cluster_member.proofs.holding.Holding.send_request.Goals as goal

pub returns-then-not-synced-clause-asks : goal.returns-then-not-synced-clause-asks
returns-then-not-synced-clause-asks g c =
    let later : c.self.inside.ike.synced ≡ false = search rules in
    asks_for_none g.K.Keeper c.args.keeper.now
    (asks-unsynced c.args.self.now _ c.args.room c.quiet.result (search rules) (ap (λ (v : Held). v.synced) (sym c.self.view_is) ∙ later) (search rules))

pub returns-in-Err-clause-asks : goal.returns-in-Err-clause-asks
returns-in-Err-clause-asks g c =
    let first : c.self.inside.ike.synced ≡ true = search rules in
    let full = c.in-Err.ensures.full in
    asks_for_none g.K.Keeper c.args.keeper.now
    (asks-full c.args.self.now _ c.args.room c.quiet-in-Err.result (search rules) c.in-Err.least (ap (λ (v : Held). v.synced) (sym c.self.view_is) ∙ first)
    (search rules) (search rules) (search rules))

pub returns-in-Ok-clause-asks : goal.returns-in-Ok-clause-asks
returns-in-Ok-clause-asks g c =
    let first : c.self.inside.ike.synced ≡ true = search rules in
    let fits = c.in-Ok.ensures.ok in
    let it = c.send_next.ensures.asks in
    record {
      calls = it.calls;
      follows = (
        asks-fitting c.args.self.now c.args.room it.calls c.send_next.result (ap (λ (v : Held). v.synced) (sym c.self.view_is) ∙ first)
            (search rules) it.follows.0,
        it.follows.1,
      );
      asked = it.asked;
      held = it.held;
    }
