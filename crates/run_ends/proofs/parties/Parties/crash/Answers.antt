-- A member ends.
use Rattle.std.proofs.Common.{[], None, ap, sym, subst}
use Rattle.std.proofs.Math.ListN.{set}
use Rattle.events.specs.declared.event.Event.TheVariants as event
use Rattle.events.specs.declared.verdict.Verdict.TheVariants as out
use Rattle.turn_rules.specs.Steps.{Says}
use Rattle.run_ends.proofs.Events.{crashes}
use Rattle.run_ends.proofs.parties.Parties.crash.Goals as goal
use Rattle.run_ends.specs.Parties.{Acts, EndsHeld}

pub returns-clause-crashes : goal.returns-clause-crashes
returns-clause-crashes c = λ past moment.
    let says : Says out.Down c.quiet.result = record { said = c.quiet.ensures.verdict; quiet = record { served = c.quiet.ensures.served; seals = c.quiet.ensures.seals; gives = c.quiet.ensures.gives } } in
    subst (λ (s : EndsHeld). Acts past c.args.self.now moment (event.Crash c.args.member) [] c.quiet.result s) (sym (ap (λ (v : EndsHeld). record v { members = set v.members c.place_of-place.result None }) c.self.view_is))
    (crashes past c.args.self.now moment c.requires.in_place c.quiet.result c.args.member c.place_of-place.result c.place_of-place.ensures says)
