-- One more member joins.
use Rattle.std.proofs.Common.{◌≡◌, ◌+◌, length, rules, sym, subst, List, [], ◌∷◌, ◌++◌, Option, Some}
use Rattle.events.specs.declared.event.Event.TheVariants as event
use Rattle.events.specs.declared.verdict.Verdict.TheVariants as out
use Rattle.cluster_member.specs.Members.{Holder}
use Rattle.turn_rules.specs.Steps.{Says}
use Rattle.run_ends.proofs.Events.{joins}
use Rattle.run_ends.proofs.parties.Parties.join.Goals as goal
use Rattle.run_ends.specs.Parties.{Acts, AreInPlace, EndsHeld}
use Rattle.turn_rules.specs.TicketNumbers.{no_ticket_numbers}

pub returns-clause-joins : goal.returns-clause-joins
returns-clause-joins c = λ past moment.
    let members : List (Option Holder) = c.self.inside.members.items in
    let view : EndsHeld = record { boxes = c.self.inside.boxes; config = c.self.inside.settings; peer = c.self.inside.peer.held; members = members } in
    let holder : Holder = record { number = length members + 1; config = view.config; fresh = c.args.fresh; held = []; numbers = no_ticket_numbers } in
    let says : Says (out.Member (length members + 1)) c.quiet.result = search rules in
    let pushed : c.push_reserved.new.self.items ≡ members ++ Some holder ∷ [] = search rules in
    subst (λ (s : EndsHeld). Acts past s moment (event.Join c.args.fresh) [] c.quiet.result (record view { members = c.push_reserved.new.self.items })) c.self.view_is
    (subst (λ ms. Acts past view moment (event.Join c.args.fresh) [] c.quiet.result (record view { members = ms })) (sym pushed) (joins past view moment (subst AreInPlace (sym c.self.view_is) c.requires.in_place) c.quiet.result c.args.fresh says))
