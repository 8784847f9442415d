-- The cluster is configured before its first turn.
use Rattle.std.proofs.Common.{[], rules, ◌≡◌, ap, sym, subst, ◌∙◌}
use Rattle.ha_base.specs.declared.identities.GatewayId.{GatewayId}
use Rattle.events.specs.declared.event.Event.TheVariants as event
use Rattle.events.specs.declared.verdict.Verdict.TheVariants as out
use Rattle.turn_rules.specs.Configurations.{gateway_of}
use Rattle.turn_rules.specs.Steps.{Says}
use Rattle.cluster_peer.specs.Slots.{PeerWithRoom}
use Rattle.run_ends.proofs.Events.{is_configured}
use Rattle.run_ends.proofs.parties.Parties.configure.Goals as goal
use Rattle.run_ends.specs.Parties.{Acts, EndsHeld}

pub returns-clause-configures : goal.returns-clause-configures
returns-clause-configures c = λ ticket_key same past moment.
    let config = c.args.settings in
    let says : Says out.Configured c.quiet.result = record { said = c.quiet.ensures.verdict; quiet = record { served = c.quiet.ensures.served; seals = c.quiet.ensures.seals; gives = c.quiet.ensures.gives } } in
    let gate : c.gateway.result ≡ gateway_of config = search rules in
    let leaves = ap (λ (p : PeerWithRoom). record { boxes = c.self.inside.boxes; config = config; peer = p.held; members = c.self.inside.members.items }) c.configure.ensures
    ∙ ap (λ (g : GatewayId). record { boxes = c.self.inside.boxes; config = config; peer = record c.self.inside.peer.held { gateway = g }; members = c.self.inside.members.items }) gate
    ∙ ap (λ (s : EndsHeld). record s { config = config; peer = record s.peer { gateway = gateway_of config } }) c.self.view_is in
    subst (λ (s : EndsHeld). Acts past c.args.self.now moment (event.Cluster config.identity config.lifetime config.window ticket_key) [] c.quiet.result s) (sym leaves)
    (is_configured past c.args.self.now moment config ticket_key c.quiet.result same c.requires.nobody says)
