-- There are as many places as datagrams.
use Rattle.std.proofs.Common.{length, ap, ◌∙◌}
use Rattle.turn_rules.specs.Datagrams.{datagrams_of}
use Rattle.turn_trace.specs.Traces.{Traced, past_of}
use Rattle.turn_trace.proofs.Given.{places-count}
use Rattle.turn_trace.proofs.trace.Trace.datagrams.Goals as goal

pub returns : goal.returns
returns c =
    c.len.ensures
    ∙ c.self.inside.given.ok.0
    ∙ ap length c.self.invariant.places
    ∙ places-count (past_of c.self.inside.earlier.items c.self.inside.newest)
    ∙ ap (λ (t : Traced). length (datagrams_of t.past)) c.self.view_is
