use Rattle.std.proofs.Common.{◌∙◌}
use Rattle.event_text.proofs.input.EventReader.take_event.Goals as goal

pub returns-in-Said-clause-event : goal.returns-in-Said-clause-event
returns-in-Said-clause-event c = c.lines.invariant.0 ∙ c.in_ok-take_line.ensures.event (c.in-Said.moment, c.in-Said.event) c.in-Said.is

pub returns-in-Said-clause-fits : goal.returns-in-Said-clause-fits
returns-in-Said-clause-fits c = c.in_ok-take_line.ensures.fits (c.in-Said.moment, c.in-Said.event) c.in-Said.is
