-- The datagram stands in the turn at its place.
use Rattle.std.proofs.Common.{ap, reverse, sym, ◌∙◌}
use Rattle.std.specs.Prelude.{slice_get}
use Rattle.std.specs.Option.{option_and_then, option_copied, option_map}
use Rattle.events.specs.declared.turn.Datagram.{Datagram}
use Rattle.events.specs.declared.turn.Turn.{Turn}
use Rattle.turn_rules.specs.Datagrams.{datagram_at, datagrams_of, plain_datagram}
use Rattle.turn_trace.specs.Traces.{Traced, past_of, place_meant}
use Rattle.turn_trace.proofs.Given.{meant_none, meant_some}
use Rattle.turn_trace.proofs.trace.Trace.datagram.Goals as goal

pub returns-in_err-place : goal.returns-in_err-place
returns-in_err-place c =
    let none = ap (place_meant c.args.which) (sym c.as_slice.ensures.value) ∙ sym c.place_meant.ensures ∙ c.in_err-place.was in
    ap (λ o. option_map plain_datagram (option_copied {T = Datagram} o)) c.from_residual.ensures
    ∙ sym (meant_none (past_of c.self.inside.earlier.items c.self.inside.newest) _ c.args.which c.self.invariant.places none)
    ∙ ap (λ (t : Traced). datagram_at c.args.which (datagrams_of t.past)) c.self.view_is

pub returns : goal.returns
returns c =
    let some = ap (place_meant c.args.which) (sym c.as_slice.ensures.value) ∙ sym c.place_meant.ensures ∙ c.in_ok-place.was in
    ap (option_map plain_datagram) (c.given_at.ensures ∙ ap (λ (t : Traced). option_and_then (λ (turn : Turn). turn.step.gives) (slice_get (reverse t.past) c.in_ok-place.place)) (sym c.self.view_is))
    ∙ sym (meant_some (past_of c.self.inside.earlier.items c.self.inside.newest) _ c.args.which c.in_ok-place.place c.self.invariant.places some)
    ∙ ap (λ (t : Traced). datagram_at c.args.which (datagrams_of t.past)) c.self.view_is
