use Rattle.std.proofs.Common.{sym, ◌∙◌}
use Rattle.report_text.proofs.WritingLaws.{six_parts, turn_text_parts}
use Rattle.report_text.proofs.turn.text_of.Goals as goal

pub returns : goal.returns
returns c =
    six_parts _ _ _ _ _ _ _ _ _ _ _ _ _ c.new-text.ensures c.in_ok-put_line.ensures c.in_ok-put_calls.ensures c.in_ok-put_served.ensures c.in_ok-put_seals.ensures c.in_ok-put_given.ensures c.in_ok-put_line-2.ensures
    ∙ sym (turn_text_parts c.args.number c.args.datagram c.args.turn.now)
