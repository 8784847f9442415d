use Rattle.std.proofs.Common.{◌≡◌, ◌++◌, take, rules, refl, ap, ◌∙◌, arith}
use Rattle.std.specs.List.{list_all}
use Rattle.std.proofs.lemmas.List.Folds.{list_all-append}
use Rattle.input_lines.specs.Lines.{no_feed}
use Rattle.input_lines.proofs.PieceLaws.{feedless_front}
use Rattle.input_lines.proofs.taking.take_front.Goals as goal

pub returns-clause-feedless : goal.returns-clause-feedless
returns-clause-feedless c = λ feedless.
    let size = c.min-size.result in
    let octets = c.as_slice-octets.result.now in
    let whole : c.extend_from_slice.new.self.items ≡ c.args.line.now.items ++ take size octets = search rules in
    let front = feedless_front octets size (omega (arith, c.min-size.ensures, c.octets_before.ensures.within)) (λ k h. c.octets_before.ensures.before k (omega (arith, h, c.min-size.ensures))) in
    ap (list_all no_feed) whole ∙ list_all-append no_feed c.args.line.now.items (take size octets) ∙ rw (feedless, front) refl
