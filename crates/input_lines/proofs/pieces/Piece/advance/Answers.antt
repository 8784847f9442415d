use Rattle.std.proofs.Common.{◌≡◌, ◌+◌, ◌-◌, ◌≤◌, length, drop, take, sym, subst}
use Rattle.input_lines.proofs.PieceLaws.{advanced, taken_fits}
use Rattle.input_lines.proofs.pieces.Piece.advance.Goals as goal

pub returns : goal.returns
returns c =
    let p = c.self.inside in
    let n = c.args.count in
    let fits = taken_fits (p.end - p.start) (drop p.start p.octets.items) n (subst (λ now. n ≤ length now) (sym c.self.view_is) c.requires) in
    subst (λ now. take (p.end - (p.start + n)) (drop (p.start + n) p.octets.items) ≡ drop n now) c.self.view_is (advanced p.octets.items p.start p.end n fits c.self.invariant.0)
