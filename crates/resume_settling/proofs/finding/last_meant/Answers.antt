use Rattle.std.proofs.Common.{◌≡◌, ◌+◌, ◌-◌, false, drop, length, refl, sym, subst, ◌∙◌, arith}
use Rattle.std.proofs.lemmas.Option.{slice_get_read}
use Rattle.std.specs.List.{list_any}
use Rattle.resume_settling.specs.Finding.{is_meant}
use Rattle.resume_settling.proofs.finding.last_meant.Goals as goal

pub returns-then-is_meant : goal.returns-then-is_meant
returns-then-is_meant c =
    let next : c.loop-end.end ≡ (c.loop-end.end - 1) + 1 = omega arith in
    record {
      half_open = c.index-half_opens-end.result;
      here = slice_get_read c.args.half_opens.now (length c.args.half_opens.now) (c.loop-end.end - 1) c.index-half_opens-end.result refl (omega arith) c.index-half_opens-end.is;
      meant = sym c.is_meant.ensures ∙ c.if-is_meant.true;
      last = subst (λ k. list_any (is_meant c.args.now.0 c.args.header.now) (drop k c.args.half_opens.now) ≡ false) next c.loop-end.invariant.none;
    }
