-- What was taken ends as its front does.
use Rattle.std.proofs.Common.{◌≡◌, ℕ, List, length, Option, arith, rules, sym, subst}
use Rattle.std.proofs.lemmas.Grind.{common_steps}
use Rattle.input_lines.specs.Taking.{Finds, IsEnding, TakesFrom}
use Rattle.input_lines.specs.declared.taking.Found.{Found}
use Rattle.input_lines.specs.declared.taking.Found.TheVariants as found
use Rattle.input_lines.specs.declared.taking.Limits.{Limits}
use Rattle.input_lines.proofs.taking.take_line.Goals as goal

finds-ended : (limits : Limits) (before : ℕ) (kept line front now_kept : List ℕ) (left still_left : Option (List ℕ)) (faults now_faults : ℕ)
    → TakesFrom limits before kept line front left still_left → now_faults ≡ faults
    → (f : Found) → IsEnding limits before (length line) front now_kept f → Finds limits before kept line now_kept left still_left faults now_faults f
finds-ended limits before kept line front now_kept left still_left faults now_faults t none found.Feed e =
    (subst (λ behind. TakesFrom limits before kept line behind left still_left) e.0 t, e.1, none)
finds-ended limits before kept line front now_kept left still_left faults now_faults t none found.End e = absurd e
finds-ended limits before kept line front now_kept left still_left faults now_faults t none found.LineTooLong e =
    (subst (λ behind. TakesFrom limits before kept line behind left still_left) (sym e.0) t, e.1, e.2, none)
finds-ended limits before kept line front now_kept left still_left faults now_faults t none found.FileTooLong e =
    (subst (λ behind. TakesFrom limits before kept line behind left still_left) (sym e.0) t, e.1, e.2, e.3, none)
finds-ended limits before kept line front now_kept left still_left faults now_faults t none found.Failed e = absurd e

pub returns-in-Some-clause-finds : goal.returns-in-Some-clause-finds
returns-in-Some-clause-finds g c =
    let size : c.len.result ≡ length c.take_front.new.line.items = search rules in
    finds-ended c.args.limits c.args.before c.args.piece.now c.take_front.new.line.items c.take_front.new.piece c.ending.new.piece _ _ _ _ (grind (arith, common_steps)) (grind (arith, common_steps)) c.in-Some.found
    (subst (λ n. IsEnding c.args.limits c.args.before n c.take_front.new.piece c.ending.new.piece c.in-Some.found) size c.in-Some.ensures.found)
