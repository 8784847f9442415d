use Rattle.std.proofs.Common.{◌≡◌, ◌≢◌, ◌∙◌, ◌+◌, ◌*◌, ◌/◌, ◌%◌, ap, refl, ⊎_elim, arith, rules}
use Rattle.std.proofs.lemmas.Bool.{cases_eq}
use Rattle.std.proofs.lemmas.List.{get_or-set_same, get_or-set_other}
use Rattle.aes_gcm.specs.Gcm.{product_low}
use Rattle.aes_gcm.specs.HashTables.{times_power}
use Rattle.aes_gcm.proofs.HashTables.{raised_sixteen, made_of, made_table}
use Rattle.aes_gcm.proofs.ghash.hash_tables.Goals as goal
use Rattle.aes_gcm.proofs.ghash.hash_tables.Goals.{then-i-eq15, else-i-eq15}

pub loop-i-init : goal.loop-i-init
unfolding times_power
loop-i-init c = record { entries = λ j h. absurd (omega arith); long = refl; power_is = refl }

pub loop-i-preserved : goal.loop-i-preserved
loop-i-preserved c =
    let i = c.loop-i.i in
    let h = c.args.subkey in
    let t = c.loop-i.tables in
    let entry = c.times_four_bits.result in
    let inv = c.loop-i.invariant in
    record {
      entries = λ j b. ⊎_elim (λ e. rw e (get_or-set_same t i entry 0 (omega (arith, inv.long)) ∙ c.times_four_bits.ensures ∙ ap (product_low 4 (i % 16)) inv.power_is)) (λ (other : j ≢ i). get_or-set_other t i j entry 0 other ∙ inv.entries j (omega arith)) (cases_eq j i);
      long = search (rules, inv.long);
      power_is = elim c.if-i-eq15.branch [
        | then-i-eq15 w ↦
            let next : 16 * (i / 16) + 16 ≡ 16 * ((i + 1) / 16) = omega arith in
            w.power-is ∙ w.times_x4-power.ensures ∙ ap (times_power 4) (w.times_x4-then-i-eq15-2.ensures ∙ ap (times_power 4) (w.times_x4-then-i-eq15.ensures ∙ ap (times_power 4) (w.times_x4.ensures ∙ ap (times_power 4) inv.power_is))) ∙ raised_sixteen (16 * (i / 16)) h ∙ ap (λ n. times_power n h) next
        | else-i-eq15 w ↦
            let same : i / 16 ≡ (i + 1) / 16 = omega arith in
            w.power-is ∙ inv.power_is ∙ ap (λ n. times_power (16 * n) h) same
      ];
    }

pub returns-clause-tables : goal.returns-clause-tables
returns-clause-tables c = made_table c.loop-i.tables c.args.subkey (λ j b. c.loop-i.invariant.entries j (omega arith))

pub returns-clause-subkey : goal.returns-clause-subkey
returns-clause-subkey c = made_of c.loop-i.tables c.args.subkey (λ j b. c.loop-i.invariant.entries j (omega arith))
