use Rattle.std.proofs.Common.{◌≡◌, ◌-◌, slice_index, not, ap, ◌∙◌, inl, inr, arith, eq-eqb}
use Rattle.std.proofs.lemmas.Bool.{cases_lt, both_ways}
use Rattle.argot_ssa.proofs.Blocks.{between}
use Rattle.argot_ssa.proofs.outs.is_last.Goals as goal

pub returns-clause-last : goal.returns-clause-last
returns-clause-last c = λ differs.
    let next = c.requires.next in
    let some = c.if-after-eq0.false in
    let after = c.args.after in
    let hs = c.args.heads.now in
    let up = next.low (omega arith) in
    let at = c.requires.cut.low c.args.k c.requires.place in
    record {
      below = c.requires.place;
      defines_it = c.requires.defines;
      last = λ j later low here. elim (cases_lt j (after - 1)) [
        | inl less ↦ next.none (omega arith) j (omega arith) less
        | inr more ↦
            let same : slice_index hs (after - 1) ≡ slice_index hs c.args.k = between c.args.program.now c.args.function.now hs c.requires.cut (after - 1) j low (omega arith) more ∙ here in
            absurd (both_ways _ (ap not (eq-eqb _ _ same)) differs)
      ];
    }
