use Rattle.std.proofs.Common.{◌≡◌, length, sym, ◌∙◌, arith, subst, rules}
use Rattle.std.proofs.lemmas.Grind.{common_steps}
use Rattle.argot_report.specs.Counted.{AreListed}
use Rattle.argot_report.proofs.Counting.{marked_as}
use Rattle.argot_report.proofs.counted.marks_of.Goals as goal

pub returns : goal.returns
returns c =
    let n = c.function_count-target-end.ensures.count in
    let m = c.function_count.ensures.count in
    let end = c.loop-target-test.false in
    let few = c.function_count.ensures.well.limits.functions in
    let t = c.loop-target.auto.target-end in
    let i = c.loop-target.invariant in
    record {
      count = let ic = i.count in omega arith;
      each = λ h l. i.each h (omega arith) ∙ marked_as c.args.program.now c.function_count.ensures.well c.args.list.now c.in_ok-listed.listed.items (subst (λ k. AreListed k c.args.list.now c.in_ok-listed.listed.items) m c.in_ok-listed.ensures) h l;
    }
