use Rattle.std.proofs.Common.{rules, ◌≡◌, ◌+◌, ◌-◌, ◌++◌}
use Rattle.argot_points_rules.specs.Column.{place_rules}
use Rattle.argot_points_rules.proofs.Counting.{pushed_all, owners_next}
use Rattle.argot_points_rules.proofs.column.rules_of.Goals as goal

pub loop-g-preserved : goal.loop-g-preserved
loop-g-preserved c =
    let fn = c.function.result.now in
    let e : c.push_function.new.rules.items ≡ c.loop-g.rules.items ++ place_rules c.args.program.now fn c.args.defs.now c.loop-g.g fn.entry (fn.leave + 1 - fn.entry) = search rules in
    pushed_all _ _ _ _ _ _ c.loop-g.invariant (owners_next c.args.program.now c.args.defs.now c.loop-g.g _ fn c.function.ensures) e
