use Rattle.std.proofs.Common.{rules, ◌≡◌, ◌++◌}
use Rattle.argot_facts.specs.Numbers.{node}
use Rattle.argot_points_rules.specs.Column.{copies}
use Rattle.argot_points_rules.proofs.Counting.{pushed_all, values_next}
use Rattle.argot_points_rules.proofs.values.push_value_copies.Goals as goal

pub loop-a-preserved : goal.loop-a-preserved
loop-a-preserved c =
    let e : c.push_copies.new.rules.items ≡ c.loop-a.rules.items ++ copies c.args.function (node c.args.place c.args.index c.loop-a.a) c.loop-a.a c.args.found.now = search rules in
    pushed_all _ _ _ _ _ _ c.loop-a.invariant (values_next c.args.function c.args.place c.args.index c.loop-a.a c.args.leaves.now c.args.found.now c.loop-a-test.true) e
