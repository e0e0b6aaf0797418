use Rattle.std.proofs.Common.{rules, ◌+◌}
use Rattle.argot_points_rules.proofs.Counting.{pushed_all, place_nodes_next, too_many}
use Rattle.argot_points_rules.proofs.nodes.push_function_nodes.Goals as goal

pub returns-then-len-gt-MOST_NODES-clause-many : goal.returns-then-len-gt-MOST_NODES-clause-many
returns-then-len-gt-MOST_NODES-clause-many c = λ e. too_many _ c.push_place_nodes.new.nodes.items _ _
    (pushed_all _ _ _ _ _ _ c.loop-place.invariant.whole (place_nodes_next c.args.program.now c.args.function.now c.loop-place.place (c.args.function.now.leave + 1) c.loop-place-test.true) c.in_ok-push_place_nodes.ensures) (search rules)

pub loop-place-preserved : goal.loop-place-preserved
loop-place-preserved c = record {
  whole = pushed_all _ _ _ _ _ _ c.loop-place.invariant.whole (place_nodes_next c.args.program.now c.args.function.now c.loop-place.place (c.args.function.now.leave + 1) c.loop-place-test.true) c.in_ok-push_place_nodes.ensures;
  few = search rules;
}
