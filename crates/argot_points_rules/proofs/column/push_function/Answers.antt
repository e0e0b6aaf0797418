use Rattle.std.proofs.Common.{◌+◌, ◌++◌, ap, ◌∙◌}
use Rattle.argot_points_rules.proofs.Counting.{pushed_all, places_next}
use Rattle.argot_points_rules.proofs.Enough.{kind_same}
use Rattle.argot_points_rules.proofs.column.push_function.Goals as goal

pub loop-place-preserved : goal.loop-place-preserved
loop-place-preserved c = pushed_all _ _ _ _ _ _ c.loop-place.invariant
    (places_next c.args.program.now c.args.function.now c.args.defs.now c.args.owner c.loop-place.place (c.args.function.now.leave + 1) c.kind.result.now c.loop-place-test.true c.kind.ensures)
    (c.in_ok-push_kind.ensures ∙ ap (λ rules. c.loop-place.rules.items ++ rules) (kind_same c.args.program.now c.args.function.now c.args.defs.now c.stretch_of.result.now c.args.owner c.loop-place.place c.kind.result.now c.stretch_of.ensures.enough))
