use Rattle.std.proofs.Common.{ap, ◌∙◌}
use Rattle.argot_points.specs.Found.{Found}
use Rattle.argot_points.proofs.Shown.{points_of}
use Rattle.argot_plain_show.proofs.finding.solve_by_passes.Goals as goal

pub returns-in-Ok-points-clause-points : goal.returns-in-Ok-points-clause-points
returns-in-Ok-points-clause-points c =
    points_of c.args.program.now c.run_by_passes.new.self c.in-Ok-points.points (c.run_by_passes.ensures.program ∙ ap (λ (v : Found). v.program) c.in-Ok.ensures.nothing) c.run_by_passes.ensures.exact c.in-Ok-points.ensures
