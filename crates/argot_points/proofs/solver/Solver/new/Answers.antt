use Rattle.argot_points.proofs.Fitting.{fits_of}
use Rattle.argot_points.proofs.Shown.{nothing_found}
use Rattle.argot_points.proofs.solver.Solver.new.Goals as goal

pub returns-clause-nothing : goal.returns-clause-nothing
returns-clause-nothing c =
    nothing_found (record { program = c.args.program; nodes = c.in-Ok.nodes; locations = c.in-Ok-list_locations.locations; rules = c.in-Ok-rules_of.rules })
    (record { refers = c.in-Ok-new.refers; live = c.in-Ok-new-2.live; grown = c.in-Ok-new-3.grown }) c.in-Ok-new.ensures.none c.in-Ok-new-2.ensures.none

pub uses_of-requires : goal.uses_of-requires
uses_of-requires c = record {
  fits = fits_of (record { program = c.args.program; nodes = c.in-Ok.nodes; locations = c.in-Ok-list_locations.locations; rules = c.in-Ok-rules_of.rules })
      c.function_count.ensures.well c.in-Ok.ensures.nodes.0 c.in-Ok-list_locations.ensures.locations.0 c.in-Ok.ensures.nodes.1 c.in-Ok-list_locations.ensures.locations.1;
}
