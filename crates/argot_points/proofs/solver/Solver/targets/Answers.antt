use Rattle.std.proofs.Common.{subst}
use Rattle.argot_points.specs.Found.{AreTargetsOf}
use Rattle.argot_points.proofs.Fitting.{fits_of}
use Rattle.argot_points.proofs.Shown.{listed_targets}
use Rattle.argot_points.proofs.solver.Solver.targets.Goals as goal

pub targets_of-requires-clause-fits : goal.targets_of-requires-clause-fits
targets_of-requires-clause-fits c = let v = c.self.invariant in fits_of c.self.inside.system v.well v.nodes v.locations v.few_nodes v.few_locations

pub returns : goal.returns
returns c =
    subst (λ v. AreTargetsOf v c.in_ok-found.found.items) c.self.view_is
    (listed_targets c.self.inside.system c.self.inside.tables c.self.inside.uses.lists c.self.invariant c.in_ok-found.found.items c.in_ok-found.ensures)
