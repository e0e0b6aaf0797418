use Rattle.argot_points.proofs.Fitting.{fits_of}
use Rattle.argot_points.proofs.Shown.{is_exact}
use Rattle.argot_points.proofs.Whole.{rules_hold}
use Rattle.argot_points.proofs.solver.Solver.run.Goals as goal

pub settle-requires-clause-fits : goal.settle-requires-clause-fits
settle-requires-clause-fits c = let v = c.self.invariant in fits_of c.self.inside.system v.well v.nodes v.locations v.few_nodes v.few_locations

pub settle-requires-clause-hold : goal.settle-requires-clause-hold
settle-requires-clause-hold c = let v = c.self.invariant in rules_hold c.self.inside.system v.well v.locations v.defs v.exact v.rules

pub returns-clause-exact : goal.returns-clause-exact
returns-clause-exact c =
    let v = c.self.invariant in
    let s = c.self.inside.system in
    let t = c.settle.new.tables in
    is_exact s t c.self.inside.uses.lists (record { well = v.well; defs = v.defs; exact = v.exact; nodes = v.nodes; locations = v.locations; rules = v.rules; few_nodes = v.few_nodes; few_locations = v.few_locations; size = c.settle.ensures.sound.size; used = v.used }) c.settle.ensures.sound c.settle.ensures.done

pub settle-requires-clause-uses : goal.settle-requires-clause-uses
settle-requires-clause-uses c = c.self.invariant.used
