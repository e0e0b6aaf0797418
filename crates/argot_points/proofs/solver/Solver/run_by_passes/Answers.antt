use Rattle.argot_points.proofs.Fitting.{fits_of}
use Rattle.argot_points.proofs.Shown.{is_exact}
use Rattle.argot_points.proofs.Whole.{rules_hold}
use Rattle.argot_points.proofs.solver.Solver.run_by_passes.Goals as goal

pub saturate-requires-clause-fits : goal.saturate-requires-clause-fits
saturate-requires-clause-fits c = let v = c.self.invariant in fits_of c.self.inside.system v.well v.nodes v.locations v.few_nodes v.few_locations

pub saturate-requires-clause-hold : goal.saturate-requires-clause-hold
saturate-requires-clause-hold c = let v = c.self.invariant in rules_hold c.self.inside.system v.well v.locations v.defs v.exact v.rules

pub returns-clause-exact : goal.returns-clause-exact
returns-clause-exact c =
    let v = c.self.invariant in
    let s = c.self.inside.system in
    let t = c.saturate.new.tables in
    is_exact s t c.self.inside.uses.lists (record { well = v.well; defs = v.defs; exact = v.exact; nodes = v.nodes; locations = v.locations; rules = v.rules; few_nodes = v.few_nodes; few_locations = v.few_locations; size = c.saturate.ensures.sound.size; used = v.used }) c.saturate.ensures.sound c.saturate.ensures.done
