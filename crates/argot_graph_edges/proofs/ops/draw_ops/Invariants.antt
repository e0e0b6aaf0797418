use Rattle.std.proofs.Common.{take}
use Rattle.argot_graph_edges.specs.Adding.{Adds}
use Rattle.argot_graph_edges.specs.Operating.{OfFunction, OfFunctions}
use Rattle.argot_graph_edges.proofs.ops.draw_ops.Given as goal

abbrev pub invariant-loop-n : goal.invariant-loop-n
invariant-loop-n l = Adds (OfFunctions l.drawing.program.now l.drawing.points.now.nodes l.defs (take l.n l.live)) l.initial.sketch l.sketch
