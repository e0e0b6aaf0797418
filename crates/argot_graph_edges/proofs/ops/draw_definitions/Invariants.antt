use Rattle.std.proofs.Common.{take}
use Rattle.argot_graph_edges.specs.Adding.{Adds}
use Rattle.argot_graph_edges.specs.Operating.{FromLeaves, FromDefinitions}
use Rattle.argot_graph_edges.proofs.ops.draw_definitions.Given as goal

abbrev pub invariant-loop-n : goal.invariant-loop-n
invariant-loop-n l = Adds (FromDefinitions l.drawing.points.now.nodes (take l.n l.found) l.leaves l.to) l.initial.sketch l.sketch
