use Rattle.std.proofs.Common.{take}
use Rattle.argot_graph_edges.specs.Adding.{Adds}
use Rattle.argot_graph_edges.specs.Operating.{FromDefinitions, FromRegisters}
use Rattle.argot_graph_edges.proofs.ops.draw_registers.Given as goal

abbrev pub invariant-loop-n : goal.invariant-loop-n
invariant-loop-n l = Adds (FromRegisters l.drawing.program.now l.drawing.points.now.nodes l.function l.defs l.place (take l.n l.from)) l.initial.sketch l.sketch
