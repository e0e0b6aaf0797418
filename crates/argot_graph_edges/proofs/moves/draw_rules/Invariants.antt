use Rattle.std.proofs.Common.{take}
use Rattle.argot_graph_edges.specs.Adding.{Adds}
use Rattle.argot_graph_edges.specs.Drawn.{RulesDrawn}
use Rattle.argot_graph_edges.proofs.moves.draw_rules.Given as goal

abbrev pub invariant-loop-n : goal.invariant-loop-n
invariant-loop-n l = Adds (RulesDrawn l.drawing.program.now l.drawing.points.now l.drawing.problem.now (take l.n l.rules)) l.initial.sketch l.sketch
