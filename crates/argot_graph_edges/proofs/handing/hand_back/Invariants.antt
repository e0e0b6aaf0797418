use Rattle.std.proofs.Common.{ℕ, take}
use Rattle.argot_plain.specs.Lists.{In}
use Rattle.argot_graph_edges.specs.Adding.{Adds}
use Rattle.argot_graph_edges.specs.Handing.{BackAt}
use Rattle.argot_graph_edges.proofs.handing.hand_back.Given as goal

abbrev pub invariant-loop-n : goal.invariant-loop-n
invariant-loop-n l = Adds (λ e. (g : ℕ) × In g (take l.n l.targets) × BackAt l.drawing.program.now l.drawing.points.now l.drawing.problem.now l.place l.value g e) l.initial.sketch l.sketch
