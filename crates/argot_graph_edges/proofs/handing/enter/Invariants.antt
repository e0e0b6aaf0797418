use Rattle.std.proofs.Common.{ℕ, take}
use Rattle.argot_plain.specs.Lists.{In}
use Rattle.argot_graph_edges.specs.Adding.{Adds}
use Rattle.argot_graph_edges.specs.Handing.{EntersAt}
use Rattle.argot_graph_edges.proofs.handing.enter.Given as goal

abbrev pub invariant-loop-n : goal.invariant-loop-n
invariant-loop-n l = Adds (λ e. (g : ℕ) × In g (take l.n l.targets) × EntersAt l.drawing.program.now l.drawing.points.now l.call.place l.value g e) l.initial.sketch l.sketch
