use Rattle.std.proofs.Common.{ℕ, take}
use Rattle.argot_graph_edges.specs.Adding.{Adds}
use Rattle.argot_facts.specs.Pointing.{IsPlaceOf}
use Rattle.argot_plain.specs.Lists.{In}
use Rattle.argot_links.specs.Runs.{run}
use Rattle.argot_graph_edges.specs.Inward.{ToArgument, AtLocation}
use Rattle.argot_graph_edges.proofs.arguments.meet_location.Given as goal

abbrev pub invariant-loop-n : goal.invariant-loop-n
invariant-loop-n l = Adds (λ e. (w : ℕ) × In w (take l.n l.list) × ToArgument l.drawing.points.now.nodes l.writes.order.now.escaping.now l.writes.order.now.control.now l.leaf l.site w e) l.initial.sketch l.sketch
