use Rattle.std.proofs.Common.{ℕ, take}
use Rattle.argot_graph_edges.specs.Adding.{Adds}
use Rattle.argot_facts.specs.Pointing.{IsPlaceOf}
use Rattle.argot_plain.specs.Lists.{In}
use Rattle.argot_links.specs.Runs.{run}
use Rattle.argot_graph_edges.specs.Inward.{ToArgument, AtLocation}
use Rattle.argot_graph_edges.proofs.arguments.meet_site.Given as goal

abbrev pub invariant-loop-n : goal.invariant-loop-n
invariant-loop-n l = Adds (λ e. (z : ℕ) × In z (take l.n l.places) × AtLocation l.drawing.points.now.nodes l.writes l.leaf l.site z e) l.initial.sketch l.sketch
