use Rattle.std.proofs.Common.{take}
use Rattle.argot_graph_edges.specs.Adding.{Adds}
use Rattle.argot_graph_edges.specs.Meeting.{MeetOf, MeetsOf, MeetsOfAll}
use Rattle.argot_graph_edges.proofs.meets.meet_reads.Given as goal

abbrev pub invariant-loop-n : goal.invariant-loop-n
invariant-loop-n l = Adds (MeetsOf l.drawing.points.now.nodes l.order.escaping.now l.order.control.now l.site (take l.n l.reads) l.write) l.initial.sketch l.sketch
