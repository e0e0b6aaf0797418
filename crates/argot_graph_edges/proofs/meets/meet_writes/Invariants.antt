use Rattle.std.proofs.Common.{take}
use Rattle.argot_graph_edges.specs.Adding.{Adds}
use Rattle.argot_graph_edges.specs.Meeting.{MeetOf, MeetsOf, MeetsOfAll}
use Rattle.argot_graph_edges.proofs.meets.meet_writes.Given as goal

abbrev pub invariant-loop-n : goal.invariant-loop-n
invariant-loop-n l = Adds (MeetsOfAll l.drawing.points.now.nodes l.order.escaping.now l.order.control.now l.site l.reads (take l.n l.writes)) l.initial.sketch l.sketch
