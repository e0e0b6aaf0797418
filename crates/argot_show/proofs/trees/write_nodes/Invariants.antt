use Rattle.std.proofs.Common.{◌≡◌, [], drop, reverse}
use Rattle.argot_io.specs.Taken.{taken_with}
use Rattle.argot_show.specs.Cursors.{IsCursor}
use Rattle.argot_show.specs.TreeLines.{nodes_onto}
use Rattle.argot_show.proofs.trees.write_nodes.Given as goal

abbrev pub invariant-loop-node : goal.invariant-loop-node
invariant-loop-node g l = record {
  there : IsCursor l.bytes l.cursor;
  faults : g.O.Sink.faults l.out ≡ g.O.Sink.faults l.initial.out;
  taken : taken_with (taken_with (g.O.Sink.taken l.out) l.text.items) (nodes_onto [] l.bytes l.tokens (reverse l.around.items) (drop l.node-index l.nodes)) ≡ taken_with (g.O.Sink.taken l.initial.out) (nodes_onto [] l.bytes l.tokens [] l.nodes);
}
