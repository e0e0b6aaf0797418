use Rattle.std.proofs.Common.{◌∙◌, [], length}
use Rattle.std.specs.Prelude.{if◌then◌else◌}
use Rattle.argot_io.specs.Taken.{taken_with}
use Rattle.argot_show.specs.TreeLines.{nodes_onto, count_line}
use Rattle.argot_show.proofs.TreeLaws.{prints}
use Rattle.argot_show.proofs.trees.print_parsed.Goals as goal

pub returns-in_ok-write_tree-in-Ok-clause-ok : goal.returns-in_ok-write_tree-in-Ok-clause-ok
returns-in_ok-write_tree-in-Ok-clause-ok g c =
    prints c.args.bytes.now c.args.tokens.now.items c.args.count (g.O.Sink.taken c.args.out.now) (g.O.Sink.taken c.write_tree.new.out) c.in-Ok.tree.nodes c.in-Ok.ensures.tree
    (c.in_ok-write_tree-in-Ok.ensures.ok ∙ (λ i. taken_with (g.O.Sink.taken c.args.out.now) (if c.args.count then count_line (length (c.as_slice.ensures i)) else nodes_onto [] c.args.bytes.now (c.deref.ensures.value i) [] (c.as_slice.ensures i))))
