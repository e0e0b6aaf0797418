use Rattle.std.proofs.Common.{sym, ◌∙◌}
use Rattle.argot_names_blocks.proofs.Generic.{is_generic, not_generic, has_generic, lacks_generic}
use Rattle.argot_names_blocks.proofs.generics.cover.Goals as goal

pub returns-then-is_generic-clause-more : goal.returns-then-is_generic-clause-more
returns-then-is_generic-clause-more c =
    is_generic c.args.nodes.now c.args.k c.node_at-node.result c.args.table.now c.paint_true.new.table c.node_at-node.ensures (has_generic c.args.nodes.now c.args.marks.now c.args.k c.node_at-node.result c.requires.marks (sym c.is_generic.ensures ∙ c.if-is_generic.true)) c.paint_true.ensures c.requires.so_far

pub returns-else-is_generic-clause-more : goal.returns-else-is_generic-clause-more
returns-else-is_generic-clause-more c =
    not_generic c.args.nodes.now c.args.k c.node_at-node.result c.args.table.now c.node_at-node.ensures (lacks_generic c.args.nodes.now c.args.marks.now c.args.k c.node_at-node.result c.requires.marks c.node_at-node.ensures (sym c.is_generic.ensures ∙ c.if-is_generic.false)) c.requires.so_far
