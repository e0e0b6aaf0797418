use Rattle.std.proofs.Common.{refl, sym, ◌∙◌, arith}
use Rattle.argot_files.proofs.Keying.{parent_within}
use Rattle.argot_files.proofs.Marking.{mark_none, unwanted, orphan, mark_put}
use Rattle.argot_files.proofs.marks.mark.Goals as goal

pub index_mut-requires : goal.index_mut-requires
index_mut-requires c =
    omega (arith, parent_within c.args.nodes.now c.in-Some.p c.args.c (c.requires.parents.sound _ _ c.in-Some.ensures), c.requires.so_far.as_long)

pub returns-in-Some : goal.returns-in-Some
returns-in-Some c =
    mark_put c.args.nodes.now c.args.parents.now c.args.wanted c.args.marks.now.items _ c.args.c c.in-Some.p c.node_at.result c.requires.parents c.requires.so_far c.node_at.ensures (sym c.passes.ensures ∙ c.if-passes.true) c.in-Some.ensures refl

pub returns-in_default : goal.returns-in_default
returns-in_default c =
    mark_none c.args.nodes.now c.args.wanted c.args.marks.now.items c.args.c c.requires.so_far (orphan c.args.nodes.now c.args.parents.now c.args.wanted c.args.c c.requires.parents c.in_default.ensures)

pub returns-else-passes : goal.returns-else-passes
returns-else-passes c =
    mark_none c.args.nodes.now c.args.wanted c.args.marks.now.items c.args.c c.requires.so_far (unwanted c.args.nodes.now c.args.wanted c.args.c c.node_at.result c.node_at.ensures (sym c.passes.ensures ∙ c.if-passes.false))
