use Rattle.std.proofs.Common.{refl, sym, ◌∙◌, arith}
use Rattle.argot_files.proofs.Keying.{parent_within, key_none, key_unfit, key_put}
use Rattle.argot_files.proofs.keys.note_key.Goals as goal

pub node_at-requires : goal.node_at-requires
node_at-requires c = parent_within c.args.nodes.now c.in-Some.p c.args.c (c.requires.parents.sound _ _ c.in-Some.ensures)

pub index_mut-requires : goal.index_mut-requires
index_mut-requires c =
    omega (arith, parent_within c.args.nodes.now c.in-Some.p c.args.c (c.requires.parents.sound _ _ c.in-Some.ensures), c.requires.so_far.as_long)

pub returns-then-is_key : goal.returns-then-is_key
returns-then-is_key c =
    key_put c.args.nodes.now c.args.parents.now c.args.keys.now.items _ c.args.c c.in-Some.p c.node_at.result c.node_at-in-Some.result c.requires.formed c.requires.parents c.requires.so_far c.in-Some.ensures c.node_at.ensures c.node_at-in-Some.ensures (sym c.is_key.ensures ∙ c.if-is_key.true) refl

pub returns-else-is_key : goal.returns-else-is_key
returns-else-is_key c =
    key_unfit c.args.nodes.now c.args.parents.now c.args.keys.now.items c.args.c c.in-Some.p c.node_at.result c.node_at-in-Some.result c.requires.parents c.requires.so_far c.in-Some.ensures c.node_at.ensures c.node_at-in-Some.ensures (sym c.is_key.ensures ∙ c.if-is_key.false)

pub returns-in_default : goal.returns-in_default
returns-in_default c = key_none c.args.nodes.now c.args.parents.now c.args.keys.now.items c.args.c c.requires.parents c.requires.so_far c.in_default.ensures
