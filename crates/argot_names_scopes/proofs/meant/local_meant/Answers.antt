use Rattle.std.proofs.Common.{◌≡◌, Some, length, ap, sym, subst, arith}
use Rattle.std.specs.Prelude.{slice_get}
use Rattle.argot_names_blocks.specs.Blocks.{AreBlocks, IsInnermostIn}
use Rattle.argot_names_scopes.proofs.Walking.{first_reaches, next_reaches, lowers, in_list, found_here, found_nowhere}
use Rattle.argot_names_scopes.proofs.meant.local_meant.Goals as goal

pub innermost-at-requires : goal.innermost-at-requires
innermost-at-requires c = (c.args.names.now.tree.now.nodes, subst (AreBlocks c.args.names.now.tree.now.nodes) (sym c.as_slice-blocks.ensures.value) c.requires.brings.blocks)

pub loop-at-init : goal.loop-at-init
loop-at-init c =
    let here = subst (AreBlocks c.args.names.now.tree.now.nodes) (sym c.as_slice-blocks.ensures.value) c.requires.brings.blocks in
    first_reaches c.args.names.now c.requires c.args.token c.args.name.now c.innermost-at.result
    (subst (λ xs. IsInnermostIn c.args.names.now.tree.now.nodes xs c.args.token c.innermost-at.result) c.as_slice-blocks.ensures.value (c.innermost-at.ensures c.args.names.now.tree.now.nodes here))

pub block_at-block-requires : goal.block_at-block-requires
block_at-block-requires c =
    omega (arith, in_list c.args.names.now c.requires c.args.token c.args.name.now c.loop-at.at c.in-Some.k c.loop-at.invariant c.in-Some.is, ap length c.as_slice-blocks.ensures.value)

pub returns-in-Some-block_meant : goal.returns-in-Some-block_meant
returns-in-Some-block_meant c =
    found_here c.args.names.now c.requires c.args.token c.args.name.now c.loop-at.at c.in-Some.k c.block_at-block.result c.in-Some-block_meant.b c.loop-at.invariant c.in-Some.is
    (subst (λ xs. slice_get xs c.in-Some.k ≡ Some c.block_at-block.result) c.as_slice-blocks.ensures.value c.block_at-block.ensures)
    c.in-Some-block_meant.ensures

pub loop-at-smaller : goal.loop-at-smaller
loop-at-smaller c =
    lowers c.args.names.now c.requires c.args.token c.args.name.now c.loop-at.at c.in-Some.k c.block_at-block.result c.in-Some.is
    (subst (λ xs. slice_get xs c.in-Some.k ≡ Some c.block_at-block.result) c.as_slice-blocks.ensures.value c.block_at-block.ensures)

pub loop-at-preserved : goal.loop-at-preserved
loop-at-preserved c =
    next_reaches c.args.names.now c.requires c.args.token c.args.name.now c.loop-at.at c.in-Some.k c.block_at-block.result c.loop-at.invariant c.in-Some.is
    (subst (λ xs. slice_get xs c.in-Some.k ≡ Some c.block_at-block.result) c.as_slice-blocks.ensures.value c.block_at-block.ensures)
    c.in_default-block_meant.ensures

pub returns : goal.returns
returns c = found_nowhere c.args.names.now c.requires c.args.token c.args.name.now c.loop-at.at c.loop-at.invariant c.in_default.is
