use Rattle.std.proofs.Common.{◌≡◌, ◌+◌, length, refl, sym, ap, ◌∙◌, subst, arith}
use Rattle.argot_names_blocks.specs.Blocks.{BeginBy, IsLastTo, AreBlocksUpTo}
use Rattle.argot_names_blocks.proofs.Enclosing.{passes_by, begin_by, encloses}
use Rattle.argot_names_blocks.proofs.blocks.enclose.Goals as goal

pub outwards-outer-requires-clause-before : goal.outwards-outer-requires-clause-before
outwards-outer-requires-clause-before c =
    let count : c.len.result ≡ length c.args.blocks.now.items = omega (arith, c.len.ensures, c.as_slice.ensures.len, ap length c.as_slice.ensures.value) in
    subst (λ x. BeginBy c.as_slice.result.now x c.node_at-node.result.token) (sym count)
    (subst (λ xs. BeginBy xs (length c.args.blocks.now.items) c.node_at-node.result.token) (sym c.as_slice.ensures.value)
    (begin_by c.args.nodes.now c.args.k c.node_at-node.result c.args.blocks.now.items c.requires.formed c.requires.so_far c.node_at-node.ensures))

pub returns-in_ok-push : goal.returns-in_ok-push
returns-in_ok-push c =
    let count : c.len.result ≡ length c.args.blocks.now.items = omega (arith, c.len.ensures, c.as_slice.ensures.len, ap length c.as_slice.ensures.value) in
    let last = subst (λ x. IsLastTo c.args.blocks.now.items x c.node_at-node.result.token c.outwards-outer.result) count (subst (λ xs. IsLastTo xs c.len.result c.node_at-node.result.token c.outwards-outer.result) c.as_slice.ensures.value c.outwards-outer.ensures) in
    subst (AreBlocksUpTo c.args.nodes.now (c.args.k + 1)) (sym c.in_ok-push.ensures.items)
    (encloses c.args.nodes.now c.args.k c.node_at-node.result c.args.blocks.now.items (record { opens = c.node_at-node.result.token; closes = c.node_at-node.result.last; outer = c.outwards-outer.result }) c.requires.formed c.requires.so_far c.node_at-node.ensures (sym c.is_block.ensures ∙ c.if-is_block.true) refl refl last)

pub returns-else-is_block : goal.returns-else-is_block
returns-else-is_block c =
    passes_by c.args.nodes.now c.args.k c.node_at-node.result c.args.blocks.now.items c.requires.so_far c.node_at-node.ensures (sym c.is_block.ensures ∙ c.if-is_block.false)
