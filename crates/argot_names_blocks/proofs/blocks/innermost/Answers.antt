use Rattle.std.proofs.Common.{rules}
use Rattle.std.specs.Prelude.{leb}
use Rattle.std.proofs.lemmas.List.Sorted.{IsPartitionPoint-from_clause, IsPartitionedBy-leb}
use Rattle.argot_names_blocks.specs.declared.blocks.Block.{Block}
use Rattle.argot_names_blocks.proofs.Outwards.{linked_of, innermost_is, in_order, begin_by_point, behind_point}
use Rattle.argot_names_blocks.proofs.blocks.innermost.Goals as goal

pub outwards-requires-clause-linked : goal.outwards-requires-clause-linked
outwards-requires-clause-linked c = linked_of c.requires.0 c.args.blocks.now c.requires.1

pub outwards-requires-clause-before : goal.outwards-requires-clause-before
outwards-requires-clause-before c =
    let up = in_order c.args.blocks.now c.requires.1.ascend in
    let point = IsPartitionPoint-from_clause (λ (b : Block). leb b.opens c.args.token) _ _ c.partition_point-count.ensures.partitioned (IsPartitionedBy-leb (λ (b : Block). b.opens) _ c.args.token up) (λ a r q k. search rules) in
    begin_by_point c.args.blocks.now c.partition_point-count.result c.args.token point

pub returns : goal.returns
returns c = λ tree are.
    let up = in_order c.args.blocks.now c.requires.1.ascend in
    let point = IsPartitionPoint-from_clause (λ (b : Block). leb b.opens c.args.token) _ _ c.partition_point-count.ensures.partitioned (IsPartitionedBy-leb (λ (b : Block). b.opens) _ c.args.token up) (λ a r q k. search rules) in
    innermost_is tree c.args.blocks.now are c.partition_point-count.result c.args.token c.outwards.result (begin_by_point c.args.blocks.now c.partition_point-count.result c.args.token point) (behind_point c.args.blocks.now c.partition_point-count.result c.args.token point) c.outwards.ensures
