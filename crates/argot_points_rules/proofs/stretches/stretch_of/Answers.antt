use Rattle.std.proofs.Common.{rules}
use Rattle.std.proofs.lemmas.List.Sorted.{IsPartitionPoint-from_clause, IsPartitionedBy-leb, IsPartitionedBy-ltb}
use Rattle.std.proofs.Math.Dec.{leb, ltb}
use Rattle.argot_points_rules.specs.Stretches.{reached}
use Rattle.argot_points_rules.proofs.Enough.{begin_before_end, between, all_here}
use Rattle.argot_points_rules.proofs.stretches.stretch_of.Goals as goal

pub returns : goal.returns
returns c =
    let up = c.requires c.if-not-in_order.false in
    let begin = IsPartitionPoint-from_clause (λ d. ltb (reached d) c.args.place) _ _ c.partition_point-first.ensures.partitioned (IsPartitionedBy-ltb reached _ c.args.place up) (λ a r q k. search rules) in
    let stop = IsPartitionPoint-from_clause (λ d. leb (reached d) c.args.place) _ _ c.partition_point-end.ensures.partitioned (IsPartitionedBy-leb reached _ c.args.place up) (λ a r q k. search rules) in
    record {
      enough = between c.args.defs.now c.args.place c.partition_point-first.result c.partition_point-end.result begin stop;
      only = λ _. all_here c.args.defs.now c.args.place c.partition_point-first.result c.partition_point-end.result begin stop c.partition_point-end.ensures.bound;
    }

pub slice_bounds-result-count : goal.slice_bounds-result-count
slice_bounds-result-count c =
    let up = c.requires c.if-not-in_order.false in
    let begin = IsPartitionPoint-from_clause (λ d. ltb (reached d) c.args.place) _ _ c.partition_point-first.ensures.partitioned (IsPartitionedBy-ltb reached _ c.args.place up) (λ a r q k. search rules) in
    let stop = IsPartitionPoint-from_clause (λ d. leb (reached d) c.args.place) _ _ c.partition_point-end.ensures.partitioned (IsPartitionedBy-leb reached _ c.args.place up) (λ a r q k. search rules) in
    begin_before_end c.args.defs.now c.args.place c.partition_point-first.result c.partition_point-end.result begin stop c.partition_point-first.ensures.bound

pub slice_bounds-result-start : goal.slice_bounds-result-start
slice_bounds-result-start c = let o = slice_bounds-result-count c in search rules
