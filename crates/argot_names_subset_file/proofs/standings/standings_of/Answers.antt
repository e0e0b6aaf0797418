use Rattle.std.proofs.Common.{arith}
use Rattle.argot_names_subset_file.proofs.Standing.{so_far_more, so_far_all}
use Rattle.argot_names_subset_file.proofs.standings.standings_of.Goals as goal

pub loop-k-preserved : goal.loop-k-preserved
loop-k-preserved c =
    so_far_more c.args.uses.now c.args.decls.now c.args.types.now c.args.count c.requires.ordered c.loop-k.k c.use_at-use_.result c.feature_numbered.result c.is_type.result
    c.loop-k.named.items c.put_feature.new.named.items c.loop-k.typed.items c.put_type.new.typed.items c.use_at-use_.ensures (c.requires.within c.use_at-use_.result (c.loop-k.k, c.use_at-use_.ensures))
    c.feature_numbered.ensures c.is_type.ensures c.put_feature.ensures c.put_type.ensures c.loop-k.invariant

pub put_feature-requires : goal.put_feature-requires
put_feature-requires c = let low = c.requires.within c.use_at-use_.result (c.loop-k.k, c.use_at-use_.ensures) in omega (arith, low, c.loop-k.invariant.named_long)

pub put_type-requires : goal.put_type-requires
put_type-requires c = let low = c.requires.within c.use_at-use_.result (c.loop-k.k, c.use_at-use_.ensures) in omega (arith, low, c.loop-k.invariant.typed_long)

pub returns : goal.returns
returns c = so_far_all c.args.uses.now c.args.decls.now c.args.types.now c.args.count c.requires.ordered c.loop-k.k (record { named = c.loop-k.named; typed = c.loop-k.typed }) c.loop-k-test.false c.loop-k.invariant
