use Rattle.std.proofs.Common.{◌+◌, ◌-◌, ◌/◌, ◌<◌, refl, arith, length}
use Rattle.std.proofs.lemmas.Option.{slice_get-get_or}
use Rattle.argot_facts.specs.Numbers.{node}
use Rattle.argot_facts.proofs.Ordered.{low_moves, high_moves}
use Rattle.argot_facts.proofs.nodes.first_from.Goals as goal

pub loop-low-preserved-then-stands_before : goal.loop-low-preserved-then-stands_before
loop-low-preserved-then-stands_before c =
    let i = c.loop-low.invariant in
    let ends = i.ends in
    let inside = i.inside in
    let k = c.loop-low.low + (c.loop-low.high - c.loop-low.low) / 2 in
    let l : k < length c.args.nodes.now = omega arith in
    record {
      ends = omega arith;
      inside = inside;
      low_end = low_moves c.args.nodes.now c.requires c.args.node k _ (slice_get-get_or c.args.nodes.now k (node 0 0 0) l) (c.if-stands_before.ensures.yes refl);
      high_end = i.high_end;
    }

pub loop-low-preserved : goal.loop-low-preserved
loop-low-preserved c =
    let i = c.loop-low.invariant in
    let ends = i.ends in
    let inside = i.inside in
    let k = c.loop-low.low + (c.loop-low.high - c.loop-low.low) / 2 in
    let l : k < length c.args.nodes.now = omega arith in
    record {
      ends = omega arith;
      inside = omega arith;
      low_end = i.low_end;
      high_end = high_moves c.args.nodes.now c.requires c.args.node k _ (slice_get-get_or c.args.nodes.now k (node 0 0 0) l) (λ b. let t = c.if-stands_before.ensures.no b in absurd cc);
    }
