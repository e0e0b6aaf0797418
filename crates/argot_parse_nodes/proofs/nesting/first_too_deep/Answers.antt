use Rattle.std.proofs.Common.{arith}
use borrow.Author.Count.{below_more}
use Rattle.argot_parse_nodes.proofs.NestingLaws.{open_next, counted_next}
use Rattle.argot_parse_nodes.proofs.nesting.first_too_deep.Goals as goal

pub loop-at-preserved : goal.loop-at-preserved
loop-at-preserved c =
    let inv = c.loop-at.invariant in
    let opened = open_next c.args.tokens.now c.loop-at.at c.loop-at.opened c.open_after-opened.result _ c.loop-at-test.true inv.opened inv.small c.open_after-opened.ensures in
    let counted = counted_next c.args.tokens.now c.loop-at.at c.loop-at.count c.count_after-count.result _ c.loop-at-test.true inv.counted inv.few c.count_after-count.ensures in
    record {
      within = omega arith;
      opened = opened.0;
      counted = counted.0;
      small = opened.1;
      few = counted.1;
      shallow = below_more _ _ inv.shallow (omega (arith, c.if-opened-count-gt-DEEPEST.false, inv.opened, inv.counted));
    }
