use Rattle.std.proofs.Common.{arith}
use Rattle.argot_names_blocks.proofs.generics.paint_true.Goals as goal

pub returns : goal.returns
returns c = record {
  as_long = c.loop-token.invariant.as_long;
  inside = λ t low high within. c.loop-token.invariant.inside t low (omega (arith, c.min-end.ensures, c.loop-token-test.false)) within;
  others = c.loop-token.invariant.others;
}
