use Rattle.std.proofs.Common.{◌≡◌, ◌+◌, ◌-◌, arith}
use Rattle.std.proofs.lemmas.Grind.{common_steps}
use Rattle.argot_parse_tokens.proofs.OperatorLaws.{operators_more}
use Rattle.argot_parse_tokens.proofs.operators.operators_at.Goals as goal

pub loop-count-preserved : goal.loop-count-preserved
loop-count-preserved c = record {
  counted = grind (arith, common_steps, operators_more);
  most = omega arith;
  within = grind (arith, common_steps);
}
