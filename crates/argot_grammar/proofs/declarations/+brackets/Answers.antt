use Rattle.std.proofs.Common.{arith}
use Rattle.std.proofs.lemmas.Grind.{common_steps}
use Rattle.argot_parse_reader.proofs.Steps.{read_more}
use Rattle.argot_parse_reader.proofs.Grows.{kept_brackets}
use Rattle.argot_grammar.proofs.declarations.+brackets.Goals as goal

pub balanced-loop-fuel-preserved : goal.balanced-loop-fuel-preserved
balanced-loop-fuel-preserved t c = record {
  reads = grind (arith, common_steps, read_more, kept_brackets);
  kept = grind (arith, common_steps, kept_brackets);
  fewer = omega arith;
}
