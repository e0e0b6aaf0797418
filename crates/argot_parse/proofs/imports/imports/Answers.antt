use Rattle.std.proofs.Common.{arith}
use Rattle.std.proofs.lemmas.Grind.{common_steps}
use Rattle.argot_parse_reader.proofs.Steps.{read_more}
use Rattle.argot_parse_reader.proofs.Grows.{kept}
use Rattle.argot_parse.proofs.imports.imports.Goals as goal

pub loop-fuel-preserved : goal.loop-fuel-preserved
loop-fuel-preserved c = record {
  reads = grind (arith, common_steps, read_more);
  kept = grind (arith, common_steps, kept);
  fewer = omega arith;
}

pub returns-then-not-semicolon_at : goal.returns-then-not-semicolon_at
returns-then-not-semicolon_at c = grind (arith, common_steps, read_more, kept)
