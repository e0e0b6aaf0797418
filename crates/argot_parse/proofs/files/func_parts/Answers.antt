use Rattle.std.proofs.Common.{arith}
use Rattle.std.proofs.lemmas.Grind.{common_steps}
use Rattle.argot_parse_reader.proofs.Grows.{kept}
use Rattle.argot_parse.proofs.files.func_parts.Goals as goal

pub returns-in_default-3 : goal.returns-in_default-3
returns-in_default-3 c = grind (arith, common_steps, kept)
