use Rattle.std.proofs.Common.{arith}
use Rattle.std.proofs.lemmas.Grind.{common_steps}
use Rattle.argot_parse_reader.proofs.Grows.{kept}
use Rattle.argot_parse_reader.proofs.FileGrows.{kept_func_parts}
use Rattle.argot_parse.proofs.files.func_decl.Goals as goal

pub returns-in_default-2 : goal.returns-in_default-2
returns-in_default-2 c = grind (arith, common_steps, kept)

pub close-requires : goal.close-requires
close-requires c = grind (arith, common_steps, kept, kept_func_parts)
