use Rattle.std.proofs.Common.{arith}
use Rattle.std.proofs.lemmas.Grind.{common_steps}
use Rattle.argot_parse_reader.proofs.Grows.{kept}
use Rattle.argot_parse.proofs.receivers.bare_receiver.Goals as goal

pub returns-in_default-expect_list : goal.returns-in_default-expect_list
returns-in_default-expect_list c = grind (arith, common_steps, kept)

pub close-requires-2 : goal.close-requires-2
close-requires-2 c = grind (arith, common_steps, kept)
