use Rattle.std.proofs.Common.{arith}
use Rattle.std.proofs.lemmas.Grind.{common_steps}
use Rattle.argot_show.proofs.TreeLaws.{indent_step}
use Rattle.argot_show.proofs.nodes.put_indent.Goals as goal

pub loop-preserved : goal.loop-preserved
loop-preserved c = grind (arith, common_steps, indent_step)
