use Rattle.std.proofs.Common.{arith}
use Rattle.std.proofs.lemmas.Grind.{common_steps}
use Rattle.argot_plain_parts.proofs.Handed.{no_results}
use Rattle.argot_plain_parts.proofs.calls.results_fit.Goals as goal

pub returns-then-i-from : goal.returns-then-i-from
returns-then-i-from c = grind (arith, common_steps, no_results)
