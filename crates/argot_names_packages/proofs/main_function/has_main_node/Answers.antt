use Rattle.std.proofs.Common.{arith}
use Rattle.argot_answers.proofs.Tests.{no_iff}
use Rattle.argot_names_packages.proofs.Mains.{main_below}
use Rattle.argot_names_packages.proofs.main_function.has_main_node.Goals as goal

pub returns : goal.returns
returns c = no_iff (λ m. c.loop-k.invariant m.0 (omega (arith, main_below c.args.file.now m.0 m.1, c.loop-k-test.false)) m.1)
