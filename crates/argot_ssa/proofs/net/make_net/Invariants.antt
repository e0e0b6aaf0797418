use Rattle.argot_ssa.specs.Places.{IsNet}
use Rattle.argot_ssa.proofs.net.make_net.Given as goal

abbrev pub invariant-loop-k : goal.invariant-loop-k
invariant-loop-k l = IsNet l.program l.function l.heads l.k l.net.onward.lists l.net.back.lists
