use Rattle.std.proofs.Common.{◌≡◌, ℕ, ◌<◌, ◌++◌, length, drop}
use Rattle.argot_first.specs.Links.{bucket, flows_along}
use Rattle.argot_first.proofs.flows.push_arguments.Given as goal

abbrev pub invariant-loop-k : goal.invariant-loop-k
invariant-loop-k l = (s : ℕ) → s < length l.fn.buckets → bucket l.buckets s ++ flows_along l.nexts l.heads l.base l.sink s l.k (drop l.k l.arguments) ≡ bucket l.fn.buckets s ++ flows_along l.nexts l.heads l.base l.sink s 0 l.arguments
