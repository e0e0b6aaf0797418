use Rattle.std.proofs.Common.{◌≡◌, ℕ, ◌≤◌, ◌<◌, ◌++◌, length}
use Rattle.argot_first.specs.Links.{bucket, flow_along}
use Rattle.argot_first.proofs.flows.push_along.Given as goal

abbrev pub invariant-loop-at : goal.invariant-loop-at
invariant-loop-at l = record {
  within : l.at ≤ length l.nexts;
  adds : (s : ℕ) → s < length l.fn.buckets → bucket l.buckets s ++ flow_along l.nexts l.base l.sink l.argument l.at s ≡ bucket l.fn.buckets s ++ flow_along l.nexts l.base l.sink l.argument l.fn.link s;
}

abbrev pub decreases-loop-at : goal.decreases-loop-at
decreases-loop-at l = l.at
