use Rattle.std.proofs.Common.{◌≡◌, [], replicate}
use Rattle.argot_first.proofs.flows.no_flows.Given as goal

abbrev pub invariant-loop : goal.invariant-loop
invariant-loop l = l.buckets.items ≡ replicate l.counter []
