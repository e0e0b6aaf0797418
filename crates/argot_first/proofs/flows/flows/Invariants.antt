use Rattle.std.proofs.Common.{◌≡◌, ◌++◌, drop}
use Rattle.argot_first.specs.Marks.{all_flows}
use Rattle.argot_first.proofs.flows.flows.Given as goal

abbrev pub invariant-loop-source : goal.invariant-loop-source
invariant-loop-source l = l.flows.items ++ all_flows l.functions l.base l.kinds l.source (drop l.source l.kinds) ≡ all_flows l.functions l.base l.kinds 0 l.kinds
