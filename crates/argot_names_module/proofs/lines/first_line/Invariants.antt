use Rattle.std.proofs.Common.{◌+◌, ◌-◌, length}
use Rattle.argot_names_module.proofs.Searching.{IsSearched}
use Rattle.argot_names_module.proofs.lines.first_line.Given as goal

abbrev pub invariant-loop-at : goal.invariant-loop-at
invariant-loop-at l = IsSearched l.bytes l.word l.at

abbrev pub decreases-loop-at : goal.decreases-loop-at
decreases-loop-at l = length l.bytes + 1 - l.at
