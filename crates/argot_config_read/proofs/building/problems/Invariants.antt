use Rattle.std.proofs.Common.{◌≡◌, take, drop}
use Rattle.std.specs.List.{AllZip}
use Rattle.argot_config_read.specs.Built.{IsAskedOf}
use Rattle.argot_config_read.specs.Patterns.{patterns_of_problems}
use Rattle.argot_config_read.proofs.Following.{Follows}
use Rattle.argot_config_read.proofs.building.problems.Given as goal

abbrev pub invariant-loop-i : goal.invariant-loop-i
invariant-loop-i g l =
    Follows (patterns_of_problems 0 l.wanted) (patterns_of_problems l.i (drop l.i l.wanted))
    × AllZip IsAskedOf (take l.i l.wanted) l.made.items
    × (g.P.Patterns.refusals l.patterns ≡ g.P.Patterns.refusals l.fn.patterns)
    × (g.P.Patterns.last l.patterns ≡ g.P.Patterns.last l.fn.patterns)
