use Rattle.std.proofs.Common.{◌≡◌, take, drop}
use Rattle.std.specs.List.{AllZip}
use Rattle.argot_config_read.specs.Built.{IsMatcherOf}
use Rattle.argot_config_read.specs.Patterns.{patterns_of_matchers}
use Rattle.argot_config_read.proofs.Following.{Follows}
use Rattle.argot_config_read.proofs.building.each_matcher.Given as goal

abbrev pub invariant-loop-i : goal.invariant-loop-i
invariant-loop-i g l =
    Follows (patterns_of_matchers l.path 0 l.wanted) (patterns_of_matchers l.path l.i (drop l.i l.wanted))
    × AllZip IsMatcherOf (take l.i l.wanted) l.made.items
    × (g.P.Patterns.refusals l.patterns ≡ g.P.Patterns.refusals l.fn.patterns)
    × (g.P.Patterns.last l.patterns ≡ g.P.Patterns.last l.fn.patterns)
