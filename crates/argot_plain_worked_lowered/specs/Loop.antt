-- The program
--   1 package main
--   2
--   3 func main() {
--   4     s := 0
--   5     for i := 0; i < 3; i++ {
--   6         s += i
--   7     }
--   8     _ = s
--   9 }
use Rattle.std.specs.Prelude.{[]}
use Rattle.argot_plain.specs.Nodes.{mark}
use Rattle.argot_plain.specs.WellFormed.{WellFormed}
use Rattle.argot_lower_worked.specs.Loop.{code}
use Rattle.argot_plain_worked_rules.specs.Worked.{asked, Ends}
use Rattle.argot_plain_worked_lowered.specs.Words.{at_place, Bears}

abbrev pub ItIsWellFormed : Type 0
ItIsWellFormed = WellFormed code

-- what line 6 stores, at the place 14, is added in the next turn, at the place 13: there the sum, the register 0, has its label
abbrev pub ItTurns : Type 0
ItTurns = Bears code (at_place 14) 13 0 (mark 14 0 [])

abbrev pub ItEnds : Type 0
ItEnds = Ends code asked
