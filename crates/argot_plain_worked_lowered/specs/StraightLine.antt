-- The program
--   1 package main
--   2
--   3 func source() string { return "s" }
--   4 func sink(x string)  {}
--   5
--   6 func main() {
--   7     x := source()
--   8     sink(x)
--   9 }
use Rattle.argot_plain.specs.WellFormed.{WellFormed}
use Rattle.argot_lower_worked.specs.StraightLine.{code}
use Rattle.argot_plain_worked_rules.specs.Worked.{asked, Leaks, Ends, HasFlow}

abbrev pub ItIsWellFormed : Type 0
ItIsWellFormed = WellFormed code

-- what line 7, the place 15, gets of source reaches the sink of line 8, the place 17
abbrev pub ItLeaks : Type 0
ItLeaks = Leaks code asked 15 17 0

abbrev pub ItEnds : Type 0
ItEnds = Ends code asked

abbrev pub ItFlows : Type 0
ItFlows = HasFlow code asked 15 17 0
