-- The program
--   1 package main
--   2
--   3 func main() {
--   4     x := "a"
--   5     f := func() { x = "b" }
--   6     f()
--   7 }
use Rattle.std.specs.Prelude.{[]}
use Rattle.argot_plain.specs.Nodes.{mark}
use Rattle.argot_plain.specs.WellFormed.{WellFormed}
use Rattle.argot_lower_worked.specs.Closure.{code}
use Rattle.argot_plain_worked_rules.specs.Worked.{asked, Ends}
use Rattle.argot_plain_worked_lowered.specs.Words.{at_place, Bears}

abbrev pub ItIsWellFormed : Type 0
ItIsWellFormed = WellFormed code

-- in the literal the register 2 refers to the captured variable, which is read out of the literal's object at the place 18: there
-- line 5, the place 20, assigns
abbrev pub ItAssigns : Type 0
ItAssigns = Bears code (at_place 18) 20 2 (mark 18 0 [])

abbrev pub ItEnds : Type 0
ItEnds = Ends code asked
