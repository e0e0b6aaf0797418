-- The program
--   1 package main
--   2
--   3 func f() (r string) {
--   4     defer close(make(chan int))
--   5     r = "a"
--   6     return
--   7 }
--   8
--   9 func main() {
--   10     f()
--   11 }
use Rattle.std.specs.Prelude.{[]}
use Rattle.argot_plain.specs.Nodes.{mark}
use Rattle.argot_plain.specs.WellFormed.{WellFormed}
use Rattle.argot_lower_worked.specs.DeferredCall.{code}
use Rattle.argot_plain_worked_rules.specs.Worked.{asked, Ends}
use Rattle.argot_plain_worked_lowered.specs.Words.{at_place, Bears}

abbrev pub ItIsWellFormed : Type 0
ItIsWellFormed = WellFormed code

-- the named result is read behind the exit of f, at the place 14, and handed back: behind the call of line 10, at the place 21, its
-- result, the register 0, has the label
abbrev pub ItGives : Type 0
ItGives = Bears code (at_place 14) 21 0 (mark 14 0 [])

abbrev pub ItEnds : Type 0
ItEnds = Ends code asked
