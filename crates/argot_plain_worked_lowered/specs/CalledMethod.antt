-- The program
--   1 package main
--   2
--   3 type I interface{ get() string }
--   4 type T struct{ s string }
--   5
--   6 func (t *T) get() string { return t.s }
--   7
--   8 func main() {
--   9     var i I = &T{"a"}
--   10     i.get()
--   11 }
use Rattle.std.specs.Prelude.{[]}
use Rattle.argot_plain.specs.Nodes.{mark}
use Rattle.argot_plain.specs.WellFormed.{WellFormed}
use Rattle.argot_lower_worked.specs.CalledMethod.{code}
use Rattle.argot_plain_worked_rules.specs.Worked.{asked, Ends}
use Rattle.argot_plain_worked_lowered.specs.Words.{at_place, Bears}

abbrev pub ItIsWellFormed : Type 0
ItIsWellFormed = WellFormed code

-- the field that line 6 reads, at the place 7, comes back through the wrapper to the call of line 10: behind it, at the place 21,
-- its result, the register 5, has the label
abbrev pub ItGives : Type 0
ItGives = Bears code (at_place 7) 21 5 (mark 7 0 [])

abbrev pub ItEnds : Type 0
ItEnds = Ends code asked
