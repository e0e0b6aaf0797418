-- What is overwritten is gone from a register, and from an object.
--   1 func source() string { return "secret" }
--   2 func sink(x string) {}
--   3 func main() {
--   4     x := source()
--   5     x = "ok"
--   6     sink(x)
--   7     b := new(string)
--   8     *b = source()
--   9     *b = "ok"
--  10     sink(*b)
--  11 }
-- No run brings a secret to either sink. The relation knows it of line 6, since the definition of line 4 doesn't reach it. Of
-- line 10 it doesn't: a write of an object never takes away what the relation has of earlier ones.
use Rattle.std.specs.Prelude.{[], ◌∷◌, codes}
use Rattle.argot_plain.specs.Code.{Code}
use Rattle.argot_plain.specs.WellFormed.{WellFormed}
use Rattle.argot_plain.specs.declared.functions.Function.{Function}
use Rattle.argot_plain.specs.declared.instructions.Callee.TheVariants.{Static}
use Rattle.argot_plain.specs.declared.instructions.Kind.TheVariants.{Op, Move, New, Read, Write, Call, RunDefers, Leave, Goto}
use Rattle.argot_facts.specs.declared.graphs.EdgeKind.TheVariants.{Reset}
use Rattle.argot_plain_worked_rules.specs.Worked.{HasEdge, HasNoEdge, on, one_leaf, declared, program, site_at, asked, ComesClean, HasFlow, HasNoFlow, Leaks}

abbrev pub main_function : Function
main_function = declared (codes "main") 3 14 26 0 0 (one_leaf ∷ one_leaf ∷ one_leaf ∷ one_leaf ∷ one_leaf ∷ one_leaf ∷ one_leaf ∷ [])

abbrev pub overwritten : Code
overwritten =
    program (main_function ∷ [])
    (on 3 (Goto 15) ∷ on 4 (Call (0 ∷ []) (Static 1) []) ∷ on 5 (Op 1 []) ∷ on 5 (Move 0 1 []) ∷ on 6 (Call [] (Static 2) (0 ∷ []))
    ∷ on 7 (New 2 0) ∷ on 8 (Call (3 ∷ []) (Static 1) []) ∷ on 8 (Write 2 3) ∷ on 9 (Op 4 []) ∷ on 9 (Write 2 4)
    ∷ on 10 (Read 5 2 one_leaf) ∷ on 10 (Call [] (Static 2) (5 ∷ [])) ∷ on 11 RunDefers ∷ on 11 (Leave []) ∷ [])
    (site_at 19 one_leaf ∷ [])

abbrev pub ItIsWellFormed : Type 0
ItIsWellFormed = WellFormed overwritten

-- the secret of line 4, the place 15, comes clean to the sink of line 6, the place 18
abbrev pub ItComesClean : Type 0
ItComesClean = ComesClean overwritten asked 18 0

-- the secret of line 8, the place 20, comes clean to the sink of line 10, the place 25
abbrev pub ItComesCleanAgain : Type 0
ItComesCleanAgain = ComesClean overwritten asked 25 0

-- the relation has an edge from the write of line 8 to the read of line 10
abbrev pub ItMayBeRead : Type 0
ItMayBeRead = HasEdge overwritten asked 21 0 Reset 24 0

-- the secret of line 4 is gone from the register in line 6: no edge leads there
abbrev pub ItIsGone : Type 0
ItIsGone = HasNoEdge overwritten asked 15 0 18 0

-- so the relation has no flow there
abbrev pub ItFlowsNot : Type 0
ItFlowsNot = HasNoFlow overwritten asked 15 18 0

abbrev pub kept_function : Function
kept_function = declared (codes "main") 3 14 22 0 0 (one_leaf ∷ one_leaf ∷ one_leaf ∷ one_leaf ∷ [])

-- the same without the lines 5 and 9
abbrev pub kept_program : Code
kept_program =
    program (kept_function ∷ [])
    (on 3 (Goto 15) ∷ on 4 (Call (0 ∷ []) (Static 1) []) ∷ on 6 (Call [] (Static 2) (0 ∷ [])) ∷ on 7 (New 1 0)
    ∷ on 8 (Call (2 ∷ []) (Static 1) []) ∷ on 8 (Write 1 2) ∷ on 10 (Read 3 1 one_leaf) ∷ on 10 (Call [] (Static 2) (3 ∷ []))
    ∷ on 11 RunDefers ∷ on 11 (Leave []) ∷ [])
    (site_at 17 one_leaf ∷ [])

-- without line 5 the secret of line 4 would have leaked in line 6, and without line 9 that of line 8 in line 10
abbrev pub ItWouldLeak : Type 0
ItWouldLeak = Leaks kept_program asked 15 16 0

abbrev pub ItWouldLeakAgain : Type 0
ItWouldLeakAgain = Leaks kept_program asked 18 21 0

abbrev pub ItIsKeptWell : Type 0
ItIsKeptWell = WellFormed kept_program

abbrev pub ItWouldFlow : Type 0
ItWouldFlow = HasFlow kept_program asked 15 16 0
