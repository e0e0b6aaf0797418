-- A package variable is written after it was read.
--   1 func source() string { return "secret" }
--   2 func sink(x string) {}
--   3 func main() {
--   4     sink(kept)
--   5     kept = source()
--   6 }
--   7 var kept string
-- Any goroutine may write a package variable at any time, so the relation has the flow, though no run of these lines has.
use Rattle.std.specs.Prelude.{[], ◌∷◌, codes}
use Rattle.argot_plain.specs.Code.{Code}
use Rattle.argot_plain.specs.WellFormed.{WellFormed}
use Rattle.argot_plain.specs.declared.functions.Function.{Function}
use Rattle.argot_plain.specs.declared.instructions.Callee.TheVariants.{Static}
use Rattle.argot_plain.specs.declared.instructions.Kind.TheVariants.{Read, Write, Global, Call, RunDefers, Leave, Goto}
use Rattle.argot_facts.specs.declared.graphs.EdgeKind.TheVariants.{Reset}
use Rattle.argot_plain_worked_rules.specs.Worked.{at_line, on, one_leaf, declared, program, site_at, asked, ComesClean, HasFlow, HasNoEdge, Leaks, HasEdge}

abbrev pub main_function : Function
main_function = declared (codes "main") 3 14 21 0 0 (one_leaf ∷ one_leaf ∷ one_leaf ∷ one_leaf ∷ [])

abbrev pub variables : Code
variables =
    record (program (main_function ∷ [])
    (on 3 (Goto 15) ∷ on 4 (Global 0 0) ∷ on 4 (Read 1 0 one_leaf) ∷ on 4 (Call [] (Static 2) (1 ∷ [])) ∷ on 5 (Global 2 0)
    ∷ on 5 (Call (3 ∷ []) (Static 1) []) ∷ on 5 (Write 2 3) ∷ on 6 RunDefers ∷ on 6 (Leave []) ∷ [])
    (site_at 0 one_leaf ∷ [])) { globals = (record { «package» = codes "main"; receiver = []; name = codes "kept" }, at_line 7, 0) ∷ [] }

abbrev pub ItIsWellFormed : Type 0
ItIsWellFormed = WellFormed variables

-- the variable comes clean to the sink of line 4, the place 17
abbrev pub ItComesClean : Type 0
ItComesClean = ComesClean variables asked 17 0

-- the secret comes to the sink by the variable alone: no edge leads there
abbrev pub ItGoesByTheVariable : Type 0
ItGoesByTheVariable = HasNoEdge variables asked 19 0 17 0

-- the same with line 5 before line 4
abbrev pub written_first : Code
written_first =
    record (program (main_function ∷ [])
    (on 3 (Goto 15) ∷ on 5 (Global 2 0) ∷ on 5 (Call (3 ∷ []) (Static 1) []) ∷ on 5 (Write 2 3) ∷ on 4 (Global 0 0)
    ∷ on 4 (Read 1 0 one_leaf) ∷ on 4 (Call [] (Static 2) (1 ∷ [])) ∷ on 6 RunDefers ∷ on 6 (Leave []) ∷ [])
    (site_at 0 one_leaf ∷ [])) { globals = (record { «package» = codes "main"; receiver = []; name = codes "kept" }, at_line 7, 0) ∷ [] }

abbrev pub ItIsWrittenWell : Type 0
ItIsWrittenWell = WellFormed written_first

-- there the secret, of the place 16, reaches the sink, at the place 20
abbrev pub ItWouldLeak : Type 0
ItWouldLeak = Leaks written_first asked 16 20 0

abbrev pub ItFlows : Type 0
ItFlows = HasFlow written_first asked 16 20 0

-- and in the program above the relation has an edge from the write of line 5 to the read of line 4
abbrev pub ItMayBeRead : Type 0
ItMayBeRead = HasEdge variables asked 20 0 Reset 16 0
