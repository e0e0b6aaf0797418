-- The plain code of the program
--   1 package main
--   2 func source() string { return "secret" }
--   3 func sink(x string) {}
--   4 func sanitize(x string) string { return x }
--   5 func validate(x string) bool { return x == "a" }
--   6
--   7 type Box struct{ v string }
--   8 func touch(b *Box) {}
--   9 func main() {
--   10     b := &Box{}
--   11     sink(b.v)
--   12     b.v = source()
--   13 }
use Rattle.std.specs.Prelude.{◌≡◌, ℕ, true, false, [], ◌∷◌, Some, None, codes, ◌++◌, take, drop}
use Rattle.argot_plain.specs.Code.{Code}
use Rattle.argot_plain.specs.Leak.{labelled}
use Rattle.argot_plain.specs.Machine.{State}
use Rattle.argot_plain.specs.Step.{Run}
use Rattle.argot_plain.specs.declared.functions.Function.{Function}
use Rattle.argot_plain.specs.declared.functions.Role.TheVariants.{Own}
use Rattle.argot_plain.specs.declared.instructions.Callee.TheVariants.{Static}
use Rattle.argot_plain.specs.declared.instructions.Instr.{Instr}
use Rattle.argot_plain.specs.declared.instructions.Kind.{Kind}
use Rattle.argot_plain.specs.declared.instructions.Kind.TheVariants.{Branch, Call, Go, Goto, Join, Leave, Move, New, Op, Read, RunDefers, Step, Write}
use Rattle.argot_plain.specs.declared.problems.Problem.{Problem}
use Rattle.argot_text.specs.declared.position.Pos.{Pos}
use Rattle.argot_text.specs.declared.path.PathStep.TheVariants.{Field}
use Rattle.argot_plain.specs.WellFormed.{WellFormed}
use Rattle.argot_plain_worked_rules.specs.Worked.{HasEdge, HasNoEdge, HasNoFlow}
use Rattle.argot_facts.specs.declared.graphs.EdgeKind.TheVariants.{Plain, Reset}

abbrev at : ℕ → ℕ → Pos
at line col = record { file = 0; line = line; col = col }

abbrev instr : ℕ → ℕ → Kind → Instr
instr line col kind = record { kind = kind; at = at line col; tags = [] }

-- entry
abbrev pub function_0 : Function
function_0 = record { name = codes "entry"; at = at 9 6; entry = 0; exit = 3; leave = 4; params = 0; results = 0; registers = []; wraps = None; role = Own; ident = None; has_env = false; external = None }

-- main.source
abbrev pub function_1 : Function
function_1 = record { name = codes "main.source"; at = at 2 6; entry = 5; exit = 9; leave = 10; params = 0; results = 1; registers = (([] ∷ []) ∷ ([] ∷ []) ∷ []); wraps = None; role = Own; ident = Some (record { «package» = codes "main"; receiver = codes ""; name = codes "source" }); has_env = false; external = None }

-- main.sink
abbrev pub function_2 : Function
function_2 = record { name = codes "main.sink"; at = at 3 6; entry = 11; exit = 12; leave = 13; params = 1; results = 0; registers = (([] ∷ []) ∷ []); wraps = None; role = Own; ident = Some (record { «package» = codes "main"; receiver = codes ""; name = codes "sink" }); has_env = false; external = None }

-- main.sanitize
abbrev pub function_3 : Function
function_3 = record { name = codes "main.sanitize"; at = at 4 6; entry = 14; exit = 17; leave = 18; params = 1; results = 1; registers = (([] ∷ []) ∷ ([] ∷ []) ∷ []); wraps = None; role = Own; ident = Some (record { «package» = codes "main"; receiver = codes ""; name = codes "sanitize" }); has_env = false; external = None }

-- main.validate
abbrev pub function_4 : Function
function_4 = record { name = codes "main.validate"; at = at 5 6; entry = 19; exit = 24; leave = 25; params = 1; results = 1; registers = (([] ∷ []) ∷ ([] ∷ []) ∷ ([] ∷ []) ∷ ([] ∷ []) ∷ []); wraps = None; role = Own; ident = Some (record { «package» = codes "main"; receiver = codes ""; name = codes "validate" }); has_env = false; external = None }

-- main.touch
abbrev pub function_5 : Function
function_5 = record { name = codes "main.touch"; at = at 8 6; entry = 26; exit = 27; leave = 28; params = 1; results = 0; registers = (([] ∷ []) ∷ []); wraps = None; role = Own; ident = Some (record { «package» = codes "main"; receiver = codes ""; name = codes "touch" }); has_env = false; external = None }

-- main.main
abbrev pub function_6 : Function
function_6 = record { name = codes "main.main"; at = at 9 6; entry = 29; exit = 40; leave = 41; params = 0; results = 0; registers = (([] ∷ []) ∷ (((Field 0) ∷ []) ∷ []) ∷ ([] ∷ []) ∷ ([] ∷ []) ∷ ([] ∷ []) ∷ ([] ∷ []) ∷ ([] ∷ []) ∷ []); wraps = None; role = Own; ident = Some (record { «package» = codes "main"; receiver = codes ""; name = codes "main" }); has_env = false; external = None }

abbrev pub read_first : Code
read_first = record {
  functions = function_0 ∷ function_1 ∷ function_2 ∷ function_3 ∷ function_4 ∷ function_5 ∷ function_6 ∷ [];
  instrs = instr 9 6 (Goto 1) ∷ instr 9 6 (Branch (2 ∷ [])) ∷ instr 9 6 (Call [] (Static 6) []) ∷ instr 9 6 (RunDefers) ∷ instr 9 6 (Leave [])
      ∷ instr 2 6 (Goto 6) ∷ instr 2 31 (Op 1 []) ∷ instr 2 24 (Move 0 1 []) ∷ instr 2 24 (Goto 9) ∷ instr 2 40 (RunDefers) ∷ instr 2 40 (Leave (0 ∷ []))
      ∷ instr 3 6 (Goto 12) ∷ instr 3 22 (RunDefers) ∷ instr 3 22 (Leave [])
      ∷ instr 4 6 (Goto 15) ∷ instr 4 34 (Move 1 0 []) ∷ instr 4 34 (Goto 17) ∷ instr 4 43 (RunDefers) ∷ instr 4 43 (Leave (1 ∷ []))
      ∷ instr 5 6 (Goto 20) ∷ instr 5 44 (Op 2 []) ∷ instr 5 39 (Op 3 (0 ∷ 2 ∷ [])) ∷ instr 5 32 (Move 1 3 []) ∷ instr 5 32 (Goto 24) ∷ instr 5 48 (RunDefers) ∷ instr 5 48 (Leave (1 ∷ []))
      ∷ instr 8 6 (Goto 27) ∷ instr 8 21 (RunDefers) ∷ instr 8 21 (Leave [])
      ∷ instr 9 6 (Goto 30) ∷ instr 10 8 (Join 1 []) ∷ instr 10 7 (New 2 0) ∷ instr 10 7 (Write 2 1) ∷ instr 10 2 (Move 0 2 []) ∷ instr 11 7 (Step 3 0 ((Field 0) ∷ [])) ∷ instr 11 7 (Read 4 3 ([] ∷ [])) ∷ instr 11 2 (Call [] (Static 2) (4 ∷ [])) ∷ instr 12 2 (Step 5 0 ((Field 0) ∷ [])) ∷ instr 12 8 (Call (6 ∷ []) (Static 1) []) ∷ instr 12 2 (Write 5 6) ∷ instr 13 1 (RunDefers) ∷ instr 13 1 (Leave []) ∷ [];
  sites = (record { place = 31; result = 0; leaf = 0; shape = (((Field 0) ∷ []) ∷ []); dynamic = 34; function = None } ∷ []);
  globals = [];
  methods = [];
  implements = [];
  files = codes "main.go" ∷ [];
}

abbrev pub asked : Problem
asked = record { number = 0; name = codes "p"; sources = (1 ∷ []); sinks = (2 ∷ []); sanitizers = (3 ∷ []); validators = (4 ∷ []); points = []; source_places = []; escapes = false }

-- some run leads to the end of the program
abbrev pub ItEnds : Type 0
ItEnds = (n : ℕ) × (x : State) × Run read_first (labelled asked) n x × (x.ended ≡ true)

abbrev pub ItIsWellFormed : Type 0
ItIsWellFormed = WellFormed read_first

-- the text of line 12 comes to what is written there
abbrev pub ItIsWritten : Type 0
ItIsWritten = HasEdge read_first asked 38 0 Plain 39 0

-- and not to the sink, which read the box before: no other goroutine has the box, and nothing leads back
abbrev pub ItComesTooLate : Type 0
ItComesTooLate = HasNoFlow read_first asked 38 36 0

-- no edge leads from what line 12 writes to the read of line 11
abbrev pub ItIsNotReadBack : Type 0
ItIsNotReadBack = HasNoEdge read_first asked 39 0 35 0

-- The same program with `go touch(b)` in front of line 11: the places from there on are one later.
abbrev pub main_sharing : Function
main_sharing = record function_6 { exit = 41; leave = 42 }

abbrev pub shared_first : Code
shared_first = record read_first {
  functions = function_0 ∷ function_1 ∷ function_2 ∷ function_3 ∷ function_4 ∷ function_5 ∷ main_sharing ∷ [];
  instrs = take 34 read_first.instrs ++ instr 11 2 (Go (Static 5) (0 ∷ [])) ∷ drop 34 read_first.instrs;
}

abbrev pub ItIsWellShared : Type 0
ItIsWellShared = WellFormed shared_first

-- now the box is shared, and an edge leads from the write, at the place 40, to the read, at the place 36
abbrev pub ItMayBeReadBack : Type 0
ItMayBeReadBack = HasEdge shared_first asked 40 0 Reset 36 0
