-- The plain code of the program
--   1 package main
--   2 func source() string { return "secret" }
--   3 func sink(x string) {}
--   4 func sanitize(x string) string { return x }
--   5 func validate(x string) bool { return x == "a" }
--   6 var c bool
--   7 type I interface{ m() string }
--   8 type A struct{}
--   9 func (a A) m() string { return source() }
--   10 type B struct{}
--   11 func (b B) m() string { return "ok" }
--   12 func main() {
--   13     var j I = A{}
--   14     var i I = B{}
--   15     sink(i.m())
--   16 }
-- and of the one that has sink(j.m()) in line 15.
use Rattle.std.specs.Prelude.{◌≡◌, ℕ, true, false, [], ◌∷◌, Some, None, codes}
use Rattle.argot_plain.specs.Code.{Code}
use Rattle.argot_plain.specs.Leak.{Leak, labelled}
use Rattle.argot_plain.specs.Machine.{State}
use Rattle.argot_plain.specs.Step.{Run}
use Rattle.argot_plain.specs.declared.functions.Function.{Function}
use Rattle.argot_plain.specs.declared.functions.Role.TheVariants.{Own, Wrapper}
use Rattle.argot_plain.specs.declared.instructions.Callee.TheVariants.{Method, Static}
use Rattle.argot_plain.specs.declared.instructions.Instr.{Instr}
use Rattle.argot_plain.specs.declared.instructions.Kind.{Kind}
use Rattle.argot_plain.specs.declared.instructions.Kind.TheVariants.{Branch, Call, Goto, Join, Leave, Move, New, Op, Read, RunDefers, Write}
use Rattle.argot_plain.specs.declared.problems.Problem.{Problem}
use Rattle.argot_text.specs.declared.position.Pos.{Pos}
use Rattle.argot_plain.specs.WellFormed.{WellFormed}
use Rattle.argot_plain_worked_rules.specs.Worked.{HasFlow, HasNoEdge}

abbrev at : ℕ → ℕ → Pos
at line col = record { file = 0; line = line; col = col }

abbrev instr : ℕ → ℕ → Kind → Instr
instr line col kind = record { kind = kind; at = at line col; tags = [] }

-- entry
abbrev pub function_0 : Function
function_0 = record { name = codes "entry"; at = at 12 6; entry = 0; exit = 3; leave = 4; params = 0; results = 0; registers = []; wraps = None; role = Own; ident = None; has_env = false; external = None }

-- main.source
abbrev pub function_1 : Function
function_1 = record { name = codes "main.source"; at = at 2 6; entry = 5; exit = 9; leave = 10; params = 0; results = 1; registers = (([] ∷ []) ∷ ([] ∷ []) ∷ []); wraps = None; role = Own; ident = Some (record { «package» = codes "main"; receiver = codes ""; name = codes "source" }); has_env = false; external = None }

-- main.sink
abbrev pub function_2 : Function
function_2 = record { name = codes "main.sink"; at = at 3 6; entry = 11; exit = 12; leave = 13; params = 1; results = 0; registers = (([] ∷ []) ∷ []); wraps = None; role = Own; ident = Some (record { «package» = codes "main"; receiver = codes ""; name = codes "sink" }); has_env = false; external = None }

-- main.sanitize
abbrev pub function_3 : Function
function_3 = record { name = codes "main.sanitize"; at = at 4 6; entry = 14; exit = 17; leave = 18; params = 1; results = 1; registers = (([] ∷ []) ∷ ([] ∷ []) ∷ []); wraps = None; role = Own; ident = Some (record { «package» = codes "main"; receiver = codes ""; name = codes "sanitize" }); has_env = false; external = None }

-- main.validate
abbrev pub function_4 : Function
function_4 = record { name = codes "main.validate"; at = at 5 6; entry = 19; exit = 24; leave = 25; params = 1; results = 1; registers = (([] ∷ []) ∷ ([] ∷ []) ∷ ([] ∷ []) ∷ ([] ∷ []) ∷ []); wraps = None; role = Own; ident = Some (record { «package» = codes "main"; receiver = codes ""; name = codes "validate" }); has_env = false; external = None }

-- main.A.m
abbrev pub function_5 : Function
function_5 = record { name = codes "main.A.m"; at = at 9 12; entry = 26; exit = 30; leave = 31; params = 1; results = 1; registers = ([] ∷ ([] ∷ []) ∷ ([] ∷ []) ∷ []); wraps = None; role = Own; ident = Some (record { «package» = codes "main"; receiver = codes "A"; name = codes "m" }); has_env = false; external = None }

-- main.B.m
abbrev pub function_6 : Function
function_6 = record { name = codes "main.B.m"; at = at 11 12; entry = 32; exit = 36; leave = 37; params = 1; results = 1; registers = ([] ∷ ([] ∷ []) ∷ ([] ∷ []) ∷ []); wraps = None; role = Own; ident = Some (record { «package» = codes "main"; receiver = codes "B"; name = codes "m" }); has_env = false; external = None }

-- main.main
abbrev pub function_7 : Function
function_7 = record { name = codes "main.main"; at = at 12 6; entry = 38; exit = 49; leave = 50; params = 0; results = 0; registers = (([] ∷ []) ∷ [] ∷ ([] ∷ []) ∷ ([] ∷ []) ∷ [] ∷ ([] ∷ []) ∷ ([] ∷ []) ∷ []); wraps = None; role = Own; ident = Some (record { «package» = codes "main"; receiver = codes ""; name = codes "main" }); has_env = false; external = None }

-- main.A.m
abbrev pub function_8 : Function
function_8 = record { name = codes "main.A.m"; at = at 9 12; entry = 51; exit = 54; leave = 55; params = 1; results = 1; registers = (([] ∷ []) ∷ [] ∷ ([] ∷ []) ∷ []); wraps = Some 5; role = Wrapper; ident = None; has_env = false; external = None }

-- main.B.m
abbrev pub function_9 : Function
function_9 = record { name = codes "main.B.m"; at = at 11 12; entry = 56; exit = 59; leave = 60; params = 1; results = 1; registers = (([] ∷ []) ∷ [] ∷ ([] ∷ []) ∷ []); wraps = Some 6; role = Wrapper; ident = None; has_env = false; external = None }

-- the program in which line 15 calls the method of the box in this register: 3 is i, 0 is j
abbrev pub calling : ℕ → Code
calling box = record {
  functions = function_0 ∷ function_1 ∷ function_2 ∷ function_3 ∷ function_4 ∷ function_5 ∷ function_6 ∷ function_7 ∷ function_8 ∷ function_9 ∷ [];
  instrs = instr 12 6 (Goto 1) ∷ instr 12 6 (Branch (2 ∷ [])) ∷ instr 12 6 (Call [] (Static 7) []) ∷ instr 12 6 (RunDefers) ∷ instr 12 6 (Leave [])
      ∷ instr 2 6 (Goto 6) ∷ instr 2 31 (Op 1 []) ∷ instr 2 24 (Move 0 1 []) ∷ instr 2 24 (Goto 9) ∷ instr 2 40 (RunDefers) ∷ instr 2 40 (Leave (0 ∷ []))
      ∷ instr 3 6 (Goto 12) ∷ instr 3 22 (RunDefers) ∷ instr 3 22 (Leave [])
      ∷ instr 4 6 (Goto 15) ∷ instr 4 34 (Move 1 0 []) ∷ instr 4 34 (Goto 17) ∷ instr 4 43 (RunDefers) ∷ instr 4 43 (Leave (1 ∷ []))
      ∷ instr 5 6 (Goto 20) ∷ instr 5 44 (Op 2 []) ∷ instr 5 39 (Op 3 (0 ∷ 2 ∷ [])) ∷ instr 5 32 (Move 1 3 []) ∷ instr 5 32 (Goto 24) ∷ instr 5 48 (RunDefers) ∷ instr 5 48 (Leave (1 ∷ []))
      ∷ instr 9 12 (Goto 27) ∷ instr 9 32 (Call (2 ∷ []) (Static 1) []) ∷ instr 9 25 (Move 1 2 []) ∷ instr 9 25 (Goto 30) ∷ instr 9 41 (RunDefers) ∷ instr 9 41 (Leave (1 ∷ []))
      ∷ instr 11 12 (Goto 33) ∷ instr 11 32 (Op 2 []) ∷ instr 11 25 (Move 1 2 []) ∷ instr 11 25 (Goto 36) ∷ instr 11 37 (RunDefers) ∷ instr 11 37 (Leave (1 ∷ []))
      ∷ instr 12 6 (Goto 39) ∷ instr 13 12 (Join 1 []) ∷ instr 13 12 (New 2 1) ∷ instr 13 12 (Write 2 1) ∷ instr 13 6 (Move 0 2 []) ∷ instr 14 12 (Join 4 []) ∷ instr 14 12 (New 5 2) ∷ instr 14 12 (Write 5 4) ∷ instr 14 6 (Move 3 5 []) ∷ instr 15 7 (Call (6 ∷ []) (Method box (codes "main.m")) []) ∷ instr 15 2 (Call [] (Static 2) (6 ∷ [])) ∷ instr 16 1 (RunDefers) ∷ instr 16 1 (Leave [])
      ∷ instr 9 12 (Goto 52) ∷ instr 9 12 (Read 1 0 []) ∷ instr 9 12 (Call (2 ∷ []) (Static 5) (1 ∷ [])) ∷ instr 9 12 (RunDefers) ∷ instr 9 12 (Leave (2 ∷ []))
      ∷ instr 11 12 (Goto 57) ∷ instr 11 12 (Read 1 0 []) ∷ instr 11 12 (Call (2 ∷ []) (Static 6) (1 ∷ [])) ∷ instr 11 12 (RunDefers) ∷ instr 11 12 (Leave (2 ∷ [])) ∷ [];
  sites = (record { place = 0; result = 0; leaf = 0; shape = ([] ∷ []); dynamic = 21; function = None } ∷ record { place = 40; result = 0; leaf = 0; shape = []; dynamic = 31; function = None } ∷ record { place = 44; result = 0; leaf = 0; shape = []; dynamic = 32; function = None } ∷ []);
  globals = ((record { «package» = codes "main"; receiver = []; name = codes "c" }, at 6 5, 0) ∷ []);
  methods = ((31, codes "main.m", 8) ∷ (32, codes "main.m", 9) ∷ []);
  implements = [];
  files = codes "main.go" ∷ [];
}

abbrev pub asked : Problem
asked = record { number = 0; name = codes "p"; sources = (1 ∷ []); sinks = (2 ∷ []); sanitizers = (3 ∷ []); validators = (4 ∷ []); points = []; source_places = []; escapes = false }

-- some run of the first program leads to its end
abbrev pub ItEnds : Type 0
ItEnds = (n : ℕ) × (x : State) × Run (calling 3) (labelled asked) n x × (x.ended ≡ true)

-- some run of the second leads to a state in which the label of the call at the place 27 is on argument 0 of the call at the place 48
abbrev pub ItLeaks : Type 0
ItLeaks = (n : ℕ) × (x : State) × Run (calling 0) (labelled asked) n x × Leak (calling 0) asked x 27 48 0

abbrev pub BothAreWellFormed : Type 0
BothAreWellFormed = WellFormed (calling 0) × WellFormed (calling 3)

-- the relation has that flow of the second
abbrev pub ItFlows : Type 0
ItFlows = HasFlow (calling 0) asked 27 48 0

-- what the method of the other type hands back comes to its own wrapper alone: not to the call in the one of the box's type
abbrev pub ItIsAnotherMethod : Type 0
ItIsAnotherMethod = HasNoEdge (calling 3) asked 31 0 58 0
