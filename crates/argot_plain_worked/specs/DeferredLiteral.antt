-- The plain code of the program
--   1 package main
--   2 func source() string { return "secret" }
--   3 func sink(x string) {}
--   4 func sanitize(x string) string { return x }
--   5 func validate(x string) bool { return x == "a" }
--   6 var c bool
--   7 func main() {
--   8     x := "ok"
--   9     defer func() { sink(x) }()
--   10     x = source()
--   11 }
use Rattle.std.specs.Prelude.{◌++◌, ℕ, true, false, [], ◌∷◌, Some, None, codes}
use Rattle.argot_plain.specs.Code.{Code}
use Rattle.argot_plain.specs.Leak.{Leak, labelled}
use Rattle.argot_plain.specs.Machine.{State}
use Rattle.argot_plain.specs.Step.{Run}
use Rattle.argot_plain.specs.declared.functions.Function.{Function}
use Rattle.argot_plain.specs.declared.functions.Role.TheVariants.{Own}
use Rattle.argot_plain.specs.declared.instructions.Callee.TheVariants.{Static, Value}
use Rattle.argot_plain.specs.declared.instructions.Kind.TheVariants.{Call, Defer, Goto, Leave, New, Op, Read, RunDefers, Step, Write}
use Rattle.argot_text.specs.declared.path.PathStep.TheVariants.{Capture}
use Rattle.argot_plain_worked.specs.DeferredCall.{at, instr, function_0, function_1, function_2, function_3, function_4, helpers, asked}
use Rattle.argot_plain.specs.WellFormed.{WellFormed}
use Rattle.argot_plain_worked_rules.specs.Worked.{HasFlow, HasNoEdge}

-- main.main
abbrev pub function_5 : Function
function_5 = record { name = codes "main.main"; at = at 7 6; entry = 26; exit = 36; leave = 37; params = 0; results = 0; registers = (([] ∷ []) ∷ ([] ∷ []) ∷ ([] ∷ []) ∷ ([] ∷ []) ∷ ([] ∷ []) ∷ []); wraps = None; role = Own; ident = Some (record { «package» = codes "main"; receiver = codes ""; name = codes "main" }); has_env = false; external = None }

-- main.main$1
abbrev pub function_6 : Function
function_6 = record { name = codes "main.main$1"; at = at 9 8; entry = 38; exit = 43; leave = 44; params = 1; results = 0; registers = (([] ∷ []) ∷ ([] ∷ []) ∷ ([] ∷ []) ∷ ([] ∷ []) ∷ []); wraps = None; role = Own; ident = None; has_env = true; external = None }

abbrev pub deferred_literal : Code
deferred_literal = record {
  functions = function_0 ∷ function_1 ∷ function_2 ∷ function_3 ∷ function_4 ∷ function_5 ∷ function_6 ∷ [];
  instrs = helpers ++ (instr 7 6 (Goto 27) ∷ instr 8 2 (New 0 1) ∷ instr 8 7 (Op 1 []) ∷ instr 8 2 (Write 0 1) ∷ instr 9 8 (New 2 2) ∷ instr 9 8 (Step 3 2 (Capture 0 ∷ [])) ∷ instr 9 8 (Write 3 0) ∷ instr 9 2 (Defer (Value 2) []) ∷ instr 10 6 (Call (4 ∷ []) (Static 1) []) ∷ instr 10 2 (Write 0 4) ∷ instr 11 1 (RunDefers) ∷ instr 11 1 (Leave [])
      ∷ instr 9 8 (Goto 39) ∷ instr 9 8 (Step 1 0 (Capture 0 ∷ [])) ∷ instr 9 8 (Read 2 1 ([] ∷ [])) ∷ instr 9 22 (Read 3 2 ([] ∷ [])) ∷ instr 9 17 (Call [] (Static 2) (3 ∷ [])) ∷ instr 9 25 (RunDefers) ∷ instr 9 25 (Leave []) ∷ []);
  sites = (record { place = 0; result = 0; leaf = 0; shape = ([] ∷ []); dynamic = 21; function = None } ∷ record { place = 27; result = 0; leaf = 0; shape = ([] ∷ []); dynamic = 22; function = None } ∷ record { place = 30; result = 0; leaf = 0; shape = ((Capture 0 ∷ []) ∷ []); dynamic = 34; function = Some 6 } ∷ []);
  globals = ((record { «package» = codes "main"; receiver = []; name = codes "c" }, at 6 5, 0) ∷ []);
  methods = [];
  implements = [];
  files = codes "main.go" ∷ [];
}

-- some run leads to a state in which the label of the call at the place 34 is on argument 0 of the call at the place 42
abbrev pub ItLeaks : Type 0
ItLeaks = (n : ℕ) × (x : State) × Run deferred_literal (labelled asked) n x × Leak deferred_literal asked x 34 42 0

abbrev pub ItIsWellFormed : Type 0
ItIsWellFormed = WellFormed deferred_literal

-- so the relation has that flow
abbrev pub ItFlows : Type 0
ItFlows = HasFlow deferred_literal asked 34 42 0

-- what is captured is the variable: the secret comes to the sink through it, and by no edge from its call
abbrev pub ItIsTheVariable : Type 0
ItIsTheVariable = HasNoEdge deferred_literal asked 34 0 42 0
