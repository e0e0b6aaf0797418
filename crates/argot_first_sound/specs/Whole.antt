-- A program of the first form as a program of plain code with all that the machine asks for, and the problem that is asked of it.
use Rattle.std.specs.Prelude.{ℕ, ◌+◌, ◌-◌, Bool, false, List, [], ◌∷◌, ◌++◌, Option, Some, None, map, replicate, codes, if◌then◌else◌}
use Rattle.std.specs.Str.{bytes_eq}
use Rattle.argot_text.specs.declared.position.Pos.{Pos}
use Rattle.argot_text.specs.declared.path.PathStep.{PathStep}
use Rattle.argot_plain.specs.declared.first.Kind as Few
use Rattle.argot_plain.specs.declared.first.Kind.TheVariants as few
use Rattle.argot_plain.specs.First as First
use Rattle.argot_plain.specs.First.{is_source, is_sink}
use Rattle.argot_plain.specs.Code.{Code}
use Rattle.argot_plain.specs.declared.functions.Function.{Function}
use Rattle.argot_plain.specs.declared.functions.Ident.{Ident}
use Rattle.argot_plain.specs.declared.functions.Role.TheVariants.{Own}
use Rattle.argot_plain.specs.declared.instructions.Callee.TheVariants.{Static}
use Rattle.argot_plain.specs.declared.instructions.Instr.{Instr}
use Rattle.argot_plain.specs.declared.instructions.Kind.{Kind}
use Rattle.argot_plain.specs.declared.instructions.Kind.TheVariants.{Op, Move, Call, RunDefers, Leave, Goto, Branch}
use Rattle.argot_plain.specs.declared.problems.Problem.{Problem}

-- the only leaf of a text
abbrev pub one_leaf : List (List PathStep)
one_leaf = [] ∷ []

abbrev pub whole_kind : Few.Kind → Kind
whole_kind (few.Op to from) = Op to from
whole_kind (few.Move to from) = Move to from []
whole_kind (few.Call to g args) = Call to (Static g) args
whole_kind few.RunDefers = RunDefers
whole_kind (few.Leave from) = Leave from
whole_kind (few.Goto target) = Goto target
whole_kind (few.Branch targets) = Branch targets

-- a place in the file, counted as one line
abbrev pub position : ℕ → Pos
position offset = record { file = 0; line = 1; col = offset + 1 }

abbrev pub whole_instr : First.Instr → Instr
whole_instr x = record { kind = whole_kind x.kind; at = position x.at; tags = [] }

-- the opening function has no name and is not declared
abbrev pub ident_of : List ℕ → Option Ident
ident_of [] = None
ident_of (b ∷ bs) = Some (record { «package» = codes "main"; receiver = []; name = b ∷ bs })

-- a register for each parameter, and one for each place: each holds a text
abbrev pub registers_of : First.Plain → ℕ
registers_of f = f.params + (f.leave + 1 - f.entry)

abbrev pub whole_function : First.Plain → Function
whole_function f = record {
  name = f.name;
  at = position 0;
  entry = f.entry;
  exit = f.exit;
  leave = f.leave;
  params = f.params;
  results = f.results;
  registers = replicate (registers_of f) one_leaf;
  wraps = None;
  role = Own;
  ident = ident_of f.name;
  has_env = false;
  external = None;
}

-- no objects, package variables, interfaces or externals
abbrev pub whole_of : First.Code → Code
whole_of code = record {
  functions = map whole_function code.functions;
  instrs = map whole_instr code.instrs;
  sites = [];
  globals = [];
  methods = [];
  implements = [];
  files = codes "main.go" ∷ [];
}

-- the numbers of the functions that pass a test, where the first has the number n
abbrev pub numbers_of : (First.Plain → Bool) → ℕ → List First.Plain → List ℕ
numbers_of test n [] = []
numbers_of test n (f ∷ fs) = (if test f then n ∷ [] else []) ++ numbers_of test (n + 1) fs

abbrev pub is_sanitizer : First.Plain → Bool
is_sanitizer f = bytes_eq f.name (codes "sanitize")

-- sources, sinks and sanitizers go by their names; nothing else is asked
abbrev pub asked : First.Code → Problem
asked code = record {
  number = 0;
  name = codes "default";
  sources = numbers_of is_source 0 code.functions;
  sinks = numbers_of is_sink 0 code.functions;
  sanitizers = numbers_of is_sanitizer 0 code.functions;
  validators = [];
  points = [];
  source_places = [];
  escapes = false;
}
