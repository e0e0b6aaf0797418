-- The parts of a program as plain code, and what single places and registers have.
use Rattle.std.specs.Prelude.{ℕ, ◌==◌, Bool, true, false, Option, Some, List}
use Rattle.argot_plain.specs.Code.{Code, leaves_in}
use Rattle.argot_plain.specs.declared.functions.Function.{Function}
use Rattle.argot_plain.specs.declared.functions.Role.{Role}
use Rattle.argot_plain.specs.declared.functions.Role.TheVariants.{Own, Wrapper}
use Rattle.argot_plain.specs.declared.instructions.Kind.{Kind}
use Rattle.argot_plain.specs.declared.instructions.Kind.TheVariants.{Goto, Leave, RunDefers}
use Rattle.argot_plain_parts.specs.declared.parts.Parts.{Parts}
use Rattle.argot_text.specs.declared.path.PathStep.{PathStep}

-- the lists of the parts
abbrev pub code_of : Parts → Code
code_of p = record {
  functions = p.functions;
  instrs = p.instrs;
  sites = p.sites;
  globals = p.globals;
  methods = p.methods;
  implements = p.implements;
  files = p.files;
}

-- the leaf paths of a register of the function
abbrev pub leaves_of : Function → ℕ → List (List PathStep)
leaves_of fn r = leaves_in (Some fn) r

abbrev pub is_own : Role → Bool
is_own Own = true
is_own _ = false

abbrev pub is_wrapper : Role → Bool
is_wrapper Wrapper = true
is_wrapper _ = false

abbrev pub goes_to : Option Kind → ℕ → Bool
goes_to (Some (Goto target)) i = target == i
goes_to _ i = false

abbrev pub runs_defers : Option Kind → Bool
runs_defers (Some RunDefers) = true
runs_defers _ = false

abbrev pub hands_back : Option Kind → Bool
hands_back (Some (Leave from)) = true
hands_back _ = false
