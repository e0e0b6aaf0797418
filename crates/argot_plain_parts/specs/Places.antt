-- Tests of the instruction at each place of a function.
use Rattle.std.specs.Prelude.{ℕ, ◌+◌, ◌-◌, ◌==◌, ◌&&◌, ◌||◌, not, Bool, true, false, Option, Some, None, List, [], ◌∷◌, nat_lt, nat_le, length, slice_get, is_none, drop, take}
use Rattle.argot_plain.specs.Code.{kind_of, defined, reads}
use Rattle.argot_plain.specs.WellFormed.{reference_registers}
use Rattle.argot_plain.specs.declared.functions.Function.{Function}
use Rattle.argot_plain.specs.declared.instructions.Callee.{Callee}
use Rattle.argot_plain.specs.declared.instructions.Callee.TheVariants.{Static, Value, Method}
use Rattle.argot_plain.specs.declared.instructions.Instr.{Instr}
use Rattle.argot_plain.specs.declared.instructions.Kind.{Kind}
use Rattle.argot_plain.specs.declared.instructions.Kind.TheVariants.{Op, Move, Join, Read, Call, Go, Defer, RunDefers, Leave, Goto, Branch, Panic}
use Rattle.argot_plain_parts.specs.Leaves.{is_root, are_joined, same_below, same_paths}
use Rattle.argot_plain_parts.specs.Numbers.{all_below}
use Rattle.argot_plain_parts.specs.Parts.{leaves_of}
use Rattle.argot_text.specs.declared.path.PathStep.{PathStep}

-- whether each place lies behind the first one of the function and not behind its exit
abbrev pub are_inside : Function → List ℕ → Bool
are_inside fn [] = true
are_inside fn (n ∷ ns) = nat_lt fn.entry n && nat_le n fn.exit && are_inside fn ns

-- whether an instruction goes on inside the function, behind its first place
abbrev pub goes_inside : Function → ℕ → Kind → Bool
goes_inside fn i (Leave from) = true
goes_inside fn i (Panic from) = true
goes_inside fn i (Goto target) = nat_le target fn.exit && ((target == i) || nat_lt fn.entry target)
goes_inside fn i (Branch targets) = are_inside fn targets
goes_inside fn i _ = nat_lt i fn.leave

-- whether an instruction may stand there, before or behind the exit
abbrev pub stands_right : Function → ℕ → Kind → Bool
stands_right fn i RunDefers = i == fn.exit
stands_right fn i (Leave from) = (i == fn.leave) && (length from == fn.results)
stands_right fn i (Read to at leaves) = true
stands_right fn i _ = nat_le i fn.exit || nat_le fn.leave i

-- whether each of the registers holds one reference
abbrev pub all_roots : Function → List ℕ → Bool
all_roots fn [] = true
all_roots fn (r ∷ rs) = is_root (leaves_of fn r) && all_roots fn rs

-- whether the leaves of the parts are leaves of the whole
abbrev pub parts_fit : Function → List (List PathStep) → List (List PathStep × ℕ) → Bool
parts_fit fn whole [] = true
parts_fit fn whole (x ∷ xs) = are_joined x.0 (leaves_of fn x.1) whole && parts_fit fn whole xs

-- whether the leaves of what an instruction gives go with what it is made from
abbrev pub values_fit : Function → Kind → Bool
values_fit fn (Op to from) = is_root (leaves_of fn to)
values_fit fn (Move to from path) = same_below path (leaves_of fn from) (leaves_of fn to)
values_fit fn (Join to parts) = parts_fit fn (leaves_of fn to) parts
values_fit fn (Read to at qs) = same_paths qs (leaves_of fn to)
values_fit fn _ = true

-- whether the arguments have the leaves of the parameters from the k-th on
abbrev pub args_fit : Function → Function → ℕ → List ℕ → Bool
args_fit fn target k [] = true
args_fit fn target k (r ∷ rs) = same_paths (leaves_of fn r) (leaves_of target k) && args_fit fn target (k + 1) rs

-- whether what a call gives has the leaves of what the target hands back
abbrev pub results_fit : Function → Function → List ℕ → List ℕ → Bool
results_fit fn target (r ∷ rs) (s ∷ ss) = same_paths (leaves_of fn r) (leaves_of target s) && results_fit fn target rs ss
results_fit fn target _ _ = true

abbrev pub returned_fit : Function → Function → List ℕ → Option Kind → Bool
returned_fit fn target to (Some (Leave from)) = results_fit fn target to from
returned_fit fn target to _ = true

-- whether the function takes what is handed to it
abbrev pub takes : Function → List ℕ → Function → Bool
takes fn args target = (length args == target.params) && not target.has_env && args_fit fn target 0 args

abbrev pub taken : Function → List ℕ → Option Function → Bool
taken fn args None = false
taken fn args (Some target) = takes fn args target

-- whether the function gives as many results as the call has, of the same leaves
abbrev pub gives : List Instr → Function → List ℕ → Function → Bool
gives instrs fn to target = (length to == target.results) && (not (is_none target.external) || returned_fit fn target to (kind_of (slice_get instrs target.leave)))

abbrev pub given : List Instr → Function → List ℕ → Option Function → Bool
given instrs fn to None = false
given instrs fn to (Some target) = gives instrs fn to target

abbrev pub hands_over : List Function → Function → List ℕ → Callee → Bool
hands_over fns fn args (Static h) = taken fn args (slice_get fns h)
hands_over fns fn args (Value r) = true
hands_over fns fn args (Method r name) = true

abbrev pub takes_back : List Function → List Instr → Function → List ℕ → Callee → Bool
takes_back fns instrs fn to (Static h) = given instrs fn to (slice_get fns h)
takes_back fns instrs fn to (Value r) = true
takes_back fns instrs fn to (Method r name) = true

-- whether a call by number hands over what the function takes and gets what it gives
abbrev pub calls_fit : List Function → List Instr → Function → Kind → Bool
calls_fit fns instrs fn (Call to callee args) = hands_over fns fn args callee && takes_back fns instrs fn to callee
calls_fit fns instrs fn (Go callee args) = hands_over fns fn args callee
calls_fit fns instrs fn (Defer callee args) = hands_over fns fn args callee
calls_fit fns instrs fn _ = true

-- whether an instruction may stand at the place of the function
abbrev pub place_fits : List Function → List Instr → Function → ℕ → Kind → Bool
place_fits fns instrs fn i kind = goes_inside fn i kind && stands_right fn i kind && all_below (length fn.registers) (defined kind) && all_below (length fn.registers) (reads kind)
    && all_roots fn (reference_registers kind) && values_fit fn kind && calls_fit fns instrs fn kind

-- whether the instructions may stand in the function from a place on
abbrev pub places_fit : List Function → List Instr → Function → ℕ → List Instr → Bool
places_fit fns instrs fn i [] = true
places_fit fns instrs fn i (x ∷ xs) = place_fits fns instrs fn i x.kind && places_fit fns instrs fn (i + 1) xs

-- the instructions of the function
abbrev pub body_of : List Instr → Function → List Instr
body_of instrs fn = take (fn.leave + 1 - fn.entry) (drop fn.entry instrs)

abbrev pub each_place_fits : List Function → List Instr → List Function → Bool
each_place_fits fns instrs [] = true
each_place_fits fns instrs (fn ∷ rest) = places_fit fns instrs fn fn.entry (body_of instrs fn) && each_place_fits fns instrs rest
