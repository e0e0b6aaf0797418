-- Tests of functions: their ranges, bodies, roles and registers.
use Rattle.std.specs.Prelude.{ℕ, ◌+◌, ◌==◌, ◌&&◌, ◌||◌, not, Bool, true, false, Option, Some, None, List, [], ◌∷◌, nat_lt, nat_le, length, slice_get, is_none, is_some, if◌then◌else◌}
use Rattle.argot_plain.specs.Code.{kind_of}
use Rattle.argot_plain.specs.declared.functions.Function.{Function}
use Rattle.argot_plain.specs.declared.functions.Role.{Role}
use Rattle.argot_plain.specs.declared.functions.Role.TheVariants.{Own, Wrapper, Bound}
use Rattle.argot_plain.specs.declared.instructions.Instr.{Instr}
use Rattle.argot_plain_parts.specs.Leaves.{is_root, no_path_twice}
use Rattle.argot_plain_parts.specs.Parts.{leaves_of, is_own, is_wrapper, goes_to, runs_defers, hands_back}
use Rattle.argot_text.specs.declared.path.PathStep.{PathStep}

-- whether the functions stand one behind the other from a place to the end
abbrev pub ranges_fit : ℕ → ℕ → List Function → Bool
ranges_fit next count [] = next == count
ranges_fit next count (fn ∷ fns) = (fn.entry == next) && nat_le fn.entry fn.exit && nat_le fn.exit fn.leave && nat_lt fn.leave count && ranges_fit (fn.leave + 1) count fns

-- whether the first function can be the entry
abbrev pub has_entry : List Function → Bool
has_entry [] = false
has_entry (fn ∷ fns) = is_none fn.external && (fn.params == 0) && (fn.results == 0) && is_own fn.role && is_none fn.ident

abbrev pub is_outside : List Instr → Function → Bool
is_outside instrs fn = (fn.exit == fn.entry) && (fn.leave == fn.entry) && goes_to (kind_of (slice_get instrs fn.entry)) fn.entry && is_own fn.role

abbrev pub is_body : List Instr → Function → Bool
is_body instrs fn = nat_lt fn.entry fn.exit && nat_lt fn.exit fn.leave && goes_to (kind_of (slice_get instrs fn.entry)) (fn.entry + 1) && runs_defers (kind_of (slice_get instrs fn.exit)) && hands_back (kind_of (slice_get instrs fn.leave))

-- whether the places of a function begin and end as those of an external or a body
abbrev pub has_frame : List Instr → Function → Bool
has_frame instrs fn = if is_none fn.external then is_body instrs fn else is_outside instrs fn

-- whether the role goes with the reference by which the function is called
abbrev pub role_fits : Role → Bool → Bool
role_fits Own has_env = true
role_fits Wrapper has_env = not has_env
role_fits Bound has_env = has_env

-- whether a function with a name has the role of one and doesn't take its reference
abbrev pub name_fits : Function → Bool
name_fits fn = is_none fn.ident || (is_own fn.role && not fn.has_env)

abbrev pub is_declared : Option Function → Bool
is_declared None = false
is_declared (Some fn) = is_some fn.ident

-- whether the method that a wrapper calls is a declared one
abbrev pub wraps_fit : List Function → Role → Option ℕ → Bool
wraps_fit fns role None = true
wraps_fit fns role (Some h) = is_wrapper role && is_declared (slice_get fns h)

abbrev pub reference_fits : Function → Bool
reference_fits fn = not fn.has_env || is_root (leaves_of fn 0)

abbrev pub each_register_fits : List (List (List PathStep)) → Bool
each_register_fits [] = true
each_register_fits (paths ∷ registers) = nat_le (length paths) 4096 && no_path_twice paths && each_register_fits registers

-- whether a function is what functions of these programs are, but for its places
abbrev pub function_fits : List Function → List Instr → ℕ → Function → Bool
function_fits fns instrs files fn = has_frame instrs fn && role_fits fn.role fn.has_env && name_fits fn && wraps_fit fns fn.role fn.wraps && reference_fits fn
    && nat_le fn.params (length fn.registers) && each_register_fits fn.registers && nat_lt fn.at.file files

abbrev pub each_function_fits : List Function → List Instr → ℕ → List Function → Bool
each_function_fits fns instrs files [] = true
each_function_fits fns instrs files (fn ∷ rest) = function_fits fns instrs files fn && each_function_fits fns instrs files rest
