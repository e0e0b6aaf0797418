-- What the tests of one function say of its frame, role, name and registers.
use Rattle.std.proofs.Common.{◌≡◌, ℕ, zero, suc, ◌+◌, ◌<◌, ◌≤◌, Bool, true, false, List, [], ◌∷◌, Some, None, Option, refl, ap, inl, inr, arith, subst, eqb-true, ltb-true, leb-true}
use Rattle.std.specs.Prelude.{slice_get, length, ◌==◌, ◌&&◌, ◌||◌, not, is_none, is_some, nat_lt, nat_le, if◌then◌else◌}
use Rattle.std.proofs.lemmas.Bool.{and_parts}
use Rattle.std.proofs.lemmas.Option.{slice_get_cases}
use Rattle.argot_plain.specs.Lists.{IsDistinct}
use Rattle.argot_plain.specs.Code.{kind_of, leaves_in}
use Rattle.argot_plain.specs.declared.functions.Function.{Function}
use Rattle.argot_plain.specs.declared.functions.Ident.{Ident}
use Rattle.argot_plain.specs.declared.functions.Role.{Role}
use Rattle.argot_plain.specs.declared.functions.Role.TheVariants.{Own, Wrapper, Bound}
use Rattle.argot_plain.specs.declared.instructions.Instr.{Instr}
use Rattle.argot_plain.specs.declared.instructions.Kind.{Kind}
use Rattle.argot_plain.specs.declared.instructions.Kind.TheVariants.{Goto, Leave, RunDefers}
use Rattle.argot_plain_parts.proofs.Parted.{three, four, five, eight}
use Rattle.argot_plain_parts.proofs.Alike.{paths_distinct, root_is}
use Rattle.argot_plain_parts.proofs.Ranges.{each_function}
use Rattle.argot_plain_parts.specs.Leaves.{is_root, no_path_twice}
use Rattle.argot_plain_parts.specs.Parts.{leaves_of, is_own, is_wrapper, goes_to, runs_defers, hands_back}
use Rattle.argot_plain_parts.specs.Functions.{is_outside, is_body, has_frame, role_fits, name_fits, is_declared, wraps_fit, reference_fits, each_register_fits, function_fits, each_function_fits}
use Rattle.argot_text.specs.declared.path.PathStep.{PathStep}

pub record Fitted (fns : List Function) (instrs : List Instr) (files : ℕ) (fn : Function) : Type 0 where
  pub frame : has_frame instrs fn ≡ true
  pub role : role_fits fn.role fn.has_env ≡ true
  pub name : name_fits fn ≡ true
  pub wraps : wraps_fit fns fn.role fn.wraps ≡ true
  pub reference : reference_fits fn ≡ true
  pub params : fn.params ≤ length fn.registers
  pub registers : each_register_fits fn.registers ≡ true
  pub file : fn.at.file < files

pub fitted : (fns : List Function) (instrs : List Instr) (files : ℕ) (fn : Function) → function_fits fns instrs files fn ≡ true → Fitted fns instrs files fn
fitted fns instrs files fn h =
    let a = and_parts (has_frame instrs fn) (role_fits fn.role fn.has_env && (name_fits fn && (wraps_fit fns fn.role fn.wraps && (reference_fits fn && (nat_le fn.params (length fn.registers) && (each_register_fits fn.registers && nat_lt fn.at.file files)))))) (eight (has_frame instrs fn) (role_fits fn.role fn.has_env) (name_fits fn) (wraps_fit fns fn.role fn.wraps) (reference_fits fn) (nat_le fn.params (length fn.registers)) (each_register_fits fn.registers) (nat_lt fn.at.file files) h) in
    let b = and_parts (role_fits fn.role fn.has_env) (name_fits fn && (wraps_fit fns fn.role fn.wraps && (reference_fits fn && (nat_le fn.params (length fn.registers) && (each_register_fits fn.registers && nat_lt fn.at.file files))))) a.1 in
    let c = and_parts (name_fits fn) (wraps_fit fns fn.role fn.wraps && (reference_fits fn && (nat_le fn.params (length fn.registers) && (each_register_fits fn.registers && nat_lt fn.at.file files)))) b.1 in
    let d = and_parts (wraps_fit fns fn.role fn.wraps) (reference_fits fn && (nat_le fn.params (length fn.registers) && (each_register_fits fn.registers && nat_lt fn.at.file files))) c.1 in
    let e = and_parts (reference_fits fn) (nat_le fn.params (length fn.registers) && (each_register_fits fn.registers && nat_lt fn.at.file files)) d.1 in
    let f = and_parts (nat_le fn.params (length fn.registers)) (each_register_fits fn.registers && nat_lt fn.at.file files) e.1 in
    let g = and_parts (each_register_fits fn.registers) (nat_lt fn.at.file files) f.1 in
    record { frame = a.0; role = b.0; name = c.0; wraps = d.0; reference = e.0; params = leb-true fn.params (length fn.registers) f.0; registers = g.0; file = ltb-true fn.at.file files g.1 }

pub none_is : {A : Type 0} (o : Option A) → is_none o ≡ true → o ≡ None
none_is None h = refl
none_is (Some x) h = cc

pub own_is : (r : Role) → is_own r ≡ true → r ≡ Own
own_is Own h = refl
own_is Wrapper h = cc
own_is Bound h = cc

pub wrapper_is : (r : Role) → is_wrapper r ≡ true → r ≡ Wrapper
wrapper_is Wrapper h = refl
wrapper_is Own h = cc
wrapper_is Bound h = cc

goes_is : (o : Option Kind) (i : ℕ) → goes_to o i ≡ true → o ≡ Some (Goto i)
goes_is None i h = cc
goes_is (Some (Goto target)) i h = ap (λ n. Some (Goto n)) (eqb-true target i h)
goes_is (Some _) i h = cc

runs_is : (o : Option Kind) → runs_defers o ≡ true → o ≡ Some RunDefers
runs_is None h = cc
runs_is (Some RunDefers) h = refl
runs_is (Some _) h = cc

hands_is : (o : Option Kind) → hands_back o ≡ true → (from : List ℕ) × (o ≡ Some (Leave from))
hands_is None h = absurd cc
hands_is (Some (Leave from)) h = (from, refl)
hands_is (Some _) h = absurd cc

pub record Body (instrs : List Instr) (fn : Function) : Type 0 where
  pub entry : fn.entry < fn.exit
  pub exit : fn.exit < fn.leave
  pub begins : kind_of (slice_get instrs fn.entry) ≡ Some (Goto (fn.entry + 1))
  pub runs : kind_of (slice_get instrs fn.exit) ≡ Some RunDefers
  pub leaves : (from : List ℕ) × (kind_of (slice_get instrs fn.leave) ≡ Some (Leave from))

pub body : (instrs : List Instr) (fn : Function) → has_frame instrs fn ≡ true → fn.external ≡ None → Body instrs fn
body instrs fn h none =
    let m : is_body instrs fn ≡ true = subst (λ (o : Option Bool). (if is_none o then is_body instrs fn else is_outside instrs fn) ≡ true) none h in
    let a = and_parts (nat_lt fn.entry fn.exit) (nat_lt fn.exit fn.leave && (goes_to (kind_of (slice_get instrs fn.entry)) (fn.entry + 1) && (runs_defers (kind_of (slice_get instrs fn.exit)) && hands_back (kind_of (slice_get instrs fn.leave))))) (five (nat_lt fn.entry fn.exit) (nat_lt fn.exit fn.leave) (goes_to (kind_of (slice_get instrs fn.entry)) (fn.entry + 1)) (runs_defers (kind_of (slice_get instrs fn.exit))) (hands_back (kind_of (slice_get instrs fn.leave))) m) in
    let b = and_parts (nat_lt fn.exit fn.leave) (goes_to (kind_of (slice_get instrs fn.entry)) (fn.entry + 1) && (runs_defers (kind_of (slice_get instrs fn.exit)) && hands_back (kind_of (slice_get instrs fn.leave)))) a.1 in
    let c = and_parts (goes_to (kind_of (slice_get instrs fn.entry)) (fn.entry + 1)) (runs_defers (kind_of (slice_get instrs fn.exit)) && hands_back (kind_of (slice_get instrs fn.leave))) b.1 in
    let d = and_parts (runs_defers (kind_of (slice_get instrs fn.exit))) (hands_back (kind_of (slice_get instrs fn.leave))) c.1 in
    record { entry = ltb-true fn.entry fn.exit a.0; exit = ltb-true fn.exit fn.leave b.0; begins = goes_is (kind_of (slice_get instrs fn.entry)) (fn.entry + 1) c.0; runs = runs_is (kind_of (slice_get instrs fn.exit)) d.0; leaves = hands_is (kind_of (slice_get instrs fn.leave)) d.1 }

pub record Outside (instrs : List Instr) (fn : Function) : Type 0 where
  pub exit : fn.exit ≡ fn.entry
  pub leave : fn.leave ≡ fn.entry
  pub goto : kind_of (slice_get instrs fn.entry) ≡ Some (Goto fn.entry)
  pub own : fn.role ≡ Own

pub outside : (instrs : List Instr) (fn : Function) (flows : Bool) → has_frame instrs fn ≡ true → fn.external ≡ Some flows → Outside instrs fn
outside instrs fn flows h some =
    let m : is_outside instrs fn ≡ true = subst (λ (o : Option Bool). (if is_none o then is_body instrs fn else is_outside instrs fn) ≡ true) some h in
    let a = and_parts (fn.exit == fn.entry) (fn.leave == fn.entry && (goes_to (kind_of (slice_get instrs fn.entry)) fn.entry && is_own fn.role)) (four (fn.exit == fn.entry) (fn.leave == fn.entry) (goes_to (kind_of (slice_get instrs fn.entry)) fn.entry) (is_own fn.role) m) in
    let b = and_parts (fn.leave == fn.entry) (goes_to (kind_of (slice_get instrs fn.entry)) fn.entry && is_own fn.role) a.1 in
    let c = and_parts (goes_to (kind_of (slice_get instrs fn.entry)) fn.entry) (is_own fn.role) b.1 in
    record { exit = eqb-true fn.exit fn.entry a.0; leave = eqb-true fn.leave fn.entry b.0; goto = goes_is (kind_of (slice_get instrs fn.entry)) fn.entry c.0; own = own_is fn.role c.1 }

bound_takes : (r : Role) (e : Bool) → role_fits r e ≡ true → r ≡ Bound → e ≡ true
bound_takes Own e h is = cc
bound_takes Wrapper e h is = cc
bound_takes Bound e h is = h

wrapper_takes : (r : Role) (e : Bool) → role_fits r e ≡ true → r ≡ Wrapper → e ≡ false
wrapper_takes Own e h is = cc
wrapper_takes Bound e h is = cc
wrapper_takes Wrapper true h is = cc
wrapper_takes Wrapper false h is = refl

pub bound_env : (fn : Function) → role_fits fn.role fn.has_env ≡ true → fn.role ≡ Bound → fn.has_env ≡ true
bound_env fn h is = bound_takes fn.role fn.has_env h is

pub wrapper_env : (fn : Function) → role_fits fn.role fn.has_env ≡ true → fn.role ≡ Wrapper → fn.has_env ≡ false
wrapper_env fn h is = wrapper_takes fn.role fn.has_env h is

is_false : (b : Bool) → not b ≡ true → b ≡ false
is_false true h = cc
is_false false h = refl

pub declared_is : (fn : Function) (ident : Ident) → name_fits fn ≡ true → fn.ident ≡ Some ident → (fn.role ≡ Own) × (fn.has_env ≡ false)
declared_is fn ident h some =
    let m : (is_own fn.role && not fn.has_env) ≡ true = subst (λ (o : Option Ident). (is_none o || (is_own fn.role && not fn.has_env)) ≡ true) some h in
    let a = and_parts (is_own fn.role) (not fn.has_env) m in
    (own_is fn.role a.0, is_false fn.has_env a.1)

declared_some : {A : Type 0} (o : Option A) → is_some o ≡ true → (x : A) × (o ≡ Some x)
declared_some None h = absurd cc
declared_some (Some x) h = (x, refl)

pub declared : (o : Option Function) → is_declared o ≡ true → (fn : Function) × (o ≡ Some fn) × ((ident : Ident) × (fn.ident ≡ Some ident))
declared None h = absurd cc
declared (Some fn) h = (fn, refl, declared_some fn.ident h)

pub wraps_is : (fns : List Function) (fn : Function) (h : ℕ) → wraps_fit fns fn.role fn.wraps ≡ true → fn.wraps ≡ Some h → (fn.role ≡ Wrapper) × (is_declared (slice_get fns h) ≡ true)
wraps_is fns fn h fit some =
    let m : (is_wrapper fn.role && is_declared (slice_get fns h)) ≡ true = subst (λ (o : Option ℕ). wraps_fit fns fn.role o ≡ true) some fit in
    let a = and_parts (is_wrapper fn.role) (is_declared (slice_get fns h)) m in
    (wrapper_is fn.role a.0, a.1)

pub reference_is : (fn : Function) → reference_fits fn ≡ true → fn.has_env ≡ true → leaves_of fn 0 ≡ [] ∷ []
reference_is fn h env = root_is (leaves_of fn 0) (subst (λ (b : Bool). (not b || is_root (leaves_of fn 0)) ≡ true) env h)

-- registers
pub record IsShort (qs : List (List PathStep)) : Type 0 where
  pub few : length qs ≤ 4096
  pub distinct : IsDistinct qs

none_short : IsShort []
none_short = record { few = omega arith; distinct = λ a b x e f. absurd cc }

register_short : (registers : List (List (List PathStep))) (r : ℕ) (qs : List (List PathStep)) → each_register_fits registers ≡ true → slice_get registers r ≡ Some qs → IsShort qs
register_short [] r qs h e = absurd cc
register_short (x ∷ registers) zero qs h e =
    let a = and_parts (nat_le (length x) 4096) (no_path_twice x && each_register_fits registers) (three (nat_le (length x) 4096) (no_path_twice x) (each_register_fits registers) h) in
    let b = and_parts (no_path_twice x) (each_register_fits registers) a.1 in
    subst IsShort (let s : x ≡ qs = cc in s) (record { few = leb-true (length x) 4096 a.0; distinct = paths_distinct x b.0 })
register_short (x ∷ registers) (suc r) qs h e =
    let a = and_parts (nat_le (length x) 4096) (no_path_twice x && each_register_fits registers) (three (nat_le (length x) 4096) (no_path_twice x) (each_register_fits registers) h) in
    register_short registers r qs (and_parts (no_path_twice x) (each_register_fits registers) a.1).1 e

of_function : (fn : Function) (r : ℕ) → each_register_fits fn.registers ≡ true → IsShort (leaves_of fn r)
of_function fn r h = elim (slice_get_cases fn.registers r).1 [
  | inl some ↦ rw some.2 (register_short fn.registers r some.0 h some.2)
  | inr none ↦ rw none.1 none_short
]

pub all_short : (fns : List Function) (instrs : List Instr) (files : ℕ) (g r : ℕ) → each_function_fits fns instrs files fns ≡ true → IsShort (leaves_in (slice_get fns g) r)
all_short fns instrs files g r h = elim (slice_get_cases fns g).1 [
  | inl some ↦ rw some.2 (of_function some.0 r (fitted fns instrs files some.0 (each_function fns instrs files fns g some.0 h some.2)).registers)
  | inr none ↦ rw none.1 none_short
]
