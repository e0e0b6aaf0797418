-- `if`, and the tests of values by functions that its condition may be.
use Rattle.std.specs.Prelude.{ℕ, Bool, true, false, List, [], ◌∷◌, Option, Some, None, if◌then◌else◌}
use Rattle.argot_plain.specs.declared.instructions.Kind.TheVariants.{Goto, Passed}
use Rattle.argot_text.specs.declared.position.Pos.{Pos}
use Rattle.argot_tree.specs.declared.node_kind.NodeKind.{NodeKind}
use Rattle.argot_tree.specs.declared.node_kind.NodeKind.TheVariants as nodes
use Rattle.argot_lower_scripts.specs.Script.{Around, Statement, Script, until, part, gets}
use Rattle.argot_lower_scripts.specs.Words.{nothing, does, or_at, value}
use Rattle.argot_lower_locals.specs.Typed.{Typed, MethodOf, Selected}
use Rattle.argot_lower_locals.specs.Nodes.{holds, kind, kids, strip, written}
use Rattle.argot_lower_locals.specs.Types.{form, is_interface}
use Rattle.argot_lower_locals.specs.Names.{Meaning, Function, meaning, selected}
use Rattle.argot_lower_locals.specs.Places.{held_by_name}

abbrev pub method_declared : Typed → Option MethodOf → Option ℕ
method_declared t None = None
method_declared t (Some m) = if is_interface (form t m.holder) then None else m.method.node

abbrev pub method_selected : Typed → Option Selected → Option ℕ
method_selected t None = None
method_selected t (Some s) = method_declared t s.method

abbrev pub static_by : Typed → ℕ → Meaning → Option ℕ
static_by t g (Function m) = Some m
static_by t g _ = method_selected t (selected t g)

-- the function or declared method that a callee names, parentheses passed over
abbrev pub static_function : Typed → ℕ → Option ℕ
static_function t f = static_by t (strip t f) (meaning t (strip t f))

abbrev pub register_by : Typed → ℕ → NodeKind → Option ℕ
register_by t n nodes.NameUse = held_by_name t (meaning t n)
register_by t n _ = None

-- the register variable that an argument names, parentheses passed over
abbrev pub register_named : Typed → ℕ → Option ℕ
register_named t n = register_by t (strip t n) (kind t (strip t n))

abbrev pub passed_one : Pos → ℕ → Option ℕ → Script → Script
passed_one p m None c = c
passed_one p m (Some d) c = gets d (λ r. does p (Passed r m) c)

-- Passed for each argument that is the name of a register variable
abbrev pub passed_each : Typed → Pos → ℕ → List ℕ → Script → Script
passed_each t p m [] c = c
passed_each t p m (n ∷ ns) c = passed_one p m (register_named t n) (passed_each t p m ns c)

abbrev pub passed_by : Typed → Pos → Option ℕ → List ℕ → Script → Script
passed_by t p None args c = c
passed_by t p (Some m) args c = passed_each t p m args c

abbrev pub passed_call : Typed → Pos → NodeKind → List ℕ → Script → Script
passed_call t p nodes.Call (f ∷ args) c = passed_by t p (static_function t f) args c
passed_call t p nodes.SpreadCall (f ∷ args) c = passed_by t p (static_function t f) args c
passed_call t p _ _ c = c

-- where the condition is a call of a function named statically
abbrev pub passes : Typed → Pos → ℕ → Script → Script
passes t p n c = passed_call t p (kind t (strip t n)) (kids t (strip t n)) c

abbrev pub passes_not_by : Typed → Pos → NodeKind → List ℕ → Script → Script
passes_not_by t p nodes.LogicalNot (x ∷ []) c = passes t p x c
passes_not_by t p _ _ c = c

-- where it is `!` before such a call
abbrev pub passes_not : Typed → Pos → ℕ → Script → Script
passes_not t p n c = passes_not_by t p (kind t (strip t n)) (kids t (strip t n)) c

-- the block is terminating
abbrev pub ends : Typed → ℕ → Bool
ends t n = holds n t.ending

-- if c { A }: a = value c; Branch next other; A; other:
abbrev pub if_row : Typed → Pos → Around → ℕ → ℕ → Script
if_row t p w c a =
    value c (λ _.
    until (λ other.
    or_at p other (
    passes t p c (
    part (Statement w) a (λ _.
    nothing)))) (λ _.
    if ends t a then passes_not t p c nothing else nothing))

-- if c { A } else B: a = value c; Branch next other; A; Goto end; other: B; end:
abbrev pub if_else_row : Typed → Pos → Around → ℕ → ℕ → ℕ → Script
if_else_row t p w c a b =
    value c (λ _.
    until (λ end.
    until (λ other.
    or_at p other (
    passes t p c (
    part (Statement w) a (λ _.
    does p (Goto end) nothing)))) (λ _.
    passes_not t p c (
    part (Statement w) b (λ _.
    nothing)))) (λ _.
    nothing))

abbrev pub is_init : NodeKind → Bool
is_init nodes.Init = true
is_init _ = false

-- the statement before the semicolon of a head, and then the rest
abbrev pub after_init : Typed → Around → List ℕ → (List ℕ → Script) → Script
after_init t w [] k = k []
after_init t w (n ∷ ns) k = if is_init (kind t n) then part (Statement w) n (λ _. k ns) else k (n ∷ ns)

abbrev pub if_by : Typed → ℕ → Around → List ℕ → Script
if_by t n w (c ∷ a ∷ []) = if_row t (written t n) w c a
if_by t n w (c ∷ a ∷ b ∷ []) = if_else_row t (written t n) w c a b
if_by t n w _ = nothing

abbrev pub if_statement : Typed → ℕ → Around → Script
if_statement t n w = after_init t w (kids t n) (if_by t n w)
