-- Function literals and method values.
use Rattle.std.specs.Prelude.{ℕ, ◌+◌, List, [], ◌∷◌, length, if◌then◌else◌}
use Rattle.argot_text.specs.declared.path.PathStep.TheVariants.{Capture}
use Rattle.argot_text.specs.declared.position.Pos.{Pos}
use Rattle.argot_lower_scripts.specs.Script.{Leaves, Script, gets, note, BoundMethod}
use Rattle.argot_lower_scripts.specs.Words.{scalar, answer, new, put_at}
use Rattle.argot_lower_locals.specs.Typed.{Typed, FieldStep, MethodOf}
use Rattle.argot_lower_locals.specs.Nodes.{at}
use Rattle.argot_lower_locals.specs.Types.{leaves, type_at, behind}
use Rattle.argot_lower_locals.specs.Functions.{captures}
use Rattle.argot_lower_rows.specs.Sites.{captured, function_site}
use Rattle.argot_lower_rows.specs.Walks.{receiver, takes_pointer}

-- for each captured variable, the first of which has this number: p := Step r #i; Write p (its register)
abbrev pub into : Pos → ℕ → ℕ → List ℕ → Script → Script
into p r i [] c = c
into p r i (d ∷ ds) c = gets d (λ h. put_at p r (Capture i) h (into p r (i + 1) ds c))

-- a function literal; its name is its node
abbrev pub literal_row : Typed → ℕ → Script
literal_row t n = new (at t n) (function_site n (captured 0 (length (captures t n))) (type_at t n)) (λ r. into (at t n) r 0 (captures t n) (answer r))

-- the leaves of what a method takes
abbrev pub receiver_leaves : Typed → MethodOf → Leaves
receiver_leaves t m = if takes_pointer t m then scalar else leaves t m.holder

-- x.m as a value: a = receiver of x.m; r := New; p := Step r #0; Write p a. The name of its function is the selector
abbrev pub method_value_row : Typed → ℕ → ℕ → List FieldStep → MethodOf → Script
method_value_row t n x steps m =
    receiver t n x steps m (λ a.
    note (BoundMethod n) (
    new (at t n) (function_site n (behind (Capture 0) (receiver_leaves t m)) m.method.of.0) (λ r.
    put_at (at t n) r (Capture 0) a (
    answer r))))
