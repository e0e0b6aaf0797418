-- `return`, `go` and `defer`.
use Rattle.std.specs.Prelude.{ℕ, ◌&&◌, ◌||◌, Bool, true, false, List, [], ◌∷◌, codes, map, length, Option, Some, None, is_some, bytes_eq, if◌then◌else◌}
use Rattle.std.specs.List.{list_any}
use Rattle.argot_plain.specs.declared.instructions.Callee.{Callee}
use Rattle.argot_plain.specs.declared.instructions.Callee.TheVariants.{Value}
use Rattle.argot_plain.specs.declared.instructions.Kind.{Kind}
use Rattle.argot_plain.specs.declared.instructions.Kind.TheVariants.{Move, Write, Goto}
use Rattle.argot_text.specs.declared.position.Pos.{Pos}
use Rattle.argot_tree.specs.declared.node_kind.NodeKind.{NodeKind}
use Rattle.argot_tree.specs.declared.node_kind.NodeKind.TheVariants as nodes
use Rattle.argot_lower_scripts.specs.Script.{Outcome, InRegister, InObject, Around, Script}
use Rattle.argot_lower_scripts.specs.Words.{nothing, does, new}
use Rattle.argot_lower_locals.specs.Typed.{Typed}
use Rattle.argot_lower_locals.specs.Nodes.{kind, kids, at, written}
use Rattle.argot_lower_locals.specs.Names.{built_in, is_nil}
use Rattle.argot_lower_locals.specs.Functions.{Parameter, owner, results}
use Rattle.argot_lower_rows.specs.Sites.{function_site}
use Rattle.argot_lower_rows.specs.Conversions.{Wanted, AsItIs, AsType, AsAny}
use Rattle.argot_lower_rows.specs.Calls.{each_as, handed}
use Rattle.argot_lower_rows.specs.Assignments.{given, is_several}

abbrev pub results_of : Typed → Option ℕ → List Parameter
results_of t None = []
results_of t (Some f) = results t f

abbrev pub has_names : List Parameter → Bool
has_names ps = list_any (λ (q : Parameter). is_some q.decl) ps

abbrev pub wanted_results : List Parameter → List Wanted
wanted_results ps = map (λ (q : Parameter). AsType q.of) ps

-- a value to where its result is kept
abbrev pub put_out : Pos → Outcome → ℕ → Script → Script
put_out p (InRegister r) a c = does p (Move r a []) c
put_out p (InObject q) a c = does p (Write q a) c

abbrev pub put_out_all : Pos → List Outcome → List ℕ → Script → Script
put_out_all p (o ∷ os) (a ∷ rest) c = put_out p o a (put_out_all p os rest c)
put_out_all p _ _ c = c

-- the values for the results of the function; where several results have names, one that stands in a variable's register is
-- moved to a temporary
abbrev pub returned : Typed → Pos → Around → List ℕ → List Parameter → Script
returned t p w [] ps = does p (Goto w.exit) nothing
returned t p w (e ∷ es) ps = given t (has_names ps && is_several (map (λ (q : Parameter). q.of) ps)) (e ∷ es) (wanted_results ps) (λ rs. put_out_all p w.outcomes rs (does p (Goto w.exit) nothing))

-- return e ..: the values; Move or Write for each result; Goto exit
abbrev pub return_row : Typed → ℕ → Around → List ℕ → Script
return_row t n w es = returned t (written t n) w es (results_of t (owner t n))

-- what a parameter of the literal that stands for a built-in is wanted as: `any` for `panic` and for `nil`, else the argument's type
abbrev pub wanted_by_built_in : Typed → List ℕ → ℕ → Wanted
wanted_by_built_in t name n = if bytes_eq name (codes "panic") || is_nil t n then AsAny else AsItIs

-- go b(..), defer b(..) of a built-in: f := New of the literal, at the call; the arguments; Go or Defer
abbrev pub start_built_in : Typed → Pos → (Callee → List ℕ → Kind) → ℕ → List ℕ → List ℕ → Script
start_built_in t p does_it call name args =
    new (at t call) (function_site call [] (length t.program.table)) (λ f.
    each_as t args (map (wanted_by_built_in t name) args) (λ rs.
    does p (does_it (Value f) rs) nothing))

abbrev pub started_by : Typed → Pos → (Callee → List ℕ → Kind) → ℕ → ℕ → List ℕ → Bool → Option (List ℕ) → Script
started_by t p does_it call f args spread (Some name) = start_built_in t p does_it call name args
started_by t p does_it call f args spread None = handed t (at t call) f args spread (λ callee all. does p (does_it callee all) nothing)

-- go f(..), defer f(..): callee and arguments as of the call; Go or Defer
abbrev pub start_call : Typed → Pos → (Callee → List ℕ → Kind) → ℕ → NodeKind → List ℕ → Script
start_call t p does_it call nodes.Call (f ∷ args) = started_by t p does_it call f args false (built_in t f)
start_call t p does_it call nodes.SpreadCall (f ∷ args) = started_by t p does_it call f args true (built_in t f)
start_call t p does_it call _ _ = nothing

abbrev pub start_row : Typed → ℕ → (Callee → List ℕ → Kind) → List ℕ → Script
start_row t n does_it (call ∷ []) = start_call t (written t n) does_it call (kind t call) (kids t call)
start_row t n does_it _ = nothing
