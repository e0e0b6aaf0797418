-- Calls: the callee, the arguments, the results.
use Rattle.std.specs.Prelude.{ℕ, zero, suc, ◌-◌, nat_le, Bool, true, false, not, ◌&&◌, List, [], ◌∷◌, ◌++◌, codes, map, length, take, drop, Option, Some, None, is_none, unwrap_or, if◌then◌else◌}
use Rattle.argot_plain.specs.declared.instructions.Callee.{Callee}
use Rattle.argot_plain.specs.declared.instructions.Callee.TheVariants.{Static, Value, Method}
use Rattle.argot_plain.specs.declared.instructions.Kind.TheVariants.{Join, Call}
use Rattle.argot_text.specs.declared.path.PathStep.TheVariants.{Element}
use Rattle.argot_text.specs.declared.position.Pos.{Pos}
use Rattle.argot_typed.specs.declared.shape.MethodShape.{MethodShape}
use Rattle.argot_lower_scripts.specs.Script.{Results, Script, done, part}
use Rattle.argot_lower_scripts.specs.Words.{does, one, new, put_at, value, takes}
use Rattle.argot_lower_locals.specs.Typed.{Typed, FieldStep, MethodOf, Selected}
use Rattle.argot_lower_locals.specs.Nodes.{kind, kids, kid_of, strip, at, written}
use Rattle.argot_lower_locals.specs.Types.{form, leaves, types_at, value_types, value_form, element_of, params_of, results_of, is_variadic, is_interface}
use Rattle.argot_lower_locals.specs.Names.{Meaning, Function, meaning, selected, package_path}
use Rattle.argot_lower_locals.specs.Functions.{is_declaration, is_body}
use Rattle.argot_lower_rows.specs.Sites.{parts_site, result_sites}
use Rattle.argot_lower_rows.specs.Conversions.{Wanted, AsType, value_as, all_converted}
use Rattle.argot_lower_rows.specs.Walks.{receiver}

abbrev pub qualified_name : Typed → List ℕ → Option ℕ → List ℕ
qualified_name t name None = name
qualified_name t name (Some p) = package_path t p ++ codes "." ++ name

-- the name by which a method is called: where it isn't exported, its package's path stands before it
abbrev pub method_name : Typed → MethodShape → List ℕ
method_name t m = qualified_name t m.name m.«package»

-- the function of a declared method
abbrev pub method_function : MethodShape → ℕ
method_function m = unwrap_or m.node 0

abbrev pub called_method : Typed → ℕ → ℕ → ℕ → List FieldStep → Option MethodOf → (Callee → List ℕ → Script) → Script
called_method t f g x steps None k = value f (λ a. k (Value a) [])
called_method t f g x steps (Some m) k =
    receiver t g x steps m (λ a.
    if is_interface (form t m.holder) then k (Method a (method_name t m.method)) []
    else k (Static (method_function m.method)) (a ∷ []))

abbrev pub called_selector : Typed → ℕ → ℕ → List ℕ → Option Selected → (Callee → List ℕ → Script) → Script
called_selector t f g (x ∷ ms) (Some s) k = called_method t f g x s.steps s.method k
called_selector t f g _ _ k = value f (λ a. k (Value a) [])

abbrev pub called_by : Typed → ℕ → ℕ → Meaning → (Callee → List ℕ → Script) → Script
called_by t f g (Function m) k = k (Static m) []
called_by t f g _ k = called_selector t f g (kids t g) (selected t g) k

-- the callee f, parentheses passed over: a function by its name; a declared method, whose receiver is the first argument; a
-- method of an interface; any other value
abbrev pub called : Typed → ℕ → (Callee → List ℕ → Script) → Script
called t f k = called_by t f (strip t f) (meaning t (strip t f)) k

-- what so many arguments are wanted as; the last parameter takes all that are left where they are gathered
abbrev pub wanted_list : Typed → Bool → List ℕ → ℕ → List Wanted
wanted_list t gathers [] n = []
wanted_list t gathers (x ∷ xs) zero = []
wanted_list t true (x ∷ []) (suc n) = AsType (element_of (form t x)) ∷ wanted_list t true (x ∷ []) n
wanted_list t gathers (x ∷ xs) (suc n) = AsType x ∷ wanted_list t gathers xs n

abbrev pub each_as : Typed → List ℕ → List Wanted → (List ℕ → Script) → Script
each_as t (n ∷ ns) (w ∷ ws) k = value_as t n w (λ a. each_as t ns ws (λ rs. k (a ∷ rs)))
each_as t _ _ k = k []

-- a call of several results
abbrev pub has_several : Typed → ℕ → Bool
has_several t n = nat_le 2 (length (types_at t (strip t n)))

-- the arguments, converted from left to right; or the results of one call for all, and then each converted there
abbrev pub arguments : Typed → Bool → List ℕ → List ℕ → (List ℕ → Script) → Script
arguments t gathers params (n ∷ []) k =
    if has_several t n then part Results n (λ rs. all_converted t (written t n) (value_types t n) (wanted_list t gathers params (length (value_types t n))) rs k)
    else each_as t (n ∷ []) (wanted_list t gathers params 1) k
arguments t gathers params ns k = each_as t ns (wanted_list t gathers params (length ns)) k

-- items into a new slice: p := Step v []; Write p a
abbrev pub gather : Pos → ℕ → List ℕ → Script → Script
gather p v [] c = c
gather p v (a ∷ rest) c = put_at p v Element a (gather p v rest c)

-- the variadic part: v := Join [] where there are no items, else v := New of this slice type and the items in it
abbrev pub variadic_part : Typed → Pos → ℕ → List ℕ → (ℕ → Script) → Script
variadic_part t p x [] k = one p (λ v. Join v []) k
variadic_part t p x items k = new p (parts_site t x) (λ v. gather p v items (k v))

abbrev pub last_or : ℕ → List ℕ → ℕ
last_or x [] = x
last_or x (y ∷ ys) = last_or y ys

abbrev pub gathered : Typed → Pos → Bool → List ℕ → List ℕ → (List ℕ → Script) → Script
gathered t p false params rs k = k rs
gathered t p true params rs k = variadic_part t p (last_or 0 params) (drop (length params - 1) rs) (λ v. k (take (length params - 1) rs ++ v ∷ []))

-- a variadic callee whose arguments are written one by one
abbrev pub gathers : Typed → ℕ → Bool → Bool
gathers t f spread = is_variadic (value_form t f) && not spread

-- what a call, `go` or `defer` hands on
abbrev pub handed : Typed → Pos → ℕ → List ℕ → Bool → (Callee → List ℕ → Script) → Script
handed t p f args spread k =
    called t f (λ callee own.
    arguments t (gathers t f spread) (params_of (value_form t f)) args (λ rs.
    gathered t p (gathers t f spread) (params_of (value_form t f)) rs (λ all.
    k callee (own ++ all))))

-- a declared function without a body
abbrev pub is_external : Typed → ℕ → Bool
is_external t m = is_declaration (kind t m) && is_none (kid_of t is_body m)

-- the function that is called may have no body: it is such a one, or a value
abbrev pub may_be_external : Typed → Callee → Bool
may_be_external t (Static m) = is_external t m
may_be_external t (Value a) = true
may_be_external t (Method a name) = false

-- a register for each result, then the Call, with the sites of results that may be fresh references
abbrev pub calls : Typed → Pos → Callee → List ℕ → List ℕ → (List ℕ → Script) → Script
calls t p callee args types k =
    takes (map (leaves t) types) (λ rs.
    if may_be_external t callee then result_sites t 0 types (does p (Call rs callee args) (k rs))
    else does p (Call rs callee args) (k rs))

-- f(..), with all its results
abbrev pub call_row : Typed → ℕ → ℕ → List ℕ → Bool → Script
call_row t n f args spread = handed t (at t n) f args spread (λ callee all. calls t (at t n) callee all (results_of (value_form t f)) done)
