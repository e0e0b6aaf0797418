-- Assignments, `:=`, variables of functions and of packages.
use Rattle.std.specs.Prelude.{ℕ, nat_lt, Bool, ◌&&◌, List, [], ◌∷◌, length, Option, Some, None, is_some, if◌then◌else◌}
use Rattle.argot_plain.specs.declared.instructions.Kind.TheVariants.{Op, Join}
use Rattle.argot_tree.specs.declared.node_kind.NodeKind.{NodeKind}
use Rattle.argot_lower_scripts.specs.Script.{Results, Script, part}
use Rattle.argot_lower_scripts.specs.Words.{nothing, plain, value}
use Rattle.argot_lower_locals.specs.Typed.{Typed}
use Rattle.argot_lower_locals.specs.Nodes.{kind, kids, at, written}
use Rattle.argot_lower_locals.specs.Types.{type_at, leaves, leaves_at, value_type, value_types}
use Rattle.argot_lower_locals.specs.Functions.{is_values}
use Rattle.argot_lower_locals.specs.Variables.{assigned_registers}
use Rattle.argot_lower_locals.specs.Places.{held}
use Rattle.argot_lower_locals.specs.Globals.{truth_type}
use Rattle.argot_lower_rows.specs.Conversions.{Wanted, AsType, converted_from, all_converted}
use Rattle.argot_lower_rows.specs.Calls.{has_several}
use Rattle.argot_lower_rows.specs.Places.{Place, place, places, temporary, wanted_by, put_to, stores, load}

-- what the value for an operand is wanted as: the type that is written, else the place's
abbrev pub wanted_for : Typed → Option ℕ → ℕ → Place → Wanted
wanted_for t (Some x) n q = AsType x
wanted_for t None n q = wanted_by t n q

abbrev pub wanted_all : Typed → Option ℕ → List ℕ → List Place → List Wanted
wanted_all t written_type (n ∷ ns) (q ∷ qs) = wanted_for t written_type n q ∷ wanted_all t written_type ns qs
wanted_all t written_type _ _ = []

-- a right value; where several are assigned, one that stands in a variable's register is moved to a temporary
abbrev pub right : Typed → Bool → ℕ → (ℕ → Script) → Script
right t several e k = if several && is_some (held t e) then temporary t e k else value e k

-- right values, each converted before the next one
abbrev pub rights : Typed → Bool → List ℕ → List Wanted → (List ℕ → Script) → Script
rights t several (e ∷ es) (w ∷ ws) k = right t several e (λ a. converted_from t e w a (λ b. rights t several es ws (λ rs. k (b ∷ rs))))
rights t several _ _ k = k []

-- the types of what one expression gives for several operands
abbrev pub given_types : Typed → ℕ → List ℕ
given_types t e = if has_several t e then value_types t e else value_type t e ∷ truth_type t ∷ []

-- the values for so many wanted ones: each its own, or all of one expression, each converted there
abbrev pub given : Typed → Bool → List ℕ → List Wanted → (List ℕ → Script) → Script
given t several (e ∷ []) (w ∷ v ∷ ws) k = part Results e (λ rs. all_converted t (written t e) (given_types t e) (w ∷ v ∷ ws) rs k)
given t several es ws k = rights t several es ws k

abbrev pub is_several : List ℕ → Bool
is_several xs = nat_lt 1 (length xs)

-- the places of all operands, all values, all stores, each from left to right
abbrev pub assign_row : Typed → Option ℕ → List ℕ → List ℕ → Script
assign_row t written_type xs es =
    places t (if is_several xs then assigned_registers t xs else []) xs (λ qs.
    given t (is_several xs) es (wanted_all t written_type xs qs) (λ rs.
    stores t xs qs rs nothing))

-- x op= e: p = place x; a = load p; b = value e; o := Op [a, b]; store p o
abbrev pub op_assign_row : Typed → ℕ → ℕ → Script
op_assign_row t x e =
    place t [] x (λ q.
    load t x q (λ a.
    value e (λ b.
    plain (at t x) (leaves_at t x) (λ o. Op o (a ∷ b ∷ [])) (λ o.
    put_to (at t x) q o nothing))))

-- x++, x--: p = place x; a = load p; o := Op [a]; store p o
abbrev pub step_row : Typed → ℕ → Script
step_row t x =
    place t [] x (λ q.
    load t x q (λ a.
    plain (at t x) (leaves_at t x) (λ o. Op o (a ∷ [])) (λ o.
    put_to (at t x) q o nothing)))

-- var x, y T: for each name in order its place, z := Join [] at the name, the store
abbrev pub zero_rows : Typed → ℕ → List ℕ → Script
zero_rows t x [] = nothing
zero_rows t x (n ∷ ns) =
    place t [] n (λ q.
    plain (at t n) (leaves t x) (λ z. Join z []) (λ z.
    put_to (at t n) q z (
    zero_rows t x ns)))

abbrev pub typed_or_not : Typed → ℕ → ℕ → NodeKind → Script
typed_or_not t names second k = if is_values k then assign_row t None (kids t names) (kids t second) else zero_rows t (type_at t second) (kids t names)

-- a specification of variables: names, a type, values
abbrev pub specification_row : Typed → List ℕ → Script
specification_row t (names ∷ type ∷ values ∷ []) = assign_row t (Some (type_at t type)) (kids t names) (kids t values)
specification_row t (names ∷ second ∷ []) = typed_or_not t names second (kind t second)
specification_row t _ = nothing
