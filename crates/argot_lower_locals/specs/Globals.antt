-- The package variables in order, and types that are looked up by name.
use Rattle.std.specs.Prelude.{ℕ, ◌==◌, nat_lt, Bool, true, false, not, ◌&&◌, ◌||◌, List, [], ◌∷◌, codes, filter, length, position, Option, Some, None, is_none, slice_get, unwrap_or, bytes_eq}
use Rattle.argot_typed.specs.declared.shape.Shape.{Shape}
use Rattle.argot_typed.specs.declared.shape.Shape.TheVariants.{Named}
use Rattle.argot_lower_scripts.specs.Script.{Leaves}
use Rattle.argot_lower_locals.specs.Typed.{Typed}
use Rattle.argot_lower_locals.specs.Nodes.{below}
use Rattle.argot_lower_locals.specs.Types.{type_at, leaves}
use Rattle.argot_lower_locals.specs.Names.{Meaning, Global, meaning_of, decl_name, decl_node, decl_path, package_in}

-- texts in order of their bytes
abbrev pub is_text_before : List ℕ → List ℕ → Bool
is_text_before [] [] = false
is_text_before [] (b ∷ others) = true
is_text_before (a ∷ rest) [] = false
is_text_before (a ∷ rest) (b ∷ others) = nat_lt a b || ((a == b) && is_text_before rest others)

-- by the bytes of the package's path, its number, and then by node
abbrev pub is_in_order : List ℕ → ℕ → ℕ → List ℕ → ℕ → ℕ → Bool
is_in_order path package_ node path' package' node' =
    is_text_before path path' || (bytes_eq path path' && (nat_lt package_ package' || ((package_ == package') && nat_lt node node')))

abbrev pub decl_package : Typed → ℕ → ℕ
decl_package t d = unwrap_or (package_in (slice_get t.program.packages.decls d)) 0

abbrev pub is_decl_before : Typed → ℕ → ℕ → Bool
is_decl_before t d e =
    is_in_order (decl_path t d) (decl_package t d) (unwrap_or (decl_node t d) 0) (decl_path t e) (decl_package t e) (unwrap_or (decl_node t e) 0)

abbrev pub is_global : Meaning → Bool
is_global (Global d) = true
is_global _ = false

-- a package variable that isn't named `_`
abbrev pub is_package_variable : Typed → ℕ → Bool
is_package_variable t d = is_global (meaning_of t d) && not (bytes_eq (decl_name t d) (codes "_"))

abbrev pub package_variables : Typed → List ℕ
package_variables t = filter (is_package_variable t) (below (length t.program.packages.decls))

-- the number of a package variable: how many stand before it
abbrev pub global_number : Typed → ℕ → ℕ
global_number t d = length (filter (λ e. is_decl_before t e d) (package_variables t))

-- the type of a variable
abbrev pub decl_type : Typed → ℕ → ℕ
decl_type t d = by_node (decl_node t d)
  where
    by_node : Option ℕ → ℕ
    by_node None = length t.program.table
    by_node (Some n) = type_at t n

abbrev pub decl_leaves : Typed → ℕ → Leaves
decl_leaves t d = leaves t (decl_type t d)

abbrev pub is_predeclared_type : Typed → List ℕ → Shape → Bool
is_predeclared_type t name (Named decl under methods) = is_none (decl_node t decl) && bytes_eq (decl_name t decl) name
is_predeclared_type t name _ = false

abbrev pub predeclared_type : Typed → List ℕ → ℕ
predeclared_type t name = unwrap_or (position (is_predeclared_type t name) t.program.table) (length t.program.table)

-- the types `bool`, `int` and `rune`
abbrev pub truth_type : Typed → ℕ
truth_type t = predeclared_type t (codes "bool")

abbrev pub int_type : Typed → ℕ
int_type t = predeclared_type t (codes "int")

abbrev pub rune_type : Typed → ℕ
rune_type t = predeclared_type t (codes "int32")

abbrev pub is_since : Option (ℕ × ℕ) → Bool
is_since None = false
is_since (Some line) = nat_lt 1 line.0 || ((line.0 == 1) && nat_lt 21 line.1)

-- the `go` line names 1.22 or later: each turn of a loop has its own variables
abbrev pub has_turn_variables : Typed → Bool
has_turn_variables t = is_since t.files.sources.go_line
