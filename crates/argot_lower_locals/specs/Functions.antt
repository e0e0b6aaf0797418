-- The functions of a program's text: their owners, parameters, results and captures.
use Rattle.std.specs.Prelude.{ℕ, ◌==◌, Bool, true, false, not, ◌&&◌, ◌||◌, List, [], ◌∷◌, map, length, filter, find, Option, Some, None, option_and_then, is_some, if◌then◌else◌, unwrap_or}
use Rattle.std.specs.List.{list_any}
use Rattle.argot_tree.specs.declared.node_kind.NodeKind.{NodeKind}
use Rattle.argot_tree.specs.declared.node_kind.NodeKind.TheVariants as nodes
use Rattle.argot_names_rules.specs.Nodes.{is_params}
use Rattle.argot_typed.specs.declared.program.Use.{Use}
use Rattle.argot_lower_locals.specs.Typed.{Typed}
use Rattle.argot_lower_locals.specs.Nodes.{below, kind, kids, kids_in, kid_of, parent, ancestors, stands_in, all_nodes}
use Rattle.argot_lower_locals.specs.Types.{type_at, form, params_of, results_of}
use Rattle.argot_lower_locals.specs.Names.{Meaning, Local, is_function_node, is_in_function, meaning_of, declaration_at, decl_node}

abbrev pub is_var_spec : NodeKind → Bool
is_var_spec nodes.VarSpec = true
is_var_spec _ = false

abbrev pub is_literal : NodeKind → Bool
is_literal nodes.FuncLiteral = true
is_literal _ = false

abbrev pub is_declaration : NodeKind → Bool
is_declaration nodes.FuncDecl = true
is_declaration _ = false

abbrev pub is_name : NodeKind → Bool
is_name nodes.DeclName = true
is_name _ = false

abbrev pub is_signature : NodeKind → Bool
is_signature nodes.Signature = true
is_signature _ = false

abbrev pub is_body : NodeKind → Bool
is_body nodes.Block = true
is_body _ = false

abbrev pub is_values : NodeKind → Bool
is_values nodes.Exprs = true
is_values _ = false

-- a specification of package variables with values: its code is a function of its own
abbrev pub is_initialiser : Typed → ℕ → Bool
is_initialiser t n = is_var_spec (kind t n) && not (is_in_function t n) && is_some (kid_of t is_values n)

-- a function of the text: a declaration, a literal, an initialiser
abbrev pub is_owner : Typed → ℕ → Bool
is_owner t n = is_function_node (kind t n) || is_initialiser t n

-- the innermost function around a node
abbrev pub owner : Typed → ℕ → Option ℕ
owner t n = find (is_owner t) (ancestors t n)

abbrev pub is_it : Option ℕ → ℕ → Bool
is_it None n = false
is_it (Some m) n = m == n

abbrev pub is_defer : NodeKind → Bool
is_defer nodes.Defer = true
is_defer _ = false

-- a `defer` stands in the function, those of literals in it left out
abbrev pub has_defer : Typed → ℕ → Bool
has_defer t f = list_any (λ n. is_defer (kind t n) && is_it (owner t n) f) (all_nodes t)

abbrev pub body : Typed → ℕ → Option ℕ
body t f = kid_of t is_body f

-- a parameter or result: its variable, where it has a name, and its type
pub record Parameter : Type 0 where
  pub decl : Option ℕ
  pub of : ℕ

abbrev pub name_kid : Typed → ℕ → Option ℕ
name_kid t n = kid_of t is_name n

-- the variable of an entry of a list of parameters
abbrev pub entry_decl : Typed → ℕ → Option ℕ
entry_decl t n = option_and_then (declaration_at t) (name_kid t n)

abbrev pub paired : List (Option ℕ) → List ℕ → List Parameter
paired [] types = []
paired (d ∷ ds) [] = []
paired (d ∷ ds) (x ∷ xs) = record { decl = d; of = x } ∷ paired ds xs

abbrev pub entries : Typed → ℕ → List (Option ℕ)
entries t n = map (entry_decl t) (kids t n)

-- the type of a function, without its receiver: that of its signature
abbrev pub function_type : Typed → ℕ → ℕ
function_type t f = type_at t (unwrap_or (kid_of t is_signature f) f)

abbrev pub signature_kids : Typed → ℕ → List ℕ
signature_kids t f = kids_in t (kid_of t is_signature f)

abbrev pub params_among : Typed → ℕ → List ℕ → List Parameter
params_among t f [] = []
params_among t f (n ∷ ns) = paired (entries t n) (params_of (form t (function_type t f)))

-- the parameters of a declared function or a literal, without the receiver
abbrev pub parameters : Typed → ℕ → List Parameter
parameters t f = params_among t f (signature_kids t f)

abbrev pub result_entries : Typed → ℕ → List (Option ℕ)
result_entries t n = if is_params (kind t n) then entries t n else None ∷ []

abbrev pub results_among : Typed → ℕ → List ℕ → List Parameter
results_among t f (p ∷ n ∷ []) = paired (result_entries t n) (results_of (form t (function_type t f)))
results_among t f _ = []

abbrev pub results : Typed → ℕ → List Parameter
results t f = results_among t f (signature_kids t f)

abbrev pub last_of : List ℕ → Option ℕ
last_of [] = None
last_of (n ∷ []) = Some n
last_of (n ∷ m ∷ ns) = last_of (m ∷ ns)

abbrev pub type_of_entry : Typed → Option ℕ → ℕ
type_of_entry t None = 0
type_of_entry t (Some n) = type_at t n

abbrev pub receivers : Typed → List ℕ → List Parameter
receivers t [] = []
receivers t (n ∷ ns) = record { decl = entry_decl t n; of = type_of_entry t (last_of (kids t n)) } ∷ []

-- the receiver of a method, if it is one; the type stands last in its entry
abbrev pub receiver : Typed → ℕ → List Parameter
receiver t f = receivers t (kids_in t (kid_of t is_params f))

abbrev pub is_local : Meaning → Bool
is_local (Local d) = true
is_local _ = false

abbrev pub stands_within : Typed → ℕ → Option ℕ → Bool
stands_within t whole None = false
stands_within t whole (Some n) = stands_in t whole n

-- the literal uses, also further in, a variable that is declared outside of it
abbrev pub captures_it : Typed → ℕ → ℕ → Bool
captures_it t l d =
    is_local (meaning_of t d) && not (stands_within t l (decl_node t d)) && list_any (λ (u : Use). (u.decl == d) && stands_in t l u.node) t.program.uses

-- the variables that a literal captures, in order of their declarations
abbrev pub captures : Typed → ℕ → List ℕ
captures t l = filter (captures_it t l) (below (length t.program.packages.decls))

-- some literal captures the variable
abbrev pub is_captured : Typed → ℕ → Bool
is_captured t d = list_any (λ n. is_literal (kind t n) && captures_it t n d) (all_nodes t)

abbrev pub second_of : List ℕ → Option ℕ
second_of (n ∷ m ∷ ns) = Some m
second_of _ = None

-- the list of parameters is that of the results of a signature
abbrev pub lists_results : Typed → Option ℕ → Bool
lists_results t None = false
lists_results t (Some list) = is_second (parent t list)
  where
    is_second : Option ℕ → Bool
    is_second None = false
    is_second (Some n) = is_signature (kind t n) && is_it (second_of (kids t n)) list

abbrev pub is_result_name : Typed → ℕ → Bool
is_result_name t n = lists_results t (option_and_then (parent t) (parent t n))

-- the variable is a named result of a function with a `defer`
abbrev pub is_deferred_result : Typed → ℕ → Bool
is_deferred_result t d = is_one (decl_node t d)
  where
    defers_around : Option ℕ → Bool
    defers_around None = false
    defers_around (Some f) = has_defer t f

    is_one : Option ℕ → Bool
    is_one None = false
    is_one (Some n) = is_name (kind t n) && is_result_name t n && defers_around (owner t n)
