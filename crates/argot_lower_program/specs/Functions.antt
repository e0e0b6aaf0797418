-- The functions of a program: what each is made from, where it stands, how it is named and what its code is.
use Rattle.std.specs.Prelude.{ℕ, zero, suc, ◌+◌, nat_lt, ◌==◌, Bool, true, false, ◌&&◌, ◌||◌, List, [], ◌∷◌, ◌++◌, codes, decimal, filter, find, length, map, position, Option, Some, None, is_some, is_none, slice_get, unwrap_or, bytes_eq, if◌then◌else◌}
use Rattle.argot_plain.specs.declared.functions.Ident.{Ident}
use Rattle.argot_plain.specs.declared.functions.Role.{Role}
use Rattle.argot_plain.specs.declared.functions.Role.TheVariants as roles
use Rattle.argot_text.specs.declared.position.Pos.{Pos}
use Rattle.argot_tree.specs.declared.entries.Entry.{Entry}
use Rattle.argot_tree.specs.declared.node_kind.NodeKind.{NodeKind}
use Rattle.argot_tree.specs.declared.node_kind.NodeKind.TheVariants as nodes
use Rattle.argot_typed.specs.declared.shape.Shape.{Shape}
use Rattle.argot_typed.specs.declared.shape.Shape.TheVariants.{Named, Pointer}
use Rattle.argot_lower_scripts.specs.Script.{Script}
use Rattle.argot_lower_scripts.specs.Words.{scalar, nothing}
use Rattle.argot_lower_locals.specs.Typed.{Typed, MethodOf, Selected}
use Rattle.argot_lower_locals.specs.Nodes.{node, kind, kids, parent, all_nodes, written, text_of}
use Rattle.argot_lower_locals.specs.Types.{shape, form, leaves, params_of, results_of, is_interface}
use Rattle.argot_lower_locals.specs.Names.{built_in, selected, decl_name, decl_path, optional_path, package_of_file}
use Rattle.argot_lower_locals.specs.Functions.{Parameter, is_it, is_literal, is_declaration, is_initialiser, name_kid, owner, receiver, parameters, results, captures}
use Rattle.argot_lower_rows.specs.Conversions.{print_name, println_name, text_name}
use Rattle.argot_lower_rows.specs.Assignments.{specification_row}
use Rattle.argot_lower_rows.specs.Heads.{types_of, text_function, initialiser_function, built_in_function, wrapper_function, bound_function, external_function, entry_function}

-- what a function is made from
pub data Origin : Type 0 where
  OfEntry : Origin
  -- a declaration with a body, a literal, an initialiser, by its node
  OfText : ℕ → Origin
  -- the literal that `go` or `defer` of a built-in makes, by the call
  OfBuiltIn : ℕ → Origin
  -- the wrapper for a type of what selects a method in it
  WrapperOf : ℕ → Selected → Origin
  -- the function of a method value, by its selector
  BoundTo : ℕ → Origin
  -- a declaration without a body
  External : ℕ → Origin
  -- `print`, `println` or `text`, by its name
  Unwritten : ℕ → Origin

-- the name by which instructions name it before functions have numbers
abbrev pub has_name : ℕ → Origin → Bool
has_name n OfEntry = false
has_name n (OfText m) = m == n
has_name n (OfBuiltIn m) = m == n
has_name n (WrapperOf x s) = false
has_name n (BoundTo m) = m == n
has_name n (External m) = m == n
has_name n (Unwritten m) = m == n

-- the number of a function: its place in the order
abbrev pub number_in : List Origin → ℕ → ℕ
number_in order n = unwrap_or (position (has_name n) order) 0

-- the package of a node, where its file is reached
abbrev pub package_of : Typed → ℕ → Option ℕ
package_of t n = package_of_file t (node t n).file

abbrev pub is_reached : Typed → ℕ → Bool
is_reached t n = is_some (package_of t n)

abbrev pub is_main_name : Typed → Option ℕ → Bool
is_main_name t None = false
is_main_name t (Some n) = bytes_eq (text_of t n) (codes "main")

-- the function `main` of the first package
abbrev pub is_main : Typed → ℕ → Bool
is_main t n = is_declaration (kind t n) && is_it (package_of t n) 0 && is_none_of (receiver t n) && is_main_name t (name_kid t n)
  where
    is_none_of : List Parameter → Bool
    is_none_of [] = true
    is_none_of (p ∷ ps) = false

abbrev pub main_node : Typed → ℕ
main_node t = unwrap_or (find (is_main t) (all_nodes t)) 0

-- a token of a file
pub record Anchor : Type 0 where
  pub file : ℕ
  pub token : ℕ

abbrev pub anchor_of : Typed → ℕ → Anchor
anchor_of t n = record { file = (node t n).file; token = (node t n).token }

abbrev pub is_anchor_before : Anchor → Anchor → Bool
is_anchor_before a b = nat_lt a.file b.file || ((a.file == b.file) && nat_lt a.token b.token)

abbrev pub is_single : NodeKind → Bool
is_single nodes.VarDecl = true
is_single _ = false

abbrev pub at_declaration : Typed → ℕ → Option ℕ → ℕ
at_declaration t n None = n
at_declaration t n (Some p) = if is_single (kind t p) then p else n

-- where a function of the text stands: at its name, at `func`, at `var`, or at the first name of a specification in a group
abbrev pub anchor_node : Typed → ℕ → NodeKind → ℕ
anchor_node t n nodes.FuncDecl = unwrap_or (name_kid t n) n
anchor_node t n nodes.VarSpec = at_declaration t n (parent t n)
anchor_node t n _ = n

abbrev pub text_anchor : Typed → ℕ → ℕ
text_anchor t n = anchor_node t n (kind t n)

abbrev pub main_anchor : Typed → ℕ
main_anchor t = text_anchor t (main_node t)

-- where a method stands: at its name; that of `error` at main's
abbrev pub method_anchor : Typed → Option ℕ → ℕ
method_anchor t None = main_anchor t
method_anchor t (Some n) = unwrap_or (name_kid t n) n

abbrev pub method_node_of : Option MethodOf → Option ℕ
method_node_of None = None
method_node_of (Some m) = m.method.node

-- the node at which a function stands
abbrev pub anchor : Typed → Origin → ℕ
anchor t OfEntry = main_anchor t
anchor t (OfText n) = text_anchor t n
anchor t (OfBuiltIn n) = n
anchor t (WrapperOf x s) = method_anchor t (method_node_of s.method)
anchor t (BoundTo n) = n
anchor t (External n) = text_anchor t n
anchor t (Unwritten n) = main_anchor t

abbrev pub function_position : Typed → Origin → Pos
function_position t o = written t (anchor t o)

-- the callee of a call
abbrev pub callee_of : List ℕ → ℕ
callee_of [] = 0
callee_of (f ∷ args) = f

abbrev pub args_of : List ℕ → List ℕ
args_of [] = []
args_of (f ∷ args) = args

abbrev pub is_start : NodeKind → Bool
is_start nodes.Go = true
is_start nodes.Defer = true
is_start _ = false

abbrev pub is_call : NodeKind → Bool
is_call nodes.Call = true
is_call nodes.SpreadCall = true
is_call _ = false

abbrev pub starts : Typed → Option ℕ → Bool
starts t None = false
starts t (Some p) = is_start (kind t p)

-- the call of a built-in behind `go` or `defer`
abbrev pub is_started_built_in : Typed → ℕ → Bool
is_started_built_in t n = is_call (kind t n) && starts t (parent t n) && is_some (built_in t (callee_of (kids t n)))

-- a node that makes a literal
abbrev pub makes_literal : Typed → ℕ → Bool
makes_literal t n = is_literal (kind t n) || is_started_built_in t n

abbrev pub is_same_owner : Option ℕ → Option ℕ → Bool
is_same_owner None o = is_none o
is_same_owner (Some n) o = is_it o n

-- its number among the literals that stand directly in its function, from 1, by position
abbrev pub literal_number : Typed → ℕ → ℕ
literal_number t n =
    1 + length (filter (λ m. makes_literal t m && is_same_owner (owner t m) (owner t n) && is_anchor_before (anchor_of t m) (anchor_of t n)) (all_nodes t))

-- the name of the declared type of a receiver, behind its pointer
abbrev pub base_name : Typed → (ℕ → List ℕ) → Shape → List ℕ
base_name t again (Named decl under methods) = decl_name t decl
base_name t again (Pointer to) = again to.0
base_name t again _ = []

abbrev pub receiver_type_name : Typed → ℕ → List ℕ
receiver_type_name t x = base_name t (λ y. base_name t (λ _. []) (shape t y)) (shape t x)

abbrev pub receiver_name : Typed → List Parameter → List ℕ
receiver_name t [] = []
receiver_name t (p ∷ ps) = receiver_type_name t p.of

abbrev pub name_text : Typed → Option ℕ → List ℕ
name_text t None = []
name_text t (Some n) = text_of t n

-- the name by which a declared function is found
abbrev pub ident_of : Typed → ℕ → Ident
ident_of t n = record { «package» = optional_path t (package_of t n); receiver = receiver_name t (receiver t n); name = name_text t (name_kid t n) }

abbrev pub dotted : List ℕ → List ℕ
dotted [] = []
dotted (b ∷ bs) = (b ∷ bs) ++ codes "."

-- a path, a type and a name, with dots
abbrev pub ident_text : Ident → List ℕ
ident_text i = i.«package» ++ codes "." ++ dotted i.receiver ++ i.name

abbrev pub owned_text : (ℕ → List ℕ) → Option ℕ → List ℕ
owned_text again None = []
owned_text again (Some n) = again n

abbrev pub printed_by : Typed → (ℕ → List ℕ) → ℕ → NodeKind → List ℕ
printed_by t again n nodes.FuncDecl = ident_text (ident_of t n)
printed_by t again n nodes.VarSpec = optional_path t (package_of t n) ++ codes ".var"
printed_by t again n _ = owned_text again (owner t n) ++ codes "$" ++ decimal (literal_number t n)

abbrev pub printed_within : ℕ → Typed → ℕ → List ℕ
printed_within zero t n = []
printed_within (suc k) t n = printed_by t (printed_within k t) n (kind t n)

-- the printed name of a function of the text: a literal has that of its function, `$` and its number
abbrev pub text_name_of : Typed → ℕ → List ℕ
text_name_of t n = printed_within (suc n) t n

-- an interface without a name, by the package in which the method stands
abbrev pub holder_text : Typed → MethodOf → Option ℕ → Shape → List ℕ
holder_text t m n (Named decl under methods) = decl_path t decl ++ codes "." ++ decl_name t decl
holder_text t m None s = []
holder_text t m (Some n) s = optional_path t (package_of t n) ++ codes ".interface"

abbrev pub interface_method_text : Typed → MethodOf → Option ℕ → List ℕ
interface_method_text t m None = codes "error.Error"
interface_method_text t m (Some n) = holder_text t m (Some n) (shape t m.holder) ++ codes "." ++ m.method.name

-- wrappers and functions of method values are printed as their method
abbrev pub method_text : Typed → Option MethodOf → List ℕ
method_text t None = []
method_text t (Some m) = if is_interface (form t m.holder) then interface_method_text t m m.method.node else owned_text (text_name_of t) m.method.node

abbrev pub unwritten_text : Typed → ℕ → List ℕ
unwritten_text t n = if n == print_name t then codes "print" else (if n == println_name t then codes "println" else codes "text")

abbrev pub method_of : Option Selected → Option MethodOf
method_of None = None
method_of (Some s) = s.method

-- the name that is printed
abbrev pub printed_name : Typed → Origin → List ℕ
printed_name t OfEntry = codes "entry"
printed_name t (OfText n) = text_name_of t n
printed_name t (OfBuiltIn n) = text_name_of t n
printed_name t (WrapperOf x s) = method_text t s.method
printed_name t (BoundTo n) = method_text t (method_of (selected t n))
printed_name t (External n) = text_name_of t n
printed_name t (Unwritten n) = unwritten_text t n

abbrev pub is_init_name : Typed → ℕ → Bool
is_init_name t n = is_none_of (receiver t n) && bytes_eq (name_text t (name_kid t n)) (codes "init")
  where
    is_none_of : List Parameter → Bool
    is_none_of [] = true
    is_none_of (p ∷ ps) = false

-- a function that the entry calls before main: an initialiser, or an `init` with a body
abbrev pub is_called_first : Typed → Origin → Bool
is_called_first t (OfText n) = is_initialiser t n || (is_declaration (kind t n) && is_init_name t n)
is_called_first t _ = false

abbrev pub node_of : Origin → ℕ
node_of (OfText n) = n
node_of _ = 0

-- in the order of functions
abbrev pub called_first : Typed → List Origin → List ℕ
called_first t order = map node_of (filter (is_called_first t) order)

abbrev pub text_script_by : Typed → ℕ → NodeKind → Script
text_script_by t n nodes.VarSpec = initialiser_function t (written t (text_anchor t n)) (specification_row t (kids t n))
text_script_by t n _ = text_function t (written t (text_anchor t n)) n

abbrev pub built_in_script : Typed → ℕ → List ℕ → Option (List ℕ) → Script
built_in_script t n ks None = nothing
built_in_script t n ks (Some name) = built_in_function t (written t n) name (args_of ks)

abbrev pub wrapper_script : Typed → ℕ → Selected → Option MethodOf → Script
wrapper_script t x s None = nothing
wrapper_script t x s (Some m) = wrapper_function t (written t (method_anchor t m.method.node)) x s.steps m

abbrev pub bound_script : Typed → ℕ → Option MethodOf → Script
bound_script t n None = nothing
bound_script t n (Some m) = bound_function t (written t n) m

-- the code of a function, where the functions stand in this order
abbrev pub script_of : Typed → List Origin → Origin → Script
script_of t order OfEntry = entry_function (written t (main_anchor t)) (called_first t order) (main_node t)
script_of t order (OfText n) = text_script_by t n (kind t n)
script_of t order (OfBuiltIn n) = built_in_script t n (kids t n) (built_in t (callee_of (kids t n)))
script_of t order (WrapperOf x s) = wrapper_script t x s s.method
script_of t order (BoundTo n) = bound_script t n (method_of (selected t n))
script_of t order (External n) = external_function (written t (text_anchor t n)) (map (leaves t) (types_of (receiver t n ++ parameters t n)))
script_of t order (Unwritten n) = external_function (written t (main_anchor t)) (scalar ∷ [])

-- the node below which the parts of its code stand
abbrev pub root_node : Origin → ℕ
root_node (OfText n) = n
root_node (OfBuiltIn n) = n
root_node _ = 0

abbrev pub captured_count : List ℕ → ℕ
captured_count [] = 0
captured_count (d ∷ ds) = 1

abbrev pub method_type : Typed → Option MethodOf → Shape
method_type t None = form t (length t.program.table)
method_type t (Some m) = form t m.method.of.0

-- how many parameters it has
abbrev pub param_count : Typed → Origin → ℕ
param_count t OfEntry = 0
param_count t (OfText n) = captured_count (captures t n) + length (receiver t n ++ parameters t n)
param_count t (OfBuiltIn n) = length (args_of (kids t n))
param_count t (WrapperOf x s) = 1 + length (params_of (method_type t s.method))
param_count t (BoundTo n) = 1 + length (params_of (method_type t (method_of (selected t n))))
param_count t (External n) = length (receiver t n ++ parameters t n)
param_count t (Unwritten n) = 1

-- and how many results
abbrev pub result_count : Typed → Origin → ℕ
result_count t (OfText n) = length (results t n)
result_count t (WrapperOf x s) = length (results_of (method_type t s.method))
result_count t (BoundTo n) = length (results_of (method_type t (method_of (selected t n))))
result_count t (External n) = length (results t n)
result_count t (Unwritten n) = if n == text_name t then 1 else 0
result_count t _ = 0

abbrev pub role_of : Origin → Role
role_of (WrapperOf x s) = roles.Wrapper
role_of (BoundTo n) = roles.Bound
role_of _ = roles.Own

abbrev pub declared_ident : Typed → ℕ → NodeKind → Option Ident
declared_ident t n nodes.FuncDecl = Some (ident_of t n)
declared_ident t n _ = None

abbrev pub ident : Typed → Origin → Option Ident
ident t (OfText n) = declared_ident t n (kind t n)
ident t (External n) = declared_ident t n (kind t n)
ident t _ = None

-- the reference by which it is called is its first parameter
abbrev pub has_reference : Typed → Origin → Bool
has_reference t (OfText n) = is_some (slice_get (captures t n) 0)
has_reference t (BoundTo n) = true
has_reference t _ = false

abbrev pub wrapped_method : Typed → Option MethodOf → Option ℕ
wrapped_method t None = None
wrapped_method t (Some m) = if is_interface (form t m.holder) then None else m.method.node

-- the declared method that a wrapper calls
abbrev pub wrapped : Typed → Origin → Option ℕ
wrapped t (WrapperOf x s) = wrapped_method t s.method
wrapped t _ = None

abbrev pub is_entry_for : Ident → Entry → Bool
is_entry_for i e = bytes_eq e.«package» i.«package» && (bytes_eq e.receiver i.receiver && bytes_eq e.name i.name)

abbrev pub flow_in : Option Entry → Bool
flow_in None = true
flow_in (Some e) = e.flow

-- of a function without a body whether its results depend on its arguments: as the first entry for it says
abbrev pub flow_of : Typed → List Entry → Origin → Option Bool
flow_of t entries (External n) = Some (flow_in (find (is_entry_for (ident_of t n)) entries))
flow_of t entries (Unwritten n) = Some true
flow_of t entries _ = None
