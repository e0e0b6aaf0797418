-- What a name means, and what an expression that is no value denotes.
use Rattle.std.specs.Prelude.{ℕ, zero, suc, ◌==◌, Bool, true, false, List, [], ◌∷◌, codes, find, position, Option, Some, None, slice_get, option_map, option_and_then, unwrap_or, bytes_eq, if◌then◌else◌}
use Rattle.std.specs.List.{list_any}
use Rattle.argot_tree.specs.declared.node_kind.NodeKind.{NodeKind}
use Rattle.argot_tree.specs.declared.node_kind.NodeKind.TheVariants as nodes
use Rattle.argot_names_rules.specs.Universe.{is_among, predeclared_types}
use Rattle.argot_names_rules.specs.Subset.{is_type_form}
use Rattle.argot_typed.specs.declared.program.Decl.{Decl}
use Rattle.argot_typed.specs.declared.program.Package.{Package}
use Rattle.argot_typed.specs.declared.program.Use.{Use}
use Rattle.argot_lower_locals.specs.Typed.{Typed, Selection, Selected}
use Rattle.argot_lower_locals.specs.Nodes.{kind, kids, parent, ancestors, strip, node_count}

-- what a declaration declares
pub data Meaning : Type 0 where
  Nothing : Meaning
  -- a variable of a function, by its declaration
  Local : ℕ → Meaning
  -- a package variable, by its declaration
  Global : ℕ → Meaning
  -- a function, by its node
  Function : ℕ → Meaning
  TypeName : Meaning
  Constant : Meaning
  -- a predeclared name that is no type
  Predeclared : List ℕ → Meaning

abbrev pub is_function_node : NodeKind → Bool
is_function_node nodes.FuncDecl = true
is_function_node nodes.FuncLiteral = true
is_function_node _ = false

-- the node stands in a function
abbrev pub is_in_function : Typed → ℕ → Bool
is_in_function t n = list_any (λ p. is_function_node (kind t p)) (ancestors t n)

-- a name in a list of names, by what the list is part of
abbrev pub listed : Typed → ℕ → ℕ → NodeKind → Meaning
listed t d n nodes.VarSpec = if is_in_function t n then Local d else Global d
listed t d n nodes.ConstSpec = Constant
listed t d n nodes.Define = Local d
listed t d n _ = Nothing

-- a name that is declared, by the node below which it stands
abbrev pub named_below : Typed → ℕ → ℕ → ℕ → NodeKind → Meaning
named_below t d n p nodes.Names = listed t d n (unwrap_or (option_map (kind t) (parent t p)) nodes.Empty)
named_below t d n p nodes.NamedParam = Local d
named_below t d n p nodes.LoneParam = Local d
named_below t d n p nodes.NamedVariadic = Local d
named_below t d n p nodes.TypeSpec = TypeName
named_below t d n p nodes.AliasSpec = TypeName
named_below t d n p nodes.FuncDecl = Function p
named_below t d n p _ = Nothing

abbrev pub named : Typed → ℕ → ℕ → Option ℕ → Meaning
named t d n None = Nothing
named t d n (Some p) = named_below t d n p (kind t p)

-- what the node of a declaration declares: a name, one that `:=` declares in a `range` or `select`, the clause of a type switch
abbrev pub declared_by : Typed → ℕ → ℕ → NodeKind → Meaning
declared_by t d n nodes.DeclName = named t d n (parent t n)
declared_by t d n nodes.NameUse = Local d
declared_by t d n nodes.Case = Local d
declared_by t d n nodes.Default = Local d
declared_by t d n _ = Nothing

abbrev pub by_node : Typed → ℕ → List ℕ → Option ℕ → Meaning
by_node t d name None = if is_among name predeclared_types then TypeName else Predeclared name
by_node t d name (Some n) = declared_by t d n (kind t n)

abbrev pub by_item : Typed → ℕ → Option Decl → Meaning
by_item t d None = Nothing
by_item t d (Some decl) = by_node t d decl.name decl.node

-- what the declaration of this number declares
abbrev pub meaning_of : Typed → ℕ → Meaning
meaning_of t d = by_item t d (slice_get t.program.packages.decls d)

-- the declaration that a node's name means
abbrev pub use_at : Typed → ℕ → Option ℕ
use_at t n = option_map (λ (u : Use). u.decl) (find (λ (u : Use). u.node == n) t.program.uses)

abbrev pub is_node : Decl → ℕ → Bool
is_node decl n = option_is decl.node
  where
    option_is : Option ℕ → Bool
    option_is None = false
    option_is (Some m) = m == n

-- the declaration that the node is
abbrev pub declaration_at : Typed → ℕ → Option ℕ
declaration_at t n = position (λ decl. is_node decl n) t.program.packages.decls

abbrev pub first_of : Option ℕ → Option ℕ → Option ℕ
first_of None o = o
first_of (Some d) o = Some d

-- the node that a name is looked up by: its own, or that of the name behind the dot
abbrev pub name_node : ℕ → NodeKind → List ℕ → ℕ
name_node n nodes.Selector (x ∷ m ∷ []) = m
name_node n _ _ = n

-- the declaration that a name, or a package's member, stands for: its own, or that which it means
abbrev pub declaration_of : Typed → ℕ → Option ℕ
declaration_of t n = first_of (declaration_at t n) (use_at t (name_node n (kind t n) (kids t n)))

abbrev pub meaning_in : Typed → Option ℕ → Meaning
meaning_in t None = Nothing
meaning_in t (Some d) = meaning_of t d

abbrev pub meaning : Typed → ℕ → Meaning
meaning t n = meaning_in t (declaration_of t n)

abbrev pub is_type_meaning : Meaning → Bool
is_type_meaning TypeName = true
is_type_meaning _ = false

-- an expression that denotes a type
abbrev pub denotes : Typed → (ℕ → Bool) → ℕ → NodeKind → List ℕ → Bool
denotes t again n nodes.NameUse _ = is_type_meaning (meaning t n)
denotes t again n nodes.Selector _ = is_type_meaning (meaning t n)
denotes t again n nodes.Parens (x ∷ []) = again x
denotes t again n nodes.Deref (x ∷ []) = again x
denotes t again n k _ = is_type_form k

abbrev pub denotes_within : ℕ → Typed → ℕ → Bool
denotes_within zero t n = false
denotes_within (suc k) t n = denotes t (denotes_within k t) n (kind t n) (kids t n)

abbrev pub denotes_type : Typed → ℕ → Bool
denotes_type t n = denotes_within (node_count t) t n

abbrev pub built_in_of : Meaning → Option (List ℕ)
built_in_of (Predeclared name) = Some name
built_in_of _ = None

-- the built-in function that a callee names
abbrev pub built_in : Typed → ℕ → Option (List ℕ)
built_in t n = built_in_of (meaning t (strip t n))

abbrev pub is_nil_name : Meaning → Bool
is_nil_name (Predeclared name) = bytes_eq name (codes "nil")
is_nil_name _ = false

-- the expression is `nil`
abbrev pub is_nil : Typed → ℕ → Bool
is_nil t n = is_nil_name (meaning t (strip t n))

-- the node is a constant
abbrev pub is_constant : Typed → ℕ → Bool
is_constant t n = list_any (λ c. c.node == strip t n) t.program.consts

-- what a selector that is no package's member selects
abbrev pub selected : Typed → ℕ → Option Selected
selected t n = option_map (λ (s : Selection). s.selected) (find (λ (s : Selection). s.node == n) t.selections)

abbrev pub path_in : Option Package → List ℕ
path_in None = []
path_in (Some p) = p.path

-- the path of the package of this number
abbrev pub package_path : Typed → ℕ → List ℕ
package_path t n = path_in (slice_get t.program.packages.packages n)

abbrev pub optional_path : Typed → Option ℕ → List ℕ
optional_path t None = []
optional_path t (Some n) = package_path t n

abbrev pub name_in : Option Decl → List ℕ
name_in None = []
name_in (Some decl) = decl.name

abbrev pub package_in : Option Decl → Option ℕ
package_in None = None
package_in (Some decl) = decl.«package»

-- the name of a declaration, and the path of its package
abbrev pub decl_name : Typed → ℕ → List ℕ
decl_name t d = name_in (slice_get t.program.packages.decls d)

abbrev pub decl_path : Typed → ℕ → List ℕ
decl_path t d = optional_path t (package_in (slice_get t.program.packages.decls d))

abbrev pub decl_node : Typed → ℕ → Option ℕ
decl_node t d = option_and_then (λ (decl : Decl). decl.node) (slice_get t.program.packages.decls d)

-- the package that has the file of a node
abbrev pub package_of_file : Typed → ℕ → Option ℕ
package_of_file t file = position (λ (p : Package). list_any (λ f. f == file) p.files) t.program.packages.packages
