-- What names stand for, by the declarations and the uses of the packages.
use Rattle.std.specs.Prelude.{ℕ, suc, ◌==◌, nat_eq, Bool, true, false, List, [], ◌∷◌, Option, Some, None, slice_get, if◌then◌else◌}
use Rattle.std.specs.Str.{chars}
use Rattle.std.specs.Cmp.Lexicographic.{pointwise}
use Rattle.ucd_category.specs.GeneralCategory.{general_category}
use Rattle.ucd_category.specs.declared.GeneralCategory.{GeneralCategory}
use Rattle.ucd_category.specs.declared.GeneralCategory.TheVariants.{UppercaseLetter}
use Rattle.argot_typed.specs.declared.program.Decl.{Decl}
use Rattle.argot_typed.specs.declared.program.Use.{Use}
use Rattle.argot_check_source.specs.Code.{Code, parent_of}

abbrev pub is_text : List ℕ → List ℕ → Bool
is_text a b = pointwise nat_eq a b

abbrev pub is_upper : GeneralCategory → Bool
is_upper UppercaseLetter = true
is_upper _ = false

-- a name that begins with an upper case letter can be named in every package
abbrev pub begins_upper : List ℕ → Bool
begins_upper [] = false
begins_upper (ch ∷ chs) = is_upper (general_category ch)

abbrev pub is_exported : List ℕ → Bool
is_exported name = begins_upper (chars name)

-- the package in which a name counts: none where it is exported
abbrev pub home_of : Option ℕ → List ℕ → Option ℕ
home_of «package» name = if is_exported name then None else «package»

abbrev pub use_among : ℕ → List Use → Option ℕ
use_among n [] = None
use_among n (u ∷ us) = if u.node == n then Some u.decl else use_among n us

-- the number of the declaration that a node's name stands for
abbrev pub use_of : Code → ℕ → Option ℕ
use_of c n = use_among n c.packages.uses

abbrev pub is_at : ℕ → Option ℕ → Bool
is_at n None = false
is_at n (Some m) = n == m

abbrev pub decl_among : ℕ → ℕ → List Decl → Option ℕ
decl_among n k [] = None
decl_among n k (d ∷ ds) = if is_at n d.node then Some k else decl_among n (suc k) ds

-- the number of the declaration that a node is
abbrev pub decl_of : Code → ℕ → Option ℕ
decl_of c n = decl_among n 0 c.packages.decls

-- the node of a declaration; a predeclared one has none
abbrev pub node_of : Code → ℕ → Option ℕ
node_of c d = elim (slice_get c.packages.decls d) [ None ↦ None | Some x ↦ x.node ]

-- the name of a predeclared one
abbrev pub predeclared_by : Option Decl → Option (List ℕ)
predeclared_by None = None
predeclared_by (Some d) = elim d.node [ None ↦ Some d.name | Some n ↦ None ]

abbrev pub predeclared_name : Code → ℕ → Option (List ℕ)
predeclared_name c d = predeclared_by (slice_get c.packages.decls d)

-- the predeclared name that a node stands for
abbrev pub predeclared_at : Code → ℕ → Option (List ℕ)
predeclared_at c n = elim (use_of c n) [ None ↦ None | Some d ↦ predeclared_name c d ]

abbrev pub is_name : List ℕ → Option (List ℕ) → Bool
is_name name None = false
is_name name (Some other) = is_text name other

-- the node stands for this predeclared name
abbrev pub is_predeclared : Code → List ℕ → ℕ → Bool
is_predeclared c name n = is_name name (predeclared_at c n)

-- the specification or function that declares the name: the parent of its node
abbrev pub declarer_of : Code → ℕ → Option ℕ
declarer_of c d = elim (node_of c d) [ None ↦ None | Some n ↦ parent_of c n ]
