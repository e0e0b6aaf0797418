-- Methods and the declared types that they belong to (Go specification: Method declarations).
use Rattle.std.specs.Prelude.{ℕ, zero, suc, ◌==◌, Bool, true, false, not, ◌&&◌, ◌||◌, List, [], ◌∷◌, length, Option, Some, None, if◌then◌else◌, codes}
use Rattle.argot_tree.specs.declared.node_kind.NodeKind.{NodeKind}
use Rattle.argot_tree.specs.declared.node_kind.NodeKind.TheVariants as nodes
use Rattle.argot_check_types.specs.Known.{Method}
use Rattle.argot_check_source.specs.Code.{Code, kind_at, children, is_of, head_of, tail_of, text_of, package_of, is_func_decl}
use Rattle.argot_check_source.specs.Names.{is_text, home_of, use_of, declarer_of, node_of}
use Rattle.argot_check_source.specs.Functions.{name_of, receiver_of, is_outside}
use Rattle.argot_check_source.specs.Constants.{numbers_that}

-- the type that a receiver is of: a declaration without `=`, and whether a `*` was gone through
pub record Base : Type 0 where
  pub decl : ℕ
  pub pointer : Bool

-- the type in a declaration: behind its name
abbrev pub type_of_spec : Code → ℕ → Option ℕ
type_of_spec c spec = head_of (tail_of (children c spec))

abbrev pub is_type_spec : NodeKind → Bool
is_type_spec nodes.TypeSpec = true
is_type_spec _ = false

abbrev pub is_alias_spec : NodeKind → Bool
is_alias_spec nodes.AliasSpec = true
is_alias_spec _ = false

-- what the next step leads to: a type further in, behind a `*` or not, or the base
pub data Onward : Type 0 where
  Inner : Option ℕ → Onward
  BehindStar : Option ℕ → Onward
  Found : (decl : ℕ) → Onward
  NoBase : Onward

-- a name of a type: one that is declared with `=` leads on to its type
abbrev pub onward_spec : Code → ℕ → Option ℕ → Onward
onward_spec c d None = NoBase
onward_spec c d (Some spec) = if is_of c is_alias_spec spec then Inner (type_of_spec c spec) else if is_of c is_type_spec spec then Found d else NoBase

abbrev pub onward_name : Code → Option ℕ → Onward
onward_name c None = NoBase
onward_name c (Some d) = onward_spec c d (declarer_of c d)

abbrev pub onward_kind : Code → ℕ → NodeKind → Onward
onward_kind c n nodes.TypeParens = Inner (head_of (children c n))
onward_kind c n nodes.PointerType = BehindStar (head_of (children c n))
onward_kind c n nodes.TypeName = onward_name c (use_of c n)
onward_kind c n _ = NoBase

abbrev pub onward_of : Code → Option ℕ → Onward
onward_of c None = NoBase
onward_of c (Some n) = elim (kind_at c n) [ None ↦ NoBase | Some kind ↦ onward_kind c n kind ]

-- from a receiver's type on, through parentheses, one `*` in all, and names that are declared with `=`
abbrev pub base_within : Code → ℕ → Bool → Onward → Option Base
base_within c zero star at = None
base_within c (suc k) star (Inner t) = base_within c k star (onward_of c t)
base_within c (suc k) true (BehindStar t) = None
base_within c (suc k) false (BehindStar t) = base_within c k true (onward_of c t)
base_within c (suc k) star (Found d) = Some (record { decl = d; pointer = star })
base_within c (suc k) star NoBase = None

-- the type that a receiver's one entry writes: behind its name, if it has one
abbrev pub last_child : List ℕ → Option ℕ
last_child [] = None
last_child (n ∷ []) = Some n
last_child (n ∷ m ∷ ns) = last_child (m ∷ ns)

abbrev pub receiver_type : Code → ℕ → Option ℕ
receiver_type c method = elim (receiver_of c method) [ None ↦ None | Some list ↦ elim (head_of (children c list)) [ None ↦ None | Some entry ↦ last_child (children c entry) ] ]

abbrev pub is_same_package : Option ℕ → Option ℕ → Bool
is_same_package (Some a) (Some b) = a == b
is_same_package _ _ = false

-- the base is declared in the package of the method, outside functions
abbrev pub is_near : Code → ℕ → Option ℕ → Bool
is_near c method None = false
is_near c method (Some n) = is_same_package (package_of c method) (package_of c n) && is_outside c n

abbrev pub near_base : Code → ℕ → Option Base → Option Base
near_base c method None = None
near_base c method (Some b) = if is_near c method (node_of c b.decl) then Some b else None

-- the base of a method
abbrev pub base_of : Code → ℕ → Option Base
base_of c method = near_base c method (base_within c (length c.nodes) false (onward_of c (receiver_type c method)))

abbrev pub is_base : ℕ → Option Base → Bool
is_base d None = false
is_base d (Some b) = b.decl == d

-- a declaration of a method of the type
abbrev pub is_method_of : Code → ℕ → ℕ → Bool
is_method_of c d n = is_of c is_func_decl n && is_base d (base_of c n)

abbrev pub text_of_name : Code → Option ℕ → List ℕ
text_of_name c None = []
text_of_name c (Some n) = text_of c n

abbrev pub method_name : Code → ℕ → List ℕ
method_name c method = text_of_name c (name_of c method)

abbrev pub is_pointer_base : Option Base → Bool
is_pointer_base None = false
is_pointer_base (Some b) = b.pointer

abbrev pub method_at : Code → ℕ → Method
method_at c n = record { name = method_name c n; home = home_of (package_of c n) (method_name c n); node = n; pointer = is_pointer_base (base_of c n) }

abbrev pub is_name_before : Code → List ℕ → List ℕ → Bool
is_name_before c name [] = false
is_name_before c name (n ∷ ns) = is_text name (method_name c n) || is_name_before c name ns

-- each name counts once, and `_` doesn't
abbrev pub counted : Code → List ℕ → List ℕ → List Method
counted c before [] = []
counted c before (n ∷ ns) =
    if is_text (method_name c n) (codes "_") || is_name_before c (method_name c n) before then counted c before ns
    else method_at c n ∷ counted c (n ∷ before) ns

-- the declarations of methods of a declared type, in order
abbrev pub declarations_of : Code → ℕ → List ℕ
declarations_of c d = numbers_that (is_method_of c d) (length c.nodes) 0

-- the methods of a declared type: of two of one name the first
unfoldable pub methods_of : Code → ℕ → List Method
methods_of c d = counted c [] (declarations_of c d)

abbrev pub is_alone_among : Code → ℕ → List ℕ → Bool
is_alone_among c method [] = true
is_alone_among c method (n ∷ ns) = (n == method || not (is_text (method_name c n) (method_name c method))) && is_alone_among c method ns

-- no other method of its base has its name
abbrev pub is_alone : Code → ℕ → Bool
is_alone c method = elim (base_of c method) [ None ↦ true | Some b ↦ is_alone_among c method (declarations_of c b.decl) ]
