-- A program with its types, as lists: the table of types, the types and the constants of nodes, and the uses of names.
use Rattle.std.specs.Prelude.{◌≤◌, ◌&&◌, ◌||◌, ◌≡◌, ◌≢◌, ℕ, ◌<◌, true, false, List, [], ◌∷◌, length, Some, None, slice_get, Bool, Option}
use Rattle.argot_typed.specs.declared.shape.TypeId.{TypeId}
use Rattle.argot_typed.specs.declared.shape.MethodShape.{MethodShape}
use Rattle.argot_typed.specs.declared.shape.Shape.{Shape}
use Rattle.argot_typed.specs.declared.shape.Shape.TheVariants.{Named, Interface}
use Rattle.argot_typed.specs.declared.program.NodeType.{NodeType}
use Rattle.argot_typed.specs.declared.program.NodeConst.{NodeConst}
use Rattle.argot_typed.specs.declared.program.Use.{Use}
use Rattle.argot_typed.specs.declared.program.Packages.{Packages}
use Rattle.argot_typed.specs.declared.program.TypedProgram.{TypedProgram}
use Rattle.argot_typed.specs.Fitting.{AreFit}
use Rattle.argot_names_rules.specs.Lists.{In, IsListOf}
use Rattle.argot_names_rules.specs.Files.{SourceFiles}
use Rattle.argot_check_types.specs.Types.{Ty, basic, named, under_basic}
use Rattle.argot_check_types.specs.Facts.{Value, Fact, value, no_value, results, kind, under, done}
use Rattle.argot_check_types.specs.Known.{Method}
use Rattle.argot_check_types.specs.Tables.{type_at, declared_type}
use Rattle.std.specs.List.{Contains}
use Rattle.argot_tree.specs.declared.node_kind.NodeKind.{NodeKind}
use Rattle.argot_tree.specs.declared.node_kind.NodeKind.TheVariants as nodes
use Rattle.argot_check_types.specs.Identity.{same_text, same_home}
use Rattle.argot_check_typing.specs.Late.{IsUnder}
use Rattle.argot_check_typing.specs.Types.{is_method}
use Rattle.argot_check_types.specs.Types as types
use Rattle.argot_check_rules.specs.Rows.{At}
use Rattle.argot_check_source.specs.Code.{Code, all_of, children, children_of_all, code_of, kind_at, package_of, text_of}
use Rattle.argot_check_source.specs.Methods.{methods_of}
use Rattle.argot_check_source.specs.Functions.{signature_of}
use Rattle.argot_check_typing.specs.Positions.{declaration_row}
use Rattle.argot_check_typing.specs.Expressions.{is_key}
use Rattle.argot_check_typing.specs.Rules.{Typed}
use Rattle.argot_check_typing.specs.Selections.{HasStock}
use Rattle.argot_check_typing.specs.Faults.{IsSound}

-- the types of a node, by what is said of it: one of a value or a type, those of a call's results, else none
abbrev pub types_of : Fact → List Ty
types_of (value v) = v.of ∷ []
types_of (kind t) = t ∷ []
types_of no_value = types.nil ∷ []
types_of (results ts) = ts
types_of _ = []

abbrev pub types_at : List Shape → List TypeId → List Ty
types_at shapes [] = []
types_at shapes (t ∷ ts) = type_at shapes t.0 ∷ types_at shapes ts

-- the types of a node; one that is absent has none
pub data HasTypes (c : Code) : ℕ → List Ty → Type 0 where
  present : {n : ℕ} {f : Fact} → Typed c (At n) f → HasTypes c n (types_of f)
  absent : {n : ℕ} → package_of c n ≡ None → HasTypes c n []

-- one item for each node of all trees, in order
pub record AreTypes (c : Code) (shapes : List Shape) (items : List NodeType) : Type 0 where
  pub as_many : length items ≡ length c.nodes
  pub in_order : (n : ℕ) (item : NodeType) → slice_get items n ≡ Some item → item.node ≡ n
  pub right : (n : ℕ) (item : NodeType) → slice_get items n ≡ Some item → HasTypes c n (types_at shapes item.parts)

-- the constants, by node; copies have none
pub record IsConstant (c : Code) (it : NodeConst) : Type 0 where
  pub of : Value
  pub typed : Typed c (At it.node) (value of)
  pub constant : of.constant ≡ Some it.value

abbrev pub AreConstants : Code → List NodeConst → Type 0
AreConstants c items = IsListOf (λ (a b : NodeConst). a.node < b.node) (IsConstant c) items

-- a name stands for its declaration, unless it is the key of a field in a literal
pub data KeepsUse (c : Code) : Use → Type 0 where
  plain : {use_ : Use} → In use_ c.packages.uses → is_key c use_.node ≡ false → KeepsUse c use_
  key : {use_ : Use} {f : Fact} → In use_ c.packages.uses → is_key c use_.node ≡ true → Typed c (At use_.node) f → f ≢ done → KeepsUse c use_

abbrev pub AreUses : Code → List Use → Type 0
AreUses c uses = IsListOf (λ (a b : Use). a.node < b.node) (KeepsUse c) uses

-- The table ---------------------------------------------------------------------------------------------------------

-- the type under a declared one
pub data IsUnderDecl (c : Code) : ℕ → Ty → Type 0 where
  predeclared : {d : ℕ} {b : types.Basic} → declared_type d ≡ basic b → IsUnderDecl c d (under_basic b)
  declared : {d : ℕ} {row : Rattle.argot_check_rules.specs.Rows.Row} {t : Ty} → declaration_row c d ≡ Some row → Typed c row (under t) → IsUnderDecl c d t

-- a method of a declared type in the table
pub record IsMethodShape (c : Code) (shapes : List Shape) (m : Method) (shape : MethodShape) : Type 0 where
  pub name : shape.name ≡ m.name
  pub home : shape.«package» ≡ m.home
  pub node : shape.node ≡ Some m.node
  pub pointer : shape.pointer ≡ m.pointer
  pub signature : ℕ
  pub has : signature_of c m.node ≡ Some signature
  pub typed : Typed c (At signature) (kind (type_at shapes shape.of.0))

pub data AreMethodShapes (c : Code) (shapes : List Shape) : List Method → List MethodShape → Type 0 where
  none : AreMethodShapes c shapes [] []
  more : {m : Method} {ms : List Method} {s : MethodShape} {ss : List MethodShape} → IsMethodShape c shapes m s → AreMethodShapes c shapes ms ss → AreMethodShapes c shapes (m ∷ ms) (s ∷ ss)

-- each declared type of the table has what is under it, and its methods
pub record AreNamedRight (c : Code) (shapes : List Shape) : Type 0 where
  pub under : (t decl : ℕ) (of : TypeId) (methods : List MethodShape) → slice_get shapes t ≡ Some (Named decl of methods) → IsUnderDecl c decl (type_at shapes of.0)
  pub methods : (t decl : ℕ) (of : TypeId) (methods : List MethodShape) → slice_get shapes t ≡ Some (Named decl of methods) → AreMethodShapes c shapes (methods_of c decl) methods

-- Methods of interfaces in the table have the nodes that write them -------------------------------------------------

-- an interface has a method of that name and home
abbrev pub has_method : Ty → List ℕ → Option ℕ → Bool
has_method (types.method name home of rest) other there = same_text name other && same_home home there || has_method rest other there
has_method _ other there = false

-- the node of a method in the shape of an interface
pub record HasNode (shapes : List Shape) (t : Ty) (name : List ℕ) (home node : Option ℕ) : Type 0 where
  pub number : ℕ
  pub methods : List MethodShape
  pub shape : MethodShape
  pub there : slice_get shapes number ≡ Some (Interface methods)
  pub is : type_at shapes number ≡ t
  pub among : In shape methods
  pub named : shape.name ≡ name
  pub at_home : shape.«package» ≡ home
  pub has : shape.node ≡ node

-- the first of these embedded types that has the method
pub data IsEmbeddedNode (c : Code) (shapes : List Shape) (name : List ℕ) (home node : Option ℕ) : List ℕ → Type 0 where
  here : {e : ℕ} {es : List ℕ} {t ms : Ty} → Typed c (At e) (kind t) → IsUnder c t (types.interface ms) → has_method ms name home ≡ true → HasNode shapes (types.interface ms) name home node → IsEmbeddedNode c shapes name home node (e ∷ es)
  later : {e : ℕ} {es : List ℕ} {t ms : Ty} → Typed c (At e) (kind t) → IsUnder c t (types.interface ms) → has_method ms name home ≡ false → IsEmbeddedNode c shapes name home node es → IsEmbeddedNode c shapes name home node (e ∷ es)

-- the methods that an interface type writes, by their nodes, and the types that it embeds
abbrev pub methods_written : Code → ℕ → List ℕ
methods_written c n = all_of c is_method (children c n)

abbrev pub is_embedded_type : NodeKind → Bool
is_embedded_type nodes.EmbeddedType = true
is_embedded_type _ = false

abbrev pub types_embedded : Code → ℕ → List ℕ
types_embedded c n = children_of_all c (all_of c is_embedded_type (children c n))

-- the node of a method of an interface type: what it writes comes before what it embeds
pub data IsMethodNode (c : Code) (shapes : List Shape) (n : ℕ) (name : List ℕ) (home : Option ℕ) : Option ℕ → Type 0 where
  written : {m : ℕ} → Contains (methods_written c n) m → text_of c m ≡ name → IsMethodNode c shapes n name home (Some m)
  embedded : {node : Option ℕ} → ((m : ℕ) → Contains (methods_written c n) m → text_of c m ≢ name) → IsEmbeddedNode c shapes name home node (types_embedded c n) → IsMethodNode c shapes n name home node

-- the interface type of the least number that is this type
pub record IsFirstInterface (c : Code) (t : Ty) (n : ℕ) : Type 0 where
  pub is : kind_at c n ≡ Some nodes.InterfaceType
  pub typed : Typed c (At n) (kind t)
  pub first : (m : ℕ) → kind_at c m ≡ Some nodes.InterfaceType → Typed c (At m) (kind t) → n ≤ m

-- the methods of interfaces have these nodes; that of `error`, and of all that is identical to what is under it, has none
pub record AreInterfacesRight (c : Code) (shapes : List Shape) : Type 0 where
  pub error_ : (t : ℕ) (methods : List MethodShape) (m : MethodShape) → slice_get shapes t ≡ Some (Interface methods) → type_at shapes t ≡ types.under_error → In m methods → m.node ≡ None
  pub others : (t n : ℕ) (methods : List MethodShape) (m : MethodShape) → slice_get shapes t ≡ Some (Interface methods) → type_at shapes t ≢ types.under_error → IsFirstInterface c (type_at shapes t) n → In m methods → IsMethodNode c shapes n m.name m.«package» m.node
  pub values : (t : ℕ) (methods : List MethodShape) (m : MethodShape) → slice_get shapes t ≡ Some (Interface methods) → In m methods → m.pointer ≡ false

-- numbers of types are equal where the types are identical
abbrev pub AreDistinct : List Shape → Type 0
AreDistinct shapes = (t u : ℕ) → t < length shapes → u < length shapes → type_at shapes t ≡ type_at shapes u → t ≡ u

-- the lists are the typing of the program
pub record IsTyping (files : SourceFiles) (packages : Packages) (typed : TypedProgram) : Type 0 where
  pub fit : AreFit typed.table
  pub distinct : AreDistinct typed.table
  pub stock : HasStock typed.table
  pub named : AreNamedRight (code_of files packages) typed.table
  pub interfaces : AreInterfacesRight (code_of files packages) typed.table
  pub types : AreTypes (code_of files packages) typed.table typed.types
  pub consts : AreConstants (code_of files packages) typed.consts
  pub uses : AreUses (code_of files packages) typed.uses
  pub same : typed.packages ≡ packages

-- nothing is wrong, and each node of the packages is typed
pub record IsWellTyped (files : SourceFiles) (packages : Packages) : Type 0 where
  pub sound : (n : ℕ) → IsSound (code_of files packages) n
  pub total : (n p : ℕ) → package_of (code_of files packages) n ≡ Some p → (f : Fact) × Typed (code_of files packages) (At n) f
