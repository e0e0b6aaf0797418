-- What the subset leaves out, by name: the places of each feature, in order of place.
use Rattle.std.specs.Prelude.{◌≡◌, ℕ, ◌<◌, ◌≤◌, nat_eq, Bool, true, false, not, ◌==◌, ◌⊎◌, List, [], ◌++◌, codes, drop, take_while, map, Option, Some, slice_get}
use Rattle.std.specs.List.{starts_with}
use Rattle.argot_tree.specs.declared.node_kind.NodeKind.{NodeKind}
use Rattle.argot_tree.specs.declared.node_kind.NodeKind.TheVariants as nodes
use Rattle.argot_tree.specs.declared.token.TokenKind.{TokenKind}
use Rattle.argot_tree.specs.declared.token.TokenKind.TheVariants as kinds
use Rattle.argot_tree.specs.declared.token.Token.{Token}
use Rattle.argot_tree.specs.declared.tree.TreeNode.{TreeNode}
use Rattle.argot_tree.specs.declared.entries.Entry.{Entry}
use Rattle.argot_names_rules.specs.Lists.{In, IsListOf}
use Rattle.argot_names_rules.specs.Files.{SourceFiles, SourceFile, Place, IsBefore, Begins, read_of, bytes_of, directives_of, text_at, position_of}
use Rattle.argot_names_rules.specs.Nodes.{Spans, Is, IsOf, IsFirstChild, IsNext, IsChild, HasChild, HasReceiver, is_params}
use Rattle.argot_names_rules.specs.Packages.{HasPath, folder_of, ImportPath}
use Rattle.argot_names_rules.specs.declared.package_key.PackageKey.{PackageKey}
use Rattle.argot_names_rules.specs.declared.package_key.PackageKey.TheVariants.{Folder}
use Rattle.argot_names_rules.specs.Imports.{IsImport, Imports, IsReached, IsReachedFile}
use Rattle.argot_names_rules.specs.declared.alias.Alias.{Alias}
use Rattle.argot_names_rules.specs.declared.alias.Alias.TheVariants.{Dotted}
use Rattle.argot_names_rules.specs.Bindings.{specifies_type}
use Rattle.argot_names_rules.specs.GoMod.{FirstLine}
use Rattle.argot_names_rules.specs.Agreeing.{is_assembly}
use Rattle.argot_names_rules.specs.Universe.{is_among, predeclared_types}
use Rattle.argot_names_rules.specs.Scopes.{Declaration, Predeclared, Declared}
use Rattle.argot_names_rules.specs.Uses.{IsKey, StandsFor}
use Rattle.argot_names_rules.specs.declared.flag.Feature.{Feature}
use Rattle.argot_names_rules.specs.declared.flag.Feature.TheVariants as features
use Rattle.argot_names_rules.specs.declared.flag.Flag.{Flag}

-- an entry stands for the function without a body of this name, of the receiver's type and the package's path
pub record HasEntry (entries : List Entry) (path receiver name : List ℕ) : Type 0 where
  pub entry : Entry
  pub among : In entry entries
  pub package_is : entry.package ≡ path
  pub receiver_is : entry.receiver ≡ receiver
  pub name_is : entry.name ≡ name

-- an import of a package that is left out
pub data LeavesOut : List ℕ → Feature → Type 0 where
  unsafe_ : LeavesOut (codes "unsafe") features.ImportUnsafe
  reflect : LeavesOut (codes "reflect") features.ImportReflect
  c : LeavesOut (codes "C") features.ImportC

-- a comment for the compiler that is this word, or begins with it and a space
abbrev pub directive_at : List ℕ → ℕ → List ℕ
directive_at bytes offset = take_while (λ b. not (b == 10)) (drop offset bytes)

abbrev pub IsDirective : List ℕ → List ℕ → Type 0
IsDirective word text = (text ≡ word) ⊎ (starts_with nat_eq text (word ++ codes " ") ≡ true)

pub data Directs : List ℕ → Feature → Type 0 where
  linkname : {text : List ℕ} → IsDirective (codes "//go:linkname") text → Directs text features.Linkname
  build : {text : List ℕ} → IsDirective (codes "//go:build") text → Directs text features.BuildLine
  embed : {text : List ℕ} → IsDirective (codes "//go:embed") text → Directs text features.Embed

-- a predeclared name that is left out
pub data IsFeature : List ℕ → Feature → Type 0 where
  float32 : IsFeature (codes "float32") features.FloatingPointType
  float64 : IsFeature (codes "float64") features.FloatingPointType
  complex64 : IsFeature (codes "complex64") features.ComplexType
  complex128 : IsFeature (codes "complex128") features.ComplexType
  complex : IsFeature (codes "complex") features.ComplexBuiltIn
  real : IsFeature (codes "real") features.ComplexBuiltIn
  imag : IsFeature (codes "imag") features.ComplexBuiltIn
  uintptr : IsFeature (codes "uintptr") features.Uintptr
  comparable : IsFeature (codes "comparable") features.Comparable
  recover : IsFeature (codes "recover") features.Recover

-- a literal that is left out, by its token
pub data LeavesLiteral : TokenKind → Feature → Type 0 where
  floating : LeavesLiteral kinds.Float features.FloatingPointLiteral
  imaginary : LeavesLiteral kinds.Imaginary features.ImaginaryLiteral

-- a type that is no name, as an expression
abbrev pub is_type_form : NodeKind → Bool
is_type_form nodes.PointerType = true
is_type_form nodes.ArrayType = true
is_type_form nodes.SliceType = true
is_type_form nodes.MapType = true
is_type_form nodes.ChanType = true
is_type_form nodes.SendType = true
is_type_form nodes.ReceiveType = true
is_type_form nodes.FuncType = true
is_type_form nodes.StructType = true
is_type_form nodes.InterfaceType = true
is_type_form _ = false

-- the declaration is that of a type
pub data DeclaresType (h : SourceFiles) : Declaration → Type 0 where
  predeclared : {name : List ℕ} → is_among name predeclared_types ≡ true → DeclaresType h (Predeclared name)
  declared : {file node spec at last : ℕ} → IsOf (read_of h file).nodes spec specifies_type at last → IsChild (read_of h file).nodes spec node → Is (read_of h file).nodes node nodes.DeclName → DeclaresType h (Declared file node)

-- parentheses or a star around a type
abbrev pub wraps_type : NodeKind → Bool
wraps_type nodes.Parens = true
wraps_type nodes.Deref = true
wraps_type _ = false

-- an expression that denotes a type
pub data DenotesType (h : SourceFiles) (home : PackageKey) (file : ℕ) : ℕ → Type 0 where
  name : {node : ℕ} {meant : Declaration} → Is (read_of h file).nodes node nodes.NameUse → StandsFor h home file node meant → DeclaresType h meant → DenotesType h home file node
  member : {selector node : ℕ} {meant : Declaration} → Is (read_of h file).nodes selector nodes.Selector → IsChild (read_of h file).nodes selector node → Is (read_of h file).nodes node nodes.SelectedName → StandsFor h home file node meant → DeclaresType h meant → DenotesType h home file selector
  wrapped : {node inner at last : ℕ} → IsOf (read_of h file).nodes node wraps_type at last → IsFirstChild (read_of h file).nodes node inner → DenotesType h home file inner → DenotesType h home file node
  form : {node at last : ℕ} → IsOf (read_of h file).nodes node is_type_form at last → DenotesType h home file node

-- a node whose name a scope resolves
abbrev pub is_name : NodeKind → Bool
is_name nodes.NameUse = true
is_name nodes.TypeName = true
is_name _ = false

-- parentheses or a star around a receiver's type
abbrev pub wraps_receiver : NodeKind → Bool
wraps_receiver nodes.TypeParens = true
wraps_receiver nodes.PointerType = true
wraps_receiver _ = false

-- a receiver's type, parentheses and stars left out, is this name
pub data HasBase (f : SourceFile) : ℕ → List ℕ → Type 0 where
  name : {node token last : ℕ} → Spans f.nodes node nodes.TypeName token last → HasBase f node (text_at f token)
  wrapped : {node inner at last : ℕ} {name : List ℕ} → IsOf f.nodes node wraps_receiver at last → IsFirstChild f.nodes node inner → HasBase f inner name → HasBase f node name

-- the type of a parameter
pub data HasType (tree : List TreeNode) (param : ℕ) : ℕ → Type 0 where
  alone : {type_ : ℕ} → Is tree param nodes.Param → IsFirstChild tree param type_ → HasType tree param type_
  behind : {name type_ : ℕ} → Is tree param nodes.NamedParam → IsFirstChild tree param name → IsNext tree name type_ → HasType tree param type_

-- the type of a method's receiver
pub record HasReceiverType (tree : List TreeNode) (decl type_ : ℕ) : Type 0 where
  pub list : ℕ
  pub from : ℕ
  pub to : ℕ
  pub param : ℕ
  pub under : IsChild tree decl list
  pub is_list : IsOf tree list is_params from to
  pub first : IsFirstChild tree list param
  pub has : HasType tree param type_

-- the name of a method's receiver type; none for a function, or where it is no name
pub data ReceiverName (f : SourceFile) (decl : ℕ) : List ℕ → Type 0 where
  function : (HasReceiver f.nodes decl → ⊥) → ReceiverName f decl []
  method : {type_ : ℕ} {name : List ℕ} → HasReceiverType f.nodes decl type_ → HasBase f type_ name → ReceiverName f decl name
  nameless : {type_ : ℕ} → HasReceiverType f.nodes decl type_ → ((name : List ℕ) → HasBase f type_ name → ⊥) → ReceiverName f decl []

-- Go 1.22 or later
pub data IsLater : Option (ℕ × ℕ) → Type 0 where
  major : {a b : ℕ} → 1 < a → IsLater (Some (a, b))
  minor : {b : ℕ} → 22 ≤ b → IsLater (Some (1, b))

-- a feature that is left out, where it stands
pub data HasFeature (h : SourceFiles) (main : List ℕ) (entries : List Entry) : Feature → Place → Type 0 where
  import_ : {home : PackageKey} {file node at path_at : ℕ} {alias : Alias} {path : List ℕ} {feature : Feature} {place : Place} → IsReachedFile h main home file → Imports (read_of h file) node at path_at alias path → LeavesOut path feature → Begins h file path_at place → HasFeature h main entries feature place
  dot : {home : PackageKey} {file node at path_at : ℕ} {place : Place} → IsReachedFile h main home file → IsImport (read_of h file).nodes node at path_at Dotted → Begins h file at place → HasFeature h main entries features.DotImport place
  assembly : {file : ℕ} {path folder : List ℕ} → IsReached h main (Folder folder) → HasPath h file path → is_assembly path ≡ true → folder_of path ≡ folder → HasFeature h main entries features.AssemblyFile (record { file = file; offset = 0 })
  directive : {home : PackageKey} {file offset : ℕ} {feature : Feature} → IsReachedFile h main home file → In offset (directives_of h file) → Directs (directive_at (bytes_of h file) offset) feature → HasFeature h main entries feature (record { file = file; offset = offset })
  type_parameters : {home : PackageKey} {file node token last : ℕ} {place : Place} → IsReachedFile h main home file → Spans (read_of h file).nodes node nodes.TypeParams token last → Begins h file token place → HasFeature h main entries features.TypeParameters place
  literal : {home : PackageKey} {file node token last : ℕ} {is : Token} {feature : Feature} {place : Place} → IsReachedFile h main home file → Spans (read_of h file).nodes node nodes.Literal token last → slice_get (read_of h file).tokens token ≡ Some is → LeavesLiteral is.kind feature → Begins h file token place → HasFeature h main entries feature place
  predeclared : {home : PackageKey} {file node token last : ℕ} {name : List ℕ} {feature : Feature} {place : Place} → IsReachedFile h main home file → IsOf (read_of h file).nodes node is_name token last → (IsKey (read_of h file).nodes node → ⊥) → StandsFor h home file node (Predeclared name) → IsFeature name feature → Begins h file token place → HasFeature h main entries feature place
  goto_ : {home : PackageKey} {file node token last : ℕ} {place : Place} → IsReachedFile h main home file → Spans (read_of h file).nodes node nodes.Goto token last → Begins h file token place → HasFeature h main entries features.Goto place
  method_expression : {home : PackageKey} {file node operand token last : ℕ} {place : Place} → IsReachedFile h main home file → Spans (read_of h file).nodes node nodes.Selector token last → IsFirstChild (read_of h file).nodes node operand → DenotesType h home file operand → Begins h file token place → HasFeature h main entries features.MethodExpression place
  without_body : {file decl node at last token end : ℕ} {folder path receiver : List ℕ} {place : Place} → IsReachedFile h main (Folder folder) file → Spans (read_of h file).nodes decl nodes.FuncDecl at last → (HasChild (read_of h file).nodes decl nodes.Block → ⊥) → IsChild (read_of h file).nodes decl node → Spans (read_of h file).nodes node nodes.DeclName token end → ImportPath h (Folder folder) path → ReceiverName (read_of h file) decl receiver → (HasEntry entries path receiver (text_at (read_of h file) token) → ⊥) → Begins h file token place → HasFeature h main entries features.FunctionWithoutBody place
  go_line : {file offset : ℕ} {second : List ℕ} → HasPath h file (codes "go.mod") → IsLater h.sources.go_line → FirstLine (bytes_of h file) (codes "go") offset second → HasFeature h main entries features.GoLine (record { file = file; offset = offset })

-- the order of features at one place
abbrev pub rank : Feature → ℕ
rank features.ImportUnsafe = 0
rank features.ImportReflect = 1
rank features.ImportC = 2
rank features.DotImport = 3
rank features.AssemblyFile = 4
rank features.Linkname = 5
rank features.BuildLine = 6
rank features.Embed = 7
rank features.TypeParameters = 8
rank features.FloatingPointLiteral = 9
rank features.ImaginaryLiteral = 10
rank features.FloatingPointType = 11
rank features.ComplexType = 12
rank features.ComplexBuiltIn = 13
rank features.Uintptr = 14
rank features.Comparable = 15
rank features.Recover = 16
rank features.Goto = 17
rank features.MethodExpression = 18
rank features.FunctionWithoutBody = 19
rank features.GoLine = 20

-- a feature at a place
pub record Marked : Type 0 where
  pub feature : Feature
  pub place : Place

-- by place, and then in the order of features
pub data MarkedBefore (a b : Marked) : Type 0 where
  by_place : IsBefore a.place b.place → MarkedBefore a b
  by_feature : a.place ≡ b.place → rank a.feature < rank b.feature → MarkedBefore a b

abbrev pub flag_of : SourceFiles → Marked → Flag
flag_of h marked = record { at = position_of h marked.place; feature = marked.feature }

-- all that is left out, in order
pub record AreFlags (h : SourceFiles) (main : List ℕ) (entries : List Entry) (flags : List Flag) : Type 0 where
  pub marked : List Marked
  pub are : IsListOf MarkedBefore (λ m. HasFeature h main entries m.feature m.place) marked
  pub flags_are : flags ≡ map (flag_of h) marked
