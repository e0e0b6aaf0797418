-- Names that stand for a declaration, and what each of them means.
use Rattle.std.specs.Prelude.{◌≡◌, ◌≢◌, ◌+◌, ◌<◌, ◌≤◌, ℕ, Bool, true, false, ◌⊎◌, List, codes}
use Rattle.argot_tree.specs.declared.node_kind.NodeKind.{NodeKind}
use Rattle.argot_tree.specs.declared.node_kind.NodeKind.TheVariants as nodes
use Rattle.argot_tree.specs.declared.tree.TreeNode.{TreeNode}
use Rattle.argot_names_rules.specs.Files.{SourceFiles, SourceFile, Place, read_of, text_at}
use Rattle.argot_names_rules.specs.Nodes.{Spans, Is, IsOf, IsFirstChild, IsChild, HasChild}
use Rattle.argot_names_rules.specs.Packages.{Finds}
use Rattle.argot_names_rules.specs.declared.package_key.PackageKey.{PackageKey}
use Rattle.argot_names_rules.specs.Imports.{IsImport}
use Rattle.argot_names_rules.specs.declared.alias.Alias.TheVariants.{Dotted}
use Rattle.argot_names_rules.specs.Bindings.{BindingKind, Defined, Brings, IsOnLeft, HasEarlier}
use Rattle.argot_names_rules.specs.PackageScope.{IsTop, IsImported, IsExported}
use Rattle.argot_names_rules.specs.Scopes.{Declaration, Declared, Means}

-- a lone name as the key of an item in a composite literal
pub record IsKey (tree : List TreeNode) (node : ℕ) : Type 0 where
  pub item : ℕ
  pub is_item : Is tree item nodes.KeyedItem
  pub first : IsFirstChild tree item node

-- a statement or clause whose expressions on the left a `:=` declares
abbrev pub defines_expressions : NodeKind → Bool
defines_expressions nodes.DefineRange = true
defines_expressions nodes.DefineCase = true
defines_expressions _ = false

-- a name on the left of such a `:=`
pub record IsDefined (tree : List TreeNode) (node : ℕ) : Type 0 where
  pub parent : ℕ
  pub at : ℕ
  pub end : ℕ
  pub list : ℕ
  pub token : ℕ
  pub is_parent : IsOf tree parent defines_expressions at end
  pub left : IsOnLeft tree parent list node token

-- a name in the place of a value, of a type, or of a package before a dot and the name of a type
pub data IsLookup (tree : List TreeNode) : (node token : ℕ) → Type 0 where
  value : {node token last : ℕ} → Spans tree node nodes.NameUse token last → (IsDefined tree node → ⊥) → IsLookup tree node token
  type_ : {node token last : ℕ} → Spans tree node nodes.TypeName token last → IsLookup tree node token
  package_ : {node token last : ℕ} → Spans tree node nodes.QualifiedType token last → IsLookup tree node token

-- a lone name before a dot and another name: the node of the whole, the tokens of both, and the node that has the member
pub data IsQualified (tree : List TreeNode) : (token member node : ℕ) → Type 0 where
  selector : {selector operand node token last member end at to : ℕ} → Spans tree selector nodes.Selector at to → IsFirstChild tree selector operand → Spans tree operand nodes.NameUse token last → IsChild tree selector node → Spans tree node nodes.SelectedName member end → IsQualified tree token member node
  type_ : {node token last : ℕ} → Spans tree node nodes.QualifiedType token last → IsQualified tree token (token + 2) node

-- the first of the two names means an import of this path
pub record IsOfPackage (h : SourceFiles) (home : PackageKey) (file token : ℕ) (path : List ℕ) : Type 0 where
  pub node : ℕ
  pub name : List ℕ
  pub place : Place
  pub spells : name ≡ text_at (read_of h file) token
  pub means : Means h home file token name (Declared file node)
  pub imported : IsImported h file name node path place

-- an exported declaration of the package that the path finds; of several the first is meant
pub record IsMember (h : SourceFiles) (path name : List ℕ) (file node : ℕ) : Type 0 where
  pub target : PackageKey
  pub place : Place
  pub finds : Finds h path target
  pub top : IsTop h target name file node place
  pub least : (other n : ℕ) (p : Place) → IsTop h target name other n p → (file < other) ⊎ ((file ≡ other) × (node ≤ n))
  pub exported : IsExported name

-- the first name of its block with that text, which a later `:=` assigns to. Should two nodes bring one name there, it is
-- the first of them
pub record IsFirstOf (f : SourceFile) (token opens node : ℕ) : Type 0 where
  pub manner : BindingKind
  pub at : ℕ
  pub closes : ℕ
  pub from : ℕ
  pub brings : Brings f.nodes manner node at opens closes from
  pub same : text_at f at ≡ text_at f token
  pub earlier : at < token
  pub first : HasEarlier f at opens → ⊥
  pub least : {how : BindingKind} {other closes from : ℕ} → Brings f.nodes how other at opens closes from → node ≤ other

-- what a node of a file stands for
pub data StandsFor (h : SourceFiles) (home : PackageKey) (file : ℕ) : ℕ → Declaration → Type 0 where
  value : {node token last : ℕ} {meant : Declaration} → Spans (read_of h file).nodes node nodes.NameUse token last → (IsDefined (read_of h file).nodes node → ⊥) → text_at (read_of h file) token ≢ codes "_" → Means h home file token (text_at (read_of h file) token) meant → StandsFor h home file node meant
  type_ : {node token last : ℕ} {meant : Declaration} → Spans (read_of h file).nodes node nodes.TypeName token last → text_at (read_of h file) token ≢ codes "_" → Means h home file token (text_at (read_of h file) token) meant → StandsFor h home file node meant
  member : {token member node other declared : ℕ} {path : List ℕ} → IsQualified (read_of h file).nodes token member node → IsOfPackage h home file token path → IsMember h path (text_at (read_of h file) member) other declared → StandsFor h home file node (Declared other declared)
  assigned : {node token opens closes from first : ℕ} → Brings (read_of h file).nodes Defined node token opens closes from → text_at (read_of h file) token ≢ codes "_" → IsFirstOf (read_of h file) token opens first → StandsFor h home file node (Declared file first)

-- a file in which a package is imported under a dot
pub record HasDotImport (tree : List TreeNode) : Type 0 where
  pub node : ℕ
  pub at : ℕ
  pub path_at : ℕ
  pub is : IsImport tree node at path_at Dotted

-- declarations that may have type parameters: functions and single types of a group
abbrev pub may_be_generic : NodeKind → Bool
may_be_generic nodes.FuncDecl = true
may_be_generic nodes.TypeSpec = true
may_be_generic nodes.AliasSpec = true
may_be_generic _ = false

-- the token stands in a declaration with type parameters
pub record IsInGeneric (tree : List TreeNode) (token : ℕ) : Type 0 where
  pub node : ℕ
  pub at : ℕ
  pub last : ℕ
  pub is : IsOf tree node may_be_generic at last
  pub generic : HasChild tree node nodes.TypeParams
  pub from : at ≤ token
  pub to : token ≤ last

-- where a name may mean what argot leaves out, and counts as resolved
abbrev pub IsPassedOver : List TreeNode → ℕ → Type 0
IsPassedOver tree token = HasDotImport tree ⊎ IsInGeneric tree token
