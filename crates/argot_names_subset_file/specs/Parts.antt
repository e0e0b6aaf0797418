-- What is left out at one node of a file: the feature, and the token at which it stands.
use Rattle.std.specs.Prelude.{◌≡◌, ℕ, Bool, List, Option, Some, slice_get}
use Rattle.argot_tree.specs.declared.node_kind.NodeKind.TheVariants as nodes
use Rattle.argot_tree.specs.declared.token.Token.{Token}
use Rattle.argot_tree.specs.declared.token.TokenKind.{TokenKind}
use Rattle.argot_tree.specs.declared.tree.TreeNode.{TreeNode}
use Rattle.argot_tree.specs.declared.entries.Entry.{Entry}
use Rattle.argot_names_rules.specs.Files.{SourceFile, Place, text_at}
use Rattle.argot_names_rules.specs.Nodes.{Spans, Is, IsOf, IsChild, HasChild}
use Rattle.argot_names_rules.specs.Imports.{IsImport}
use Rattle.argot_names_rules.specs.Uses.{IsKey}
use Rattle.argot_names_rules.specs.declared.alias.Alias.TheVariants.{Dotted}
use Rattle.argot_names_rules.specs.declared.flag.Feature.{Feature}
use Rattle.argot_names_rules.specs.declared.flag.Feature.TheVariants as features
use Rattle.argot_names_rules.specs.Subset.{LeavesLiteral, is_name}
use Rattle.argot_names_subset_file.specs.declared.parts.Part.{Part}
use Rattle.argot_names_subset_file.specs.Atoms.{IsAtom, IsBeforeDot}
use Rattle.argot_names_subset_file.specs.Receivers.{LacksEntry}

-- the first byte of a token
pub record BeginsIn (tokens : List Token) (file token : ℕ) (place : Place) : Type 0 where
  pub is : Token
  pub there : slice_get tokens token ≡ Some is
  pub in_file : place.file ≡ file
  pub at : place.offset ≡ is.start

-- an import under a dot
pub record IsDot (tree : List TreeNode) (node : ℕ) (part : Part) : Type 0 where
  pub path_at : ℕ
  pub feature_is : part.feature ≡ features.DotImport
  pub is : IsImport tree node part.token path_at Dotted

-- what is left out wherever it stands
pub data IsPlain (tree : List TreeNode) (node : ℕ) : Part → Type 0 where
  type_parameters : {token last : ℕ} → Spans tree node nodes.TypeParams token last → IsPlain tree node (record { feature = features.TypeParameters; token = token })
  goto_ : {token last : ℕ} → Spans tree node nodes.Goto token last → IsPlain tree node (record { feature = features.Goto; token = token })

-- the token is of this kind
pub record IsKindAt (tokens : List Token) (token : ℕ) (kind : TokenKind) : Type 0 where
  pub is : Token
  pub there : slice_get tokens token ≡ Some is
  pub kind_is : is.kind ≡ kind

-- the node is a literal with this token
pub record IsLiteralAt (tree : List TreeNode) (node token : ℕ) : Type 0 where
  pub last : ℕ
  pub spans : Spans tree node nodes.Literal token last

-- a literal that is left out
pub record IsNumber (tokens : List Token) (tree : List TreeNode) (node : ℕ) (part : Part) : Type 0 where
  pub kind : TokenKind
  pub literal : IsLiteralAt tree node part.token
  pub is_kind : IsKindAt tokens part.token kind
  pub leaves : LeavesLiteral kind part.feature

-- the table has the feature for the node
abbrev pub IsStanding : List (Option Feature) → ℕ → Feature → Type 0
IsStanding named node feature = slice_get named node ≡ Some (Some feature)

-- a name that stands for a feature, by a table of these; a lone key in a composite literal doesn't count
pub record IsNamed (tree : List TreeNode) (named : List (Option Feature)) (node : ℕ) (part : Part) : Type 0 where
  pub last : ℕ
  pub is : IsOf tree node is_name part.token last
  pub used : IsKey tree node → ⊥
  pub stands : IsStanding named node part.feature

-- a selector whose operand denotes a type by this node
pub record IsMethod (tree : List TreeNode) (typed : List Bool) (node : ℕ) (part : Part) : Type 0 where
  pub atom : ℕ
  pub selector : ℕ
  pub last : ℕ
  pub feature_is : part.feature ≡ features.MethodExpression
  pub is_atom : IsAtom tree typed node atom
  pub before : IsBeforeDot tree atom selector
  pub spans : Spans tree selector nodes.Selector part.token last

-- the node is a part of this function without a body
pub record IsBodilessAbove (tree : List TreeNode) (node decl : ℕ) : Type 0 where
  pub is : Is tree decl nodes.FuncDecl
  pub bodiless : HasChild tree decl nodes.Block → ⊥
  pub under : IsChild tree decl node

-- a name that is declared, with its token
pub record IsDeclaredAt (tree : List TreeNode) (node token : ℕ) : Type 0 where
  pub end : ℕ
  pub spans : Spans tree node nodes.DeclName token end

-- the name of a function without a body, for which the package has no entry
pub record IsBodiless (f : SourceFile) (entries : List Entry) (path : List ℕ) (node : ℕ) (part : Part) : Type 0 where
  pub decl : ℕ
  pub feature_is : part.feature ≡ features.FunctionWithoutBody
  pub above : IsBodilessAbove f.nodes node decl
  pub name : IsDeclaredAt f.nodes node part.token
  pub lacks : LacksEntry f entries path (text_at f part.token) decl
