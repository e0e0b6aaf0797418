-- What is left out in the files of packages, whichever these are.
use Rattle.std.specs.Prelude.{◌≡◌, ℕ, List, Some, slice_get}
use Rattle.argot_tree.specs.declared.node_kind.NodeKind.TheVariants as nodes
use Rattle.argot_tree.specs.declared.token.Token.{Token}
use Rattle.argot_tree.specs.declared.entries.Entry.{Entry}
use Rattle.argot_names_rules.specs.Lists.{In}
use Rattle.argot_names_rules.specs.Files.{SourceFiles, Place, Begins, read_of, bytes_of, directives_of, text_at}
use Rattle.argot_names_rules.specs.Nodes.{Spans, IsOf, IsFirstChild, IsChild, HasChild}
use Rattle.argot_names_rules.specs.Packages.{IsFileOf, ImportPath}
use Rattle.argot_names_rules.specs.declared.package_key.PackageKey.{PackageKey}
use Rattle.argot_names_rules.specs.declared.package_key.PackageKey.TheVariants.{Folder}
use Rattle.argot_names_rules.specs.Imports.{IsImport, Imports}
use Rattle.argot_names_rules.specs.declared.alias.Alias.{Alias}
use Rattle.argot_names_rules.specs.declared.alias.Alias.TheVariants.{Dotted}
use Rattle.argot_names_rules.specs.Scopes.{Predeclared}
use Rattle.argot_names_rules.specs.Uses.{IsKey, StandsFor}
use Rattle.argot_names_rules.specs.declared.flag.Feature.{Feature}
use Rattle.argot_names_rules.specs.declared.flag.Feature.TheVariants as features
use Rattle.argot_names_rules.specs.Subset.{HasEntry, LeavesOut, directive_at, Directs, IsFeature, LeavesLiteral, is_name, DenotesType, ReceiverName}

-- a feature in a file of the package
pub data IsInside (h : SourceFiles) (entries : List Entry) (home : PackageKey) (file : ℕ) : Feature → Place → Type 0 where
  import_ : {node at path_at : ℕ} {alias : Alias} {path : List ℕ} {feature : Feature} {place : Place} → Imports (read_of h file) node at path_at alias path → LeavesOut path feature → Begins h file path_at place → IsInside h entries home file feature place
  dot : {node at path_at : ℕ} {place : Place} → IsImport (read_of h file).nodes node at path_at Dotted → Begins h file at place → IsInside h entries home file features.DotImport place
  directive : {offset : ℕ} {feature : Feature} → In offset (directives_of h file) → Directs (directive_at (bytes_of h file) offset) feature → IsInside h entries home file feature (record { file = file; offset = offset })
  type_parameters : {node token last : ℕ} {place : Place} → Spans (read_of h file).nodes node nodes.TypeParams token last → Begins h file token place → IsInside h entries home file features.TypeParameters place
  literal : {node token last : ℕ} {is : Token} {feature : Feature} {place : Place} → Spans (read_of h file).nodes node nodes.Literal token last → slice_get (read_of h file).tokens token ≡ Some is → LeavesLiteral is.kind feature → Begins h file token place → IsInside h entries home file feature place
  predeclared : {node token last : ℕ} {name : List ℕ} {feature : Feature} {place : Place} → IsOf (read_of h file).nodes node is_name token last → (IsKey (read_of h file).nodes node → ⊥) → StandsFor h home file node (Predeclared name) → IsFeature name feature → Begins h file token place → IsInside h entries home file feature place
  goto_ : {node token last : ℕ} {place : Place} → Spans (read_of h file).nodes node nodes.Goto token last → Begins h file token place → IsInside h entries home file features.Goto place
  method_expression : {node operand token last : ℕ} {place : Place} → Spans (read_of h file).nodes node nodes.Selector token last → IsFirstChild (read_of h file).nodes node operand → DenotesType h home file operand → Begins h file token place → IsInside h entries home file features.MethodExpression place
  without_body : {decl node at last token end : ℕ} {folder path receiver : List ℕ} {place : Place} → home ≡ Folder folder → Spans (read_of h file).nodes decl nodes.FuncDecl at last → (HasChild (read_of h file).nodes decl nodes.Block → ⊥) → IsChild (read_of h file).nodes decl node → Spans (read_of h file).nodes node nodes.DeclName token end → ImportPath h (Folder folder) path → ReceiverName (read_of h file) decl receiver → (HasEntry entries path receiver (text_at (read_of h file) token) → ⊥) → Begins h file token place → IsInside h entries home file features.FunctionWithoutBody place

-- in some file of the package
pub record IsInPackage (h : SourceFiles) (entries : List Entry) (home : PackageKey) (feature : Feature) (place : Place) : Type 0 where
  pub file : ℕ
  pub of : IsFileOf h home file
  pub inside : IsInside h entries home file feature place

-- in some file of one of the packages
pub record IsAmongKeys (h : SourceFiles) (entries : List Entry) (homes : List PackageKey) (feature : Feature) (place : Place) : Type 0 where
  pub home : PackageKey
  pub among : In home homes
  pub is : IsInPackage h entries home feature place
