-- Declarations outside functions, and the names that imports declare (Go specification: Declarations and scope,
-- Exported identifiers).
use Rattle.std.specs.Prelude.{◌≡◌, ◌≢◌, ℕ, List, ◌∷◌, codes, encode_utf8_all}
use Rattle.std.specs.Str.{all_scalars}
use Rattle.std.specs.Prelude.{true}
use Rattle.ucd_category.specs.GeneralCategory.{general_category}
use Rattle.ucd_category.specs.declared.GeneralCategory.TheVariants.{UppercaseLetter}
use Rattle.argot_tree.specs.declared.node_kind.NodeKind.TheVariants as nodes
use Rattle.argot_tree.specs.declared.tree.TreeNode.{TreeNode}
use Rattle.argot_names_rules.specs.Files.{SourceFiles, SourceFile, Place, Begins, read_of, text_at}
use Rattle.argot_names_rules.specs.Nodes.{Spans, IsOf, IsChild, HasReceiver}
use Rattle.argot_names_rules.specs.Blocks.{IsOutside}
use Rattle.argot_names_rules.specs.Packages.{IsFileOf, HasName, IsLeftOut, Finds}
use Rattle.argot_names_rules.specs.declared.package_key.PackageKey.{PackageKey}
use Rattle.argot_names_rules.specs.Imports.{Imports}
use Rattle.argot_names_rules.specs.declared.alias.Alias.{Alias}
use Rattle.argot_names_rules.specs.declared.alias.Alias.TheVariants.{Unnamed, Named}
use Rattle.argot_names_rules.specs.Bindings.{IsNameOf, specifies_values, specifies_type}

-- what a node outside functions declares
pub data Sort : Type 0 where
  Value : Sort
  Kind : Sort
  Function : Sort

-- the node is a name that is declared outside functions, at this token; methods aren't
pub data IsTopName (tree : List TreeNode) : Sort → (node token : ℕ) → Type 0 where
  value : {spec node token at last : ℕ} → IsOf tree spec specifies_values at last → IsOutside tree at → IsNameOf tree spec node token → IsTopName tree Value node token
  type_ : {spec node token at last end : ℕ} → IsOf tree spec specifies_type at last → IsOutside tree at → IsChild tree spec node → Spans tree node nodes.DeclName token end → IsTopName tree Kind node token
  function : {decl node token at last end : ℕ} → Spans tree decl nodes.FuncDecl at last → (HasReceiver tree decl → ⊥) → IsChild tree decl node → Spans tree node nodes.DeclName token end → IsTopName tree Function node token

-- functions named `init` have no scope
abbrev pub HasScope : Sort → List ℕ → Type 0
HasScope Function name = name ≢ codes "init"
HasScope _ name = Unit {0}

-- a declaration of the name, in scope in the whole package, at a place of a file of it
pub record IsTop (h : SourceFiles) (home : PackageKey) (name : List ℕ) (file node : ℕ) (place : Place) : Type 0 where
  pub of : IsFileOf h home file
  pub sort : Sort
  pub token : ℕ
  pub is : IsTopName (read_of h file).nodes sort node token
  pub spells : name ≡ text_at (read_of h file) token
  pub scope : HasScope sort name
  pub named : name ≢ codes "_"
  pub begins : Begins h file token place

-- the first character is an upper case letter
pub record IsExported (name : List ℕ) : Type 0 where
  pub first : ℕ
  pub others : List ℕ
  pub scalars : all_scalars (first ∷ others) ≡ true
  pub is : name ≡ encode_utf8_all (first ∷ others)
  pub upper : general_category first ≡ UppercaseLetter

-- the name that an import declares: its own, or that of the package that it finds, which is the path where that package
-- is left out
pub data Imported (h : SourceFiles) (f : SourceFile) (path : List ℕ) : Alias → List ℕ → Type 0 where
  own : {token : ℕ} → Imported h f path (Named token) (text_at f token)
  of_package : {home : PackageKey} {name : List ℕ} → Finds h path home → HasName h home name → Imported h f path Unnamed name
  left_out : IsLeftOut path → Imported h f path Unnamed path

-- a file imports a package by this name, at the import's first byte
pub record IsImported (h : SourceFiles) (file : ℕ) (name : List ℕ) (node : ℕ) (path : List ℕ) (place : Place) : Type 0 where
  pub at : ℕ
  pub path_at : ℕ
  pub alias : Alias
  pub imports : Imports (read_of h file) node at path_at alias path
  pub declares : Imported h (read_of h file) path alias name
  pub named : name ≢ codes "_"
  pub begins : Begins h file at place
