-- Which declaration a name means: that of the innermost block that has it in scope (Go specification: Declarations and
-- scope).
use Rattle.std.specs.Prelude.{◌≡◌, ◌+◌, ◌<◌, ◌≤◌, ℕ, true, ◌⊎◌, List}
use Rattle.argot_names_rules.specs.Files.{SourceFiles, Place, read_of, text_at}
use Rattle.argot_names_rules.specs.declared.package_key.PackageKey.{PackageKey}
use Rattle.argot_names_rules.specs.Bindings.{IsLocal}
use Rattle.argot_names_rules.specs.Universe.{is_among, predeclared}
use Rattle.argot_names_rules.specs.PackageScope.{IsTop, IsImported}

-- a declaration: that of a predeclared name, or a node of a file
pub data Declaration : Type 0 where
  Predeclared : List ℕ → Declaration
  Declared : (file node : ℕ) → Declaration

-- the block of a declaration. They lie in each other in this order, and those of functions by their first tokens
pub data Block : Type 0 where
  Everywhere : Block
  InPackage : Block
  InFile : Block
  InFunction : ℕ → Block

-- how far in a block lies among those around one token
abbrev pub depth : Block → ℕ
depth Everywhere = 0
depth InPackage = 1
depth InFile = 2
depth (InFunction opens) = 3 + opens

-- a block lies further in than another
abbrev pub IsInside : Block → Block → Type 0
IsInside inner outer = depth outer < depth inner

-- a declaration of the name is in scope at a token of a file of the package
pub data InScope (h : SourceFiles) (home : PackageKey) (file token : ℕ) (name : List ℕ) : Declaration → Block → Type 0 where
  everywhere : is_among name predeclared ≡ true → InScope h home file token name (Predeclared name) Everywhere
  top : {other node : ℕ} {place : Place} → IsTop h home name other node place → InScope h home file token name (Declared other node) InPackage
  import_ : {node : ℕ} {path : List ℕ} {place : Place} → IsImported h file name node path place → InScope h home file token name (Declared file node) InFile
  local : {node at opens closes from : ℕ} → IsLocal (read_of h file) node at opens closes from → name ≡ text_at (read_of h file) at → from ≤ token → token ≤ closes → InScope h home file token name (Declared file node) (InFunction opens)

-- of two declarations in one block the name means the first
pub data ComesFirst : Declaration → Declaration → Type 0 where
  by_file : {a b m n : ℕ} → a < b → ComesFirst (Declared a m) (Declared b n)
  by_node : {a b m n : ℕ} → a ≡ b → m < n → ComesFirst (Declared a m) (Declared b n)

pub record Means (h : SourceFiles) (home : PackageKey) (file token : ℕ) (name : List ℕ) (meant : Declaration) : Type 0 where
  pub block : Block
  pub in_scope : InScope h home file token name meant block
  pub innermost : (other : Declaration) (outer : Block) → InScope h home file token name other outer → IsInside block outer ⊎ ((block ≡ outer) × ((other ≡ meant) ⊎ ComesFirst meant other))

-- no declaration of it is in scope
abbrev pub MeansNothing : SourceFiles → PackageKey → ℕ → ℕ → List ℕ → Type 0
MeansNothing h home file token name = (meant : Declaration) (block : Block) → InScope h home file token name meant block → ⊥
