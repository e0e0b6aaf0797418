-- What is left out in one file.
use Rattle.std.specs.Prelude.{◌≡◌, ℕ, List, Option, Some, option_map}
use Rattle.argot_tree.specs.declared.token.Token.{Token}
use Rattle.argot_names_rules.specs.Files.{Place}
use Rattle.argot_names_rules.specs.Imports.{Imports}
use Rattle.argot_names_rules.specs.declared.alias.Alias.{Alias}
use Rattle.argot_names_rules.specs.declared.flag.Feature.{Feature}
use Rattle.argot_names_rules.specs.Subset.{LeavesOut, Directs, directive_at}
use Rattle.argot_names_rules.specs.Lists.{In}
use Rattle.argot_names_subset_file.specs.declared.parts.Part.{Part}
use Rattle.argot_names_subset_file.specs.declared.view.View.{View}
use Rattle.argot_names_subset_file.specs.Parts.{BeginsIn, IsDot, IsPlain, IsNumber, IsNamed, IsMethod, IsBodiless}

-- a function without a body, in a package that has a path
pub record IsBodilessIn (view : View) (node : ℕ) (part : Part) : Type 0 where
  pub path : List ℕ
  pub here : option_map (λ r. r.now) view.path ≡ Some path
  pub is : IsBodiless view.file.now view.entries.now path node part

-- what is left out at a node
pub data IsPart (view : View) (node : ℕ) : Part → Type 0 where
  dot : {part : Part} → IsDot view.file.now.nodes node part → IsPart view node part
  plain : {part : Part} → IsPlain view.file.now.nodes node part → IsPart view node part
  number : {part : Part} → IsNumber view.file.now.tokens view.file.now.nodes node part → IsPart view node part
  named : {part : Part} → IsNamed view.file.now.nodes view.named.now node part → IsPart view node part
  method : {part : Part} → IsMethod view.file.now.nodes view.typed.now node part → IsPart view node part
  bodiless : {part : Part} → IsBodilessIn view node part → IsPart view node part

-- a part stands at the place
pub record IsAt (tokens : List Token) (file : ℕ) (Holds : Part → Type 0) (feature : Feature) (place : Place) : Type 0 where
  pub token : ℕ
  pub holds : Holds (record { feature = feature; token = token })
  pub begins : BeginsIn tokens file token place

-- this part does
abbrev pub IsGiven : View → Option Part → Feature → Place → Type 0
IsGiven view part = IsAt view.file.now.tokens view.number (λ x. part ≡ Some x)

-- a part at a node does
abbrev pub IsPartIn : View → ℕ → Feature → Place → Type 0
IsPartIn view node = IsAt view.file.now.tokens view.number (IsPart view node)

-- an import of a package that is left out
pub record IsImportOut (path : List ℕ) (path_at : ℕ) (part : Part) : Type 0 where
  pub leaves : LeavesOut path part.feature
  pub token_is : part.token ≡ path_at

-- a comment for the compiler that is left out
pub record IsDirected (bytes : List ℕ) (file offset : ℕ) (feature : Feature) (place : Place) : Type 0 where
  pub directs : Directs (directive_at bytes offset) feature
  pub place_is : place ≡ record { file = file; offset = offset }

-- a part at some node stands at the place
pub record IsAtSome (view : View) (feature : Feature) (place : Place) : Type 0 where
  pub node : ℕ
  pub is : IsAt view.file.now.tokens view.number (IsPart view node) feature place

-- an import of a file, at the text of its path
pub record IsImportSome (view : View) (feature : Feature) (place : Place) : Type 0 where
  pub node : ℕ
  pub at : ℕ
  pub path_at : ℕ
  pub alias : Alias
  pub path : List ℕ
  pub imports : Imports view.file.now node at path_at alias path
  pub leaves : LeavesOut path feature
  pub begins : BeginsIn view.file.now.tokens view.number path_at place

-- a comment of a file
pub record IsDirectedSome (bytes : List ℕ) (file : ℕ) (directives : List ℕ) (feature : Feature) (place : Place) : Type 0 where
  pub offset : ℕ
  pub among : In offset directives
  pub is : IsDirected bytes file offset feature place

-- what is left out in a file: imports, comments for the compiler, and nodes
pub data IsInFile (view : View) (directives : List ℕ) (feature : Feature) (place : Place) : Type 0 where
  import_ : IsImportSome view feature place → IsInFile view directives feature place
  directive : IsDirectedSome view.file.now.bytes view.number directives feature place → IsInFile view directives feature place
  node : IsAtSome view feature place → IsInFile view directives feature place
