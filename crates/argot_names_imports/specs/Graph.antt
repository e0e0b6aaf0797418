-- The packages that each package imports, by the first file of each.
use Rattle.std.specs.Prelude.{◌≡◌, ◌↔◌, ℕ, List, [], Option, Some, None, slice_get, slice_index_or}
use Rattle.argot_names_rules.specs.Lists.{In}
use Rattle.argot_names_imports.specs.declared.written.Written.{Written}
use Rattle.argot_names_imports.specs.declared.find.Found.{Found}
use Rattle.argot_names_imports.specs.declared.find.Found.TheVariants.{Folder, Library, LeftOut, Nothing}

abbrev pub target_of : Found → Option ℕ
target_of (Folder file) = Some file
target_of (Library file) = file
target_of LeftOut = None
target_of Nothing = None

-- an edge of the graph
abbrev pub Leads : List (List ℕ) → ℕ → ℕ → Type 0
Leads lists from to = In to (slice_index_or lists from [])

-- an import of a file, whose package has this first file, finds the package with that one
pub record IsStep (leaders : List (Option ℕ)) (imports : List Written) (founds : List Found) (k from to : ℕ) : Type 0 where
  pub import_ : Written
  pub found : Found
  pub is_import : slice_get imports k ≡ Some import_
  pub is_found : slice_get founds k ≡ Some found
  pub leader : slice_get leaders import_.file ≡ Some (Some from)
  pub target : target_of found ≡ Some to

-- a list of edges leads from one to another
pub data Reaches (lists : List (List ℕ)) (from : ℕ) : ℕ → Type 0 where
  stay : Reaches lists from from
  onward : {between to : ℕ} → Reaches lists from between → Leads lists between to → Reaches lists from to

-- the numbers are those that the steps of the imports lead to
pub record AreReached (leaders : List (Option ℕ)) (imports : List Written) (founds : List Found) (start : ℕ) (reached : List ℕ) : Type 0 where
  pub lists : List (List ℕ)
  pub steps : (a b : ℕ) → Leads lists a b ↔ ((k : ℕ) × IsStep leaders imports founds k a b)
  pub all : (t : ℕ) → In t reached ↔ Reaches lists start t
