-- The declaration that a package exports under a name.
use Rattle.std.specs.Prelude.{◌≡◌, ℕ, ◌<◌, ◌≤◌, ◌⊎◌, List, Option, Some, None, slice_get}
use Rattle.argot_names_rules.specs.declared.package_key.PackageKey.{PackageKey}
use Rattle.argot_names_rules.specs.Files.{SourceFiles}
use Rattle.argot_names_rules.specs.Imports.{IsReachedFile}
use Rattle.argot_names_rules.specs.Uses.{IsMember}
use Rattle.argot_names_imports.specs.declared.written.Written.{Written}
use Rattle.argot_names_imports.specs.declared.reached.Reached.{Reached}
use Rattle.argot_names_tops.specs.declared.tops.PackageDecl.{PackageDecl}

-- the import of this number is one of a file of a package that is reached
pub record IsImportOf (h : SourceFiles) (main : List ℕ) (r : Reached) (number : ℕ) (w : Written) : Type 0 where
  pub home : PackageKey
  pub there : slice_get r.survey.imports.items number ≡ Some w
  pub reached : IsReachedFile h main home w.file

-- the first member of that name, or that there is none
pub data IsMemberMeant (h : SourceFiles) (path name : List ℕ) : Option PackageDecl → Type 0 where
  some : {top : PackageDecl} → IsMember h path name top.file top.node → ((other node : ℕ) → IsMember h path name other node → (top.file < other) ⊎ ((top.file ≡ other) × (top.node ≤ node))) → IsMemberMeant h path name (Some top)
  nothing : ((other node : ℕ) → IsMember h path name other node → ⊥) → IsMemberMeant h path name None
