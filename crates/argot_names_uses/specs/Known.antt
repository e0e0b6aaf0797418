-- What is known of the packages and of their declarations, and the file that is looked at.
use Rattle.std.specs.Prelude.{◌≡◌, ℕ, List, Some, slice_get}
use Rattle.argot_typed.specs.declared.program.Decl.{Decl}
use Rattle.argot_names_rules.specs.declared.package_key.PackageKey.{PackageKey}
use Rattle.argot_names_rules.specs.Files.{SourceFiles}
use Rattle.argot_names_rules.specs.Imports.{IsReachedFile}
use Rattle.argot_names_rules.specs.Loaded.{AreDecls, count_nodes}
use Rattle.argot_names_scopes.specs.declared.file.FileNames.{FileNames}
use Rattle.argot_names_imports.specs.Reached.{homes_of}
use Rattle.argot_names_tops.specs.Tops.{IsNamesOf, AreTops}
use Rattle.argot_names_uses.specs.Packages.{StandsAt}
use Rattle.argot_names_uses.specs.Bases.{AreBases}
use Rattle.argot_names_uses.specs.DeclTables.{AreDeclNumbers}
use Rattle.argot_names_uses.specs.declared.known.Known.{Known}

pub record AreKnown (h : SourceFiles) (main : List ℕ) (decls : List Decl) (k : Known) : Type 0 where
  pub tops_are : AreTops h main k.reached.now k.tops.now
  pub decls_are : AreDecls h (homes_of h k.reached.now) decls
  pub bases_are : AreBases h.trees k.bases.now
  pub numbers_are : AreDeclNumbers decls (count_nodes h.trees) k.numbers.now

-- the names are those of a file of the package of that number
pub record IsHere (h : SourceFiles) (main : List ℕ) (home : PackageKey) (decls : List Decl) (k : Known) (n : FileNames) (package_ file : ℕ) : Type 0 where
  pub known : AreKnown h main decls k
  pub names : IsNamesOf h file n
  pub in_home : slice_get (homes_of h k.reached.now) package_ ≡ Some home
  pub reached : IsReachedFile h main home file

-- the same, whatever the numbers of declarations
pub record IsIn (h : SourceFiles) (main : List ℕ) (home : PackageKey) (k : Known) (n : FileNames) (package_ file : ℕ) : Type 0 where
  pub at : StandsAt h main k.reached.now home k.tops.now n file
  pub in_home : slice_get (homes_of h k.reached.now) package_ ≡ Some home
