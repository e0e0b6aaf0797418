-- What a survey says of the library's texts is what the definitions say.
use Rattle.std.proofs.Common.{◌≡◌, ℕ, List, [], true, Some, refl, sym, ap, subst, arith}
use Rattle.argot_stubs.specs.Stubs.{HasStub, errors, fmt, os, exec, strings, log, strconv, sync}
use Rattle.argot_names_rules.specs.declared.package_key.PackageKey.{PackageKey}
use Rattle.argot_names_rules.specs.declared.package_key.PackageKey.TheVariants as homes
use Rattle.argot_names_rules.specs.Lists.{In, IsListOf}
use Rattle.argot_names_rules.specs.Files.{SourceFiles}
use Rattle.argot_names_rules.specs.Packages.{IsFileOf, IsFolder, IsLeftOut, Finds, of_module, handwritten, of_library}
use Rattle.argot_names_rules.specs.Library.{IsNamed, AreNamed}
use Rattle.argot_names_rules.specs.Agreeing.{PathBefore}
use Rattle.argot_names_imports.specs.declared.written.Written.{Written}
use Rattle.argot_names_imports.specs.declared.find.Found.{Found}
use Rattle.argot_names_imports.specs.declared.survey.Survey.{Survey}
use Rattle.argot_names_imports.specs.Found.{IsFound}
use Rattle.argot_names_imports.specs.Found.IsFound.{folder as found_folder, library as found_library, unhanded, left_out as found_left_out, nothing}
use Rattle.argot_names_imports.specs.Surveyed.{IsSurvey}
use Rattle.argot_names_imports.proofs.Lists.{list_none, list_same, get_below, get_there}
use Rattle.argot_names_imports.proofs.Surveys.{owned, one_owner, first_owned, file_owned, finds_one}
use Rattle.argot_names_imports.proofs.ReachedFrom.{reached_proper}
use Rattle.argot_names.specs.Paths.{library_paths}
use Rattle.argot_names.specs.Naming.{is_library, IsNamedPath}

library_finds : (h : SourceFiles) (path : List ℕ) (f : Found) → IsFound h path f → is_library f ≡ true → Finds h path (homes.Library path)
library_finds h path _ (found_folder finds first) e = absurd (cc)
library_finds h path _ (found_library finds first) e = finds
library_finds h path _ (unhanded finds none) e = finds
library_finds h path _ (found_left_out left) e = absurd (cc)
library_finds h path _ (nothing k none) e = absurd (cc)

finds_library : (h : SourceFiles) (path : List ℕ) (f : Found) → IsFound h path f → Finds h path (homes.Library path) → is_library f ≡ true
finds_library h path _ (found_folder {folder = q} finds first) is = absurd (cc (finds_one h path (homes.Folder q) (homes.Library path) finds is))
finds_library h path _ (found_library finds first) is = refl
finds_library h path _ (unhanded finds none) is = refl
finds_library h path _ (found_left_out left) is = absurd (kept path (homes.Library path) is left)
  where
    kept : (path : List ℕ) (a : PackageKey) → Finds h path a → IsLeftOut path → ⊥
    kept path _ (of_module k m) left = k left
    kept path _ (handwritten k n f) left = k left
    kept path _ (of_library text k n s i) left = k left
finds_library h path _ (nothing k none) is = absurd (none (homes.Library path) is)

-- a text of the library has one of these paths
known_path : (path text : List ℕ) → HasStub path text → In path library_paths
known_path path text (errors e _) = (0, ap (λ x. Some x) (sym e))
known_path path text (fmt e _) = (1, ap (λ x. Some x) (sym e))
known_path path text (log e _) = (2, ap (λ x. Some x) (sym e))
known_path path text (os e _) = (3, ap (λ x. Some x) (sym e))
known_path path text (exec e _) = (4, ap (λ x. Some x) (sym e))
known_path path text (strconv e _) = (5, ap (λ x. Some x) (sym e))
known_path path text (strings e _) = (6, ap (λ x. Some x) (sym e))
known_path path text (sync e _) = (7, ap (λ x. Some x) (sym e))

stub_of : (h : SourceFiles) (path : List ℕ) (a : PackageKey) → Finds h path a → a ≡ homes.Library path → In path library_paths
stub_of h path _ (of_module k m) e = absurd (cc)
stub_of h path _ (handwritten k n f) e = absurd (cc)
stub_of h path _ (of_library text k n s is) e = known_path path text is

module _ (h : SourceFiles) (main : List ℕ) (s : Survey) (is : IsSurvey h main s) where
  named_is : (path : List ℕ) → IsNamedPath s path → IsNamed h main path
  named_is path n =
      let at = n.names in
      let w = at.import_ in
      let imports = is.imports.sound w (n.number, at.is_import) in
      let found = is.founds.each n.number w at.found at.is_import at.is_found in
      let finds = library_finds h w.path at.found found at.library in
      let r = (is.reached at.reached.first).0 at.reached.reached in
      let by = (is.leaders w.file at.reached.first).0 at.reached.leads in
      let proper = reached_proper h main r.home r.reached in
      let same : r.home ≡ by.home = one_owner h r.home by.home at.reached.first (owned h r.home at.reached.first proper r.leads.is) (first_owned h by.home w.file at.reached.first by.owned by.leads) in
      subst (IsNamed h main) at.path_is
      (record {
        home = r.home;
        file = w.file;
        at = w.at;
        reached = r.reached;
        edge = record {
          of = subst (λ a. IsFileOf h a w.file) (sym same) (file_owned h by.home w.file by.owned);
          node = w.node;
          path_at = w.path_at;
          alias = w.alias;
          path = w.path;
          imports = imports;
          finds = finds;
        };
      })

  is_named : (path : List ℕ) → IsNamed h main path → IsNamedPath s path
  is_named path n =
      let e = n.edge in
      let w : Written = record { file = n.file; node = e.node; at = n.at; path_at = e.path_at; alias = e.alias; path = e.path } in
      let i = is.imports.complete w e.imports in
      let f = get_there s.founds.items i.0 (omega (arith, is.founds.as_many, get_below s.imports.items i.0 w i.1)) in
      let path_is : e.path ≡ path = library_path e.path (homes.Library path) e.finds refl in
      let found = is.founds.each i.0 w f.0 i.1 f.1 in
      let finds : Finds h e.path (homes.Library e.path) = subst (λ p. Finds h e.path (homes.Library p)) (sym path_is) e.finds in
      let first = is.firsts n.home n.file e.of in
      let proper = reached_proper h main n.home n.reached in
      record {
        known = stub_of h path (homes.Library path) (subst (λ p. Finds h p (homes.Library path)) path_is e.finds) refl;
        number = i.0;
        names = record {
          import_ = w;
          found = f.0;
          is_import = i.1;
          is_found = f.1;
          library = finds_library h e.path f.0 found finds;
          path_is = path_is;
          reached = record {
            first = first.0;
            leads = (is.leaders n.file first.0).1 (record { home = n.home; owned = owned h n.home n.file proper e.of; leads = first.1 });
            reached = (is.reached first.0).1 (record { home = n.home; reached = n.reached; leads = first.1 });
          };
        };
      }
    where
      library_path : (p : List ℕ) (a : PackageKey) → Finds h p a → a ≡ homes.Library path → p ≡ path
      library_path p _ (of_module k m) e = absurd (cc)
      library_path p _ (handwritten k m f) e = absurd (cc)
      library_path p _ (of_library text k m q i) e = cc

  pub are_named : (paths : List (List ℕ)) → IsListOf PathBefore (IsNamedPath s) paths → AreNamed h main paths
  are_named paths are = list_same PathBefore (IsNamedPath s) (IsNamed h main) paths are named_is is_named

-- nothing is named where there is no main folder
pub none_named : (h : SourceFiles) (main : List ℕ) → (IsFolder h main → ⊥) → AreNamed h main []
none_named h main none = list_none PathBefore (IsNamed h main) (λ p n. none n.reached.there)
