-- What the tables say of a path is what the path finds.
use Rattle.std.proofs.Common.{◌≡◌, ℕ, List, ◌++◌, length, take, Bool, true, false, cond, Option, Some, None, refl, sym, ap, ◌∙◌, subst}
use Rattle.std.specs.Prelude.{nat_eq, codes}
use Rattle.std.specs.Option.{option_and_then}
use Rattle.std.specs.Cmp.Lexicographic.{pointwise}
use Rattle.argot_names_rules.specs.declared.package_key.PackageKey.{PackageKey}
use Rattle.argot_names_rules.specs.declared.package_key.PackageKey.TheVariants as homes
use Rattle.argot_names_rules.specs.Files.{SourceFiles}
use Rattle.argot_names_rules.specs.Packages.{folder_of, HasPath, IsFileOf, in_folder, in_library, IsFolder, IsFirstFile, IsOfModule, FolderPath, IsLeftOut, Finds, of_module, handwritten, of_library}
use Rattle.argot_names_rules.specs.Agreeing.{is_go_file}
use Rattle.argot_names_imports.specs.declared.firsts.Sort.{Sort}
use Rattle.argot_names_imports.specs.declared.firsts.Sort.TheVariants.{Folders, Libraries}
use Rattle.argot_names_imports.specs.Keys.{key_of}
use Rattle.argot_names_imports.specs.Firsts.{Numbers, found_at, IsFirstBelow, found, missing}
use Rattle.argot_names_imports.specs.Candidates.{left_out, behind_of, candidate_of}
use Rattle.argot_names_imports.specs.declared.find.Found.{Found}
use Rattle.argot_names_imports.specs.declared.find.Found.TheVariants.{Folder, LeftOut}
use Rattle.argot_names_imports.specs.Found.{HasTables, IsText, known, unknown, IsFound, folder, library, unhanded, nothing}
use Rattle.argot_names_imports.specs.Found as specs_
use Rattle.argot_names_imports.proofs.Lists.{get_below}
use Rattle.argot_names_imports.proofs.FirstFiles.{same_text, text_same}
use Rattle.argot_names_imports.proofs.Candidates.{is_left_out, left_out_is, behind_is, candidate_is, candidate_found}

cond_some : {A : Type 0} (b : Bool) (x v : A) → cond b (Some x) None ≡ Some v → (b ≡ true) × (x ≡ v)
cond_some true x v e = (refl, cc)
cond_some false x v e = absurd (cc)

-- which sort of key a package has, and which one
abbrev pub sort_of : PackageKey → Sort
sort_of (homes.Folder q) = Folders
sort_of (homes.Library q) = Libraries

abbrev pub name_of : PackageKey → List ℕ
name_of (homes.Folder q) = q
name_of (homes.Library q) = q

-- a file of a package is known by its key
pub record IsKnown (h : SourceFiles) (sort : Sort) (key : List ℕ) (file : ℕ) : Type 0 where
  pub path : List ℕ
  pub there : HasPath h file path
  pub key_is : key_of sort path ≡ Some key

folder_key : (path q : List ℕ) → is_go_file path ≡ true → folder_of path ≡ q → key_of Folders path ≡ Some q
folder_key path q go e = rw go (ap (λ x. Some x) e)

library_key : (q : List ℕ) → key_of Libraries (codes "stub:" ++ q) ≡ Some q
library_key q = refl

pub known_file : (h : SourceFiles) (home : PackageKey) (file : ℕ) → IsFileOf h home file → IsKnown h (sort_of home) (name_of home) file
known_file h _ _ (in_folder {folder = q} {file = file} path there go e) = record { path = path; there = there; key_is = folder_key path q go e }
known_file h _ _ (in_library {path = q} {file = file} there) = record { path = codes "stub:" ++ q; there = there; key_is = library_key q }

is_go_key : (path q : List ℕ) → key_of Folders path ≡ Some q → (is_go_file path ≡ true) × (folder_of path ≡ q)
is_go_key path q e = cond_some (is_go_file path) (folder_of path) q e

pointwise_sym : (a b : List ℕ) → pointwise nat_eq a b ≡ pointwise nat_eq b a
pointwise_sym a b = both (pointwise nat_eq a b) (pointwise nat_eq b a) (λ e. subst (λ x. pointwise nat_eq b x ≡ true) (sym (same_text a b e)) (text_same b)) (λ e. subst (λ x. pointwise nat_eq a x ≡ true) (sym (same_text b a e)) (text_same a))
  where
    both : (x y : Bool) → (x ≡ true → y ≡ true) → (y ≡ true → x ≡ true) → x ≡ y
    both true true f g = refl
    both false false f g = refl
    both true false f g = absurd (cc (f refl))
    both false true f g = absurd (cc (g refl))

pub stub_front : (path q : List ℕ) → key_of Libraries path ≡ Some q → path ≡ codes "stub:" ++ q
unfolding behind_of
stub_front path q e = behind_is (codes "stub:") path q (key_behind path ∙ e)
  where
    key_behind : (path : List ℕ) → behind_of (codes "stub:") path ≡ key_of Libraries path
    key_behind path = rw (pointwise_sym (take 5 path) (codes "stub:")) refl

-- and a file that is known by the key of a folder is one of it
pub file_in_folder : (h : SourceFiles) (q : List ℕ) (file : ℕ) → IsKnown h Folders q file → IsFileOf h (homes.Folder q) file
file_in_folder h q file k = let parts = is_go_key k.path q k.key_is in in_folder k.path k.there parts.0 parts.1

pub file_in_library : (h : SourceFiles) (q : List ℕ) (file : ℕ) → IsKnown h Libraries q file → IsFileOf h (homes.Library q) file
file_in_library h q file k =
    let path_is : k.path ≡ codes "stub:" ++ q = stub_front k.path q k.key_is in
    in_library (k.there ∙ ap (λ p. Some p) path_is)

-- a file of a home is known, both ways
abbrev pub file_of : (h : SourceFiles) (home : PackageKey) (file : ℕ) → IsKnown h (sort_of home) (name_of home) file → IsFileOf h home file
file_of h (homes.Folder q) file k = file_in_folder h q file k
file_of h (homes.Library q) file k = file_in_library h q file k

module _ (h : SourceFiles) (home : PackageKey) where
  pub first_file : (o : Option ℕ) (file : ℕ) → IsFirstBelow (sort_of home) h.sources.paths (length h.sources.paths) (name_of home) o → o ≡ Some file → IsFirstFile h home file
  first_file _ file (found {file = f} {path = path} below at is before) e =
      subst (IsFirstFile h home) (cc)
      (record {
        is = file_of h home f (record { path = path; there = at; key_is = is });
        first = λ other of earlier. let k = known_file h home other of in before other k.path earlier k.there k.key_is;
      })
  first_file _ file (missing none) e = absurd (cc)

  pub no_file : (o : Option ℕ) → IsFirstBelow (sort_of home) h.sources.paths (length h.sources.paths) (name_of home) o → o ≡ None → (file : ℕ) → IsFileOf h home file → ⊥
  no_file _ (found below at is before) e file of = absurd (cc)
  no_file _ (missing none) e file of =
      let k = known_file h home file of in
      none file k.path (get_below h.sources.paths file k.path k.there) k.there k.key_is

module _ (h : SourceFiles) (module_ path : List ℕ) (folders libraries : Numbers) (tables : HasTables h module_ folders libraries) where
  pub folder_first : (q : List ℕ) (file : ℕ) → found_at folders q ≡ Some file → IsFirstFile h (homes.Folder q) file
  folder_first q file e = first_file h (homes.Folder q) (found_at folders q) file (tables.folders_are q) e

  pub folder_missing : (q : List ℕ) → found_at folders q ≡ None → IsFolder h q → ⊥
  folder_missing q e is = no_file h (homes.Folder q) (found_at folders q) (tables.folders_are q) e is.0 is.1

  in_module : (file : ℕ) → (IsLeftOut path → ⊥) → (o : Option (List ℕ)) → candidate_of module_ path ≡ o → option_and_then (found_at folders) o ≡ Some file → IsFound h path (Folder file)
  in_module file kept None at e = absurd (cc)
  in_module file kept (Some q) at e =
      let is = candidate_is module_ path q at in
      let first = folder_first q file e in
      folder (of_module kept (record { is = (file, first.is); of_module = is.own; path_is = subst (λ m. FolderPath m q path) (sym tables.module_is) is.path_is })) first

  no_module : (o : Option (List ℕ)) → candidate_of module_ path ≡ o → option_and_then (found_at folders) o ≡ None → (q : List ℕ) → IsOfModule h path q → ⊥
  no_module o at e q is =
      let known = candidate_found module_ path q (record { own = is.of_module; path_is = subst (λ m. FolderPath m q path) tables.module_is is.path_is }) in
      folder_missing q (sym (ap (option_and_then (found_at folders)) (sym at ∙ known)) ∙ e) is.is

  not_left : left_out path ≡ false → IsLeftOut path → ⊥
  not_left e is = absurd (cc (e, left_out_is path is))

  pub left_found : left_out path ≡ true → IsFound h path LeftOut
  left_found e = specs_.left_out (is_left_out path e)

  pub module_found : (file : ℕ) → left_out path ≡ false → option_and_then (found_at folders) (candidate_of module_ path) ≡ Some file → IsFound h path (Folder file)
  module_found file kept e = in_module file (not_left kept) (candidate_of module_ path) refl e

  pub stub_found : (file : ℕ) → left_out path ≡ false → option_and_then (found_at folders) (candidate_of module_ path) ≡ None → found_at folders (codes "stubs/" ++ path) ≡ Some file → IsFound h path (Folder file)
  stub_found file kept none e =
      let first = folder_first (codes "stubs/" ++ path) file e in
      folder (handwritten (not_left kept) (no_module (candidate_of module_ path) refl none) (file, first.is)) first

  text_of : (kept : left_out path ≡ false) (none : option_and_then (found_at folders) (candidate_of module_ path) ≡ None) (missing_ : found_at folders (codes "stubs/" ++ path) ≡ None)
      (f : Found) (o : Option ℕ) → found_at libraries path ≡ o → IsText path o f → IsFound h path f
  text_of kept none missing_ _ (Some file) at (known {text = text} is) =
      library (of_library text (not_left kept) (no_module (candidate_of module_ path) refl none) (folder_missing (codes "stubs/" ++ path) missing_) is)
      (first_file h (homes.Library path) (found_at libraries path) file (tables.libraries_are path) at)
  text_of kept none missing_ _ None at (known {text = text} is) =
      unhanded (of_library text (not_left kept) (no_module (candidate_of module_ path) refl none) (folder_missing (codes "stubs/" ++ path) missing_) is)
      (no_file h (homes.Library path) (found_at libraries path) (tables.libraries_are path) at)
  text_of kept none missing_ _ o at (unknown no_text) = nothing (not_left kept) (λ target is. finds_none target is)
    where
      finds_none : (target : PackageKey) → Finds h path target → ⊥
      finds_none _ (of_module k is) = no_module (candidate_of module_ path) refl none _ is
      finds_none _ (handwritten k m is) = folder_missing (codes "stubs/" ++ path) missing_ is
      finds_none _ (of_library text k m s is) = no_text text is

  pub text_found : left_out path ≡ false → option_and_then (found_at folders) (candidate_of module_ path) ≡ None → found_at folders (codes "stubs/" ++ path) ≡ None
      → (f : Found) → IsText path (found_at libraries path) f → IsFound h path f
  text_found kept none missing_ f is = text_of kept none missing_ f (found_at libraries path) refl is
