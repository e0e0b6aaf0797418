-- Each file of a package that is reached was read.
use Rattle.std.proofs.Common.{◌≡◌, ℕ, zero, suc, ◌+◌, ◌<◌, inl, inr, List, [], ◌∷◌, ◌++◌, length, Bool, true, false, Option, Some, None, refl, sym, ap, ◌∙◌, subst, arith, length-append}
use Rattle.std.specs.Prelude.{map, codes, slice_get}
use Rattle.std.specs.List.{list_all}
use Rattle.std.proofs.lemmas.Bool.{and_parts}
use Rattle.argot_stubs.specs.Stubs.{HasStub, errors, fmt, os, exec, strings, log, strconv, sync}
use Rattle.argot_names_rules.specs.declared.package_key.PackageKey.{PackageKey}
use Rattle.argot_names_rules.specs.Files.{SourceFiles}
use Rattle.argot_names_rules.specs.Packages.{HasPath, IsFileOf, in_folder, in_library}
use Rattle.argot_names_rules.specs.Imports.{IsReached, IsReachedFile}
use Rattle.argot_names_rules.specs.Agreeing.{is_numbered, library_path, IsRead, Agrees}
use Rattle.argot_names_imports.specs.Surveyed.{IsProper, library}
use Rattle.argot_names_imports.proofs.Lists.{get_two, get_map, get_below, get_there, get_either}
use Rattle.argot_names_imports.proofs.ReachedFrom.{reached_proper}
use Rattle.argot_names_scopes.specs.declared.file.FileNames.{FileNames}
use Rattle.argot_names_imports.specs.declared.reached.Reached.{Reached}
use Rattle.argot_names_imports.specs.Reached.{IsReach}
use Rattle.argot_names_imports.specs.Numbers.{IsOfNumber}
use Rattle.argot_names_tops.specs.Tops.{IsNamesOf, AreFiles, IsFileEntry, of_package, of_none, AreFilesBelow}

some_is : {A : Type 0} (x y : A) → Some x ≡ Some y → x ≡ y
some_is x y e = cc

all_at : {A : Type 0} (p : A → Bool) (xs : List A) (k : ℕ) (x : A) → list_all p xs ≡ true → slice_get xs k ≡ Some x → p x ≡ true
all_at p [] k x h e = absurd (cc)
all_at p (y ∷ ys) zero x h e = subst (λ z. p z ≡ true) (some_is y x e) (and_parts (p y) (list_all p ys) h).0
all_at p (y ∷ ys) (suc k) x h e = all_at p ys k x (and_parts (p y) (list_all p ys) h).1 e

-- a library text is no file that is numbered
not_numbered : (path text : List ℕ) → HasStub path text → is_numbered (library_path path) ≡ false
not_numbered path text (errors e _) = subst (λ p. is_numbered (library_path p) ≡ false) (sym e) refl
not_numbered path text (fmt e _) = subst (λ p. is_numbered (library_path p) ≡ false) (sym e) refl
not_numbered path text (os e _) = subst (λ p. is_numbered (library_path p) ≡ false) (sym e) refl
not_numbered path text (exec e _) = subst (λ p. is_numbered (library_path p) ≡ false) (sym e) refl
not_numbered path text (strings e _) = subst (λ p. is_numbered (library_path p) ≡ false) (sym e) refl
not_numbered path text (log e _) = subst (λ p. is_numbered (library_path p) ≡ false) (sym e) refl
not_numbered path text (strconv e _) = subst (λ p. is_numbered (library_path p) ≡ false) (sym e) refl
not_numbered path text (sync e _) = subst (λ p. is_numbered (library_path p) ≡ false) (sym e) refl

cancel : (front a b : List ℕ) → front ++ a ≡ front ++ b → a ≡ b
cancel [] a b e = e
cancel (x ∷ front) a b e = cancel front a b (cc)

text_read : (h : SourceFiles) (path text : List ℕ) (file : ℕ) → Agrees h → HasStub path text → HasPath h file (library_path path) → IsRead h file
text_read h path text file agrees stub there =
    elim (get_two agrees.files (map library_path agrees.library) file (library_path path) (sym (ap (λ ps. slice_get ps file) agrees.paths) ∙ there)) [
      | inl e ↦ absurd (cc (all_at is_numbered agrees.files file (library_path path) agrees.numbered e, not_numbered path text stub))
      | inr e ↦
          let m = get_map library_path agrees.library e.0 (library_path path) e.2 in
          let same : m.0 ≡ path = cancel (codes "stub:") m.0 path m.2 in
          (agrees.texts file path (e.0, subst (λ p. slice_get agrees.library e.0 ≡ Some p) same m.1) there).1
    ]

pub file_read : (h : SourceFiles) (main : List ℕ) (home : PackageKey) (file : ℕ) → Agrees h → IsReached h main home → IsFileOf h home file → IsRead h file
file_read h main home file agrees reached of = go home (reached_proper h main home reached) of
  where
    go : (home : PackageKey) → IsProper home → IsFileOf h home file → IsRead h file
    go _ proper (in_folder path there ends in_it) = agrees.go_files file path there ends
    go _ (library {path = path} {text = text} stub) (in_library there) = text_read h path text file agrees stub there

module _ (h : SourceFiles) (main : List ℕ) (r : Reached) (agrees : Agrees h) (is : IsReach h main r) where
  pub number_read : (file number : ℕ) → IsOfNumber h r file number → IsRead h file
  number_read file number n = file_read h main n.home file agrees (is.reached.sound n.home (number, n.in_home)) n.of

  pub number_below : (file number : ℕ) → IsOfNumber h r file number → file < length h.trees
  number_below file number n = let i = number_read file number n in get_below h.trees file i.tree i.has_tree

  pub files_all : (count : ℕ) (files : List (Option FileNames)) → AreFilesBelow h r count files → length h.trees ≡ count → AreFiles h r files
  files_all count files are long =
      record {
        there = λ file n at. there file (Some n) n (are.each file (Some n) at) refl;
        all = λ file number n. all file number n;
      }
    where
      there : (file : ℕ) (o : Option FileNames) (n : FileNames) → IsFileEntry h r file o → o ≡ Some n → IsNamesOf h file n × ((number : ℕ) × IsOfNumber h r file number)
      there file _ n (of_package {n = m} number of names) e = (subst (IsNamesOf h file) (some_is m n e) names, (number, of))
      there file _ n (of_none none) e = absurd (cc)

      all : (file number : ℕ) → IsOfNumber h r file number → (n : FileNames) × (slice_get files file ≡ Some (Some n))
      all file number n =
          let o = get_there files file (omega (arith, number_below file number n, long, are.as_many)) in
          some_there file number n o.0 o.1 (are.each file o.0 o.1)
        where
          some_there : (file number : ℕ) → IsOfNumber h r file number → (o : Option FileNames) → slice_get files file ≡ Some o → IsFileEntry h r file o → (n : FileNames) × (slice_get files file ≡ Some (Some n))
          some_there file number n _ at (of_package {n = m} k of names) = (m, at)
          some_there file number n _ at (of_none none) = absurd (none number n)

  pub no_package : (file : ℕ) → ((home : PackageKey) → IsReachedFile h main home file → ⊥) → IsFileEntry h r file None
  no_package file none = of_none (λ number n. none n.home (record { reached = is.reached.sound n.home (number, n.in_home); of = n.of }))

pub files_none : (h : SourceFiles) (r : Reached) (files : List (Option FileNames)) → files ≡ [] → AreFilesBelow h r 0 files
files_none h r files e = subst (AreFilesBelow h r 0) (sym e) (record { as_many = refl; each = λ file o at. absurd (cc) })

pub files_more : (h : SourceFiles) (r : Reached) (count : ℕ) (files new : List (Option FileNames)) (o : Option FileNames) → AreFilesBelow h r count files → IsFileEntry h r count o → new ≡ files ++ o ∷ [] → AreFilesBelow h r (count + 1) new
files_more h r count files new o are entry e =
    subst (AreFilesBelow h r (count + 1)) (sym e)
    (record {
      as_many = omega (arith, length-append files (o ∷ []), are.as_many);
      each = λ file p at. elim (get_either files o file p at) [
        | inl f ↦ are.each file p f
        | inr f ↦ subst (IsFileEntry h r file) (sym f.1) (subst (λ k. IsFileEntry h r k o) (sym (f.0 ∙ are.as_many)) entry)
      ];
    })
