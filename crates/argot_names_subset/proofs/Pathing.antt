-- The import path of a package's files.
use Rattle.std.proofs.Common.{◌≡◌, ◌≢◌, ℕ, List, [], ◌∷◌, ◌++◌, false, Option, Some, None, refl, sym, ap, ◌∙◌, subst}
use Rattle.std.specs.Prelude.{codes, slice_get, if◌then◌else◌}
use Rattle.argot_stubs.specs.Stubs.{HasStub, errors, fmt, os, exec, strings, log, strconv, sync}
use Rattle.argot_typed.specs.declared.program.Package.{Package}
use Rattle.argot_names_rules.specs.Files.{SourceFiles}
use Rattle.argot_names_rules.specs.Packages.{IsFileOf, in_folder, in_library, FolderPath, handwritten, top, top_of_none, inner, ImportPath, of_folder}
use Rattle.argot_names_rules.specs.Agreeing.{is_go_file}
use Rattle.argot_names_rules.specs.Loaded.{IsPackage}
use Rattle.argot_names_rules.specs.declared.package_key.PackageKey.{PackageKey}
use Rattle.argot_names_rules.specs.declared.package_key.PackageKey.TheVariants as homes
use Rattle.argot_names_imports.specs.Surveyed.{IsProper, library}
use Rattle.argot_names_subset.specs.Meanings.{IsPathOf}
use Rattle.argot_names_subset.proofs.Bridging.{some_is}

-- a library text has no name of a Go file
pub not_go : (path text : List ℕ) → HasStub path text → is_go_file (codes "stub:" ++ path) ≡ false
not_go path text (errors e _) = subst (λ p. is_go_file (codes "stub:" ++ p) ≡ false) (sym e) refl
not_go path text (fmt e _) = subst (λ p. is_go_file (codes "stub:" ++ p) ≡ false) (sym e) refl
not_go path text (os e _) = subst (λ p. is_go_file (codes "stub:" ++ p) ≡ false) (sym e) refl
not_go path text (exec e _) = subst (λ p. is_go_file (codes "stub:" ++ p) ≡ false) (sym e) refl
not_go path text (strings e _) = subst (λ p. is_go_file (codes "stub:" ++ p) ≡ false) (sym e) refl
not_go path text (log e _) = subst (λ p. is_go_file (codes "stub:" ++ p) ≡ false) (sym e) refl
not_go path text (strconv e _) = subst (λ p. is_go_file (codes "stub:" ++ p) ≡ false) (sym e) refl
not_go path text (sync e _) = subst (λ p. is_go_file (codes "stub:" ++ p) ≡ false) (sym e) refl

-- which of the four forms the path of a folder has
data Told (m q path : List ℕ) : Type 0 where
  below_stubs : q ≡ codes "stubs/" ++ path → Told m q path
  at_top : q ≡ [] → m ≢ [] → path ≡ m → Told m q path
  without : q ≡ [] → m ≡ [] → path ≡ codes "main" → Told m q path
  within : q ≢ [] → ((rest : List ℕ) → q ≢ codes "stubs/" ++ rest) → path ≡ m ++ 47 ∷ q → Told m q path

tell : (m q path : List ℕ) → FolderPath m q path → Told m q path
tell m _ _ (handwritten path) = below_stubs refl
tell m _ _ (top some) = at_top refl some refl
tell m _ _ (top_of_none none) = without refl none refl
tell m q _ (inner some other) = within some other refl

cancel : (front a b : List ℕ) → front ++ a ≡ front ++ b → a ≡ b
cancel [] a b e = e
cancel (x ∷ front) a b e = cancel front a b (cc)

one_told : (m q a b : List ℕ) → Told m q a → Told m q b → a ≡ b
one_told m q a b (below_stubs e) (below_stubs f) = cancel (codes "stubs/") a b (sym e ∙ f)
one_told m q a b (below_stubs e) (at_top f _ _) = absurd (cc)
one_told m q a b (below_stubs e) (without f _ _) = absurd (cc)
one_told m q a b (below_stubs e) (within _ other _) = absurd (other a e)
one_told m q a b (at_top e _ _) (below_stubs f) = absurd (cc)
one_told m q a b (at_top _ _ e) (at_top _ _ f) = e ∙ sym f
one_told m q a b (at_top _ some _) (without _ none _) = absurd (some none)
one_told m q a b (at_top e _ _) (within some _ _) = absurd (some e)
one_told m q a b (without e _ _) (below_stubs f) = absurd (cc)
one_told m q a b (without _ none _) (at_top _ some _) = absurd (some none)
one_told m q a b (without _ _ e) (without _ _ f) = e ∙ sym f
one_told m q a b (without e _ _) (within some _ _) = absurd (some e)
one_told m q a b (within _ other _) (below_stubs f) = absurd (other b f)
one_told m q a b (within some _ _) (at_top f _ _) = absurd (some f)
one_told m q a b (within some _ _) (without f _ _) = absurd (some f)
one_told m q a b (within _ _ e) (within _ _ f) = e ∙ sym f

folder_path : (h : SourceFiles) (q path : List ℕ) → ImportPath h (homes.Folder q) path → FolderPath h.sources.module q path
folder_path h q path (of_folder is) = is

-- a folder has one path
one_path : (h : SourceFiles) (q a b : List ℕ) → ImportPath h (homes.Folder q) a → ImportPath h (homes.Folder q) b → a ≡ b
one_path h q a b x y = one_told h.sources.module q a b (tell h.sources.module q a (folder_path h q a x)) (tell h.sources.module q b (folder_path h q b y))

pub path_is_of : (h : SourceFiles) (home : PackageKey) (p : Package) (file : ℕ) (o : Option (List ℕ)) → IsProper home → IsFileOf h home file → IsPackage h home p
    → ((path : List ℕ) → slice_get h.sources.paths file ≡ Some path → o ≡ (if is_go_file path then Some p.path else None)) → IsPathOf h home o
path_is_of h _ p file o proper (in_folder {folder = q} path there ends in_it) is by =
    let e : o ≡ Some p.path = by path there ∙ ap (λ b. if b then Some p.path else None) ends in
    record {
      sound = λ r f. (q, refl, subst (ImportPath h (homes.Folder q)) (some_is p.path r (sym e ∙ f)) is.path);
      complete = λ folder r same at. e ∙ ap (λ x. Some x) (one_path h q p.path r is.path (subst (λ x. ImportPath h (homes.Folder x) r) (let one : folder ≡ q = cc in one) at));
    }
path_is_of h _ p file o (library {path = path} {text = text} stub) (in_library there) is by =
    let e : o ≡ None = by (codes "stub:" ++ path) there ∙ ap (λ b. if b then Some p.path else None) (not_go path text stub) in
    record { sound = λ r f. absurd (cc); complete = λ folder r same at. absurd (cc) }
