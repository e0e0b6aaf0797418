-- What is added of all files is what the definition says.
use Rattle.std.proofs.Common.{◌≡◌, ℕ, ◌⊎◌, inl, inr, List, ◌++◌, true, false, Option, Some, None, refl, sym, ap, ◌∙◌, subst, arith}
use Rattle.std.specs.Prelude.{slice_get, codes, ◌↔◌}
use Rattle.std.specs.Option.{option_and_then}
use Rattle.argot_tree.specs.declared.entries.Entry.{Entry}
use Rattle.argot_typed.specs.declared.program.Packages.{Packages}
use Rattle.argot_typed.specs.declared.program.Package.{Package}
use Rattle.argot_names_rules.specs.Lists.{In}
use Rattle.argot_names_rules.specs.Files.{SourceFiles, Place}
use Rattle.argot_names_rules.specs.Packages.{HasPath, IsFileOf, in_folder, in_library, folder_of}
use Rattle.argot_names_rules.specs.Agreeing.{is_go_file}
use Rattle.argot_names_rules.specs.Imports.{IsReached, IsReachedFile}
use Rattle.argot_names_rules.specs.Loaded.{IsPackage, IsLoaded}
use Rattle.argot_names_rules.specs.declared.package_key.PackageKey.{PackageKey}
use Rattle.argot_names_rules.specs.declared.package_key.PackageKey.TheVariants as homes
use Rattle.argot_names_rules.specs.declared.flag.Feature.{Feature}
use Rattle.argot_names_rules.specs.declared.flag.Feature.TheVariants as features
use Rattle.argot_names_rules.specs.Subset.{HasFeature}
use Rattle.argot_names_rules.specs.Subset.HasFeature.{import_ as has_import, dot as has_dot, assembly as has_assembly, directive as has_directive, type_parameters as has_parameters, literal as has_literal, predeclared as has_predeclared, goto_ as has_goto, method_expression as has_method, without_body as has_bodiless, go_line as has_go_line}
use Rattle.argot_names_imports.specs.Firsts.{Numbers}
use Rattle.argot_names_imports.specs.Surveyed.{IsProper, library}
use Rattle.argot_names_imports.proofs.Lists.{get_below, get_there}
use Rattle.argot_names_subset_file.specs.declared.spots.Spot.{Spot}
use Rattle.argot_names_subset_file.specs.Spots.{Adds}
use Rattle.argot_names_subset_file.proofs.Adding.{adds_as, adds_both}
use Rattle.argot_names_subset.specs.Inside.{IsInside, import_, dot, directive, type_parameters, literal, predeclared, goto_, method_expression, without_body, IsAmongKeys}
use Rattle.argot_names_subset.specs.Meanings.{ArePackageKeys}
use Rattle.argot_names_subset.specs.Folders.{IsFolderAt, IsFolderOf}
use Rattle.argot_names_subset.specs.Others.{HasFolder, IsOtherAt, assembly, go_line, IsOther}
use Rattle.argot_names_subset.proofs.Bridging.{some_is, proper_in}
use Rattle.argot_names_subset.proofs.Packaging.{home_at}
use Rattle.argot_names_subset.proofs.Pathing.{not_go}

and_then_some : {A B : Type 0} (f : A → Option B) (o : Option A) (y : B) → option_and_then f o ≡ Some y → (x : A) × (o ≡ Some x) × (f x ≡ Some y)
and_then_some f None y e = absurd (cc)
and_then_some f (Some x) y e = (x, refl, e)

module _ (h : SourceFiles) (main : List ℕ) (p : Packages) (is : IsLoaded h main p) where
  pub homes_are : ArePackageKeys h is.homes p.packages
  homes_are = record { as_many = is.as_many; proper = λ home i. proper_in h main p is home i; each = is.each }

  -- a folder of the table is that of a package that is reached
  folder_at : (home : PackageKey) (file : ℕ) (path q : List ℕ) → IsProper home → IsFileOf h home file → HasPath h file path → is_go_file path ≡ true → folder_of path ≡ q → home ≡ homes.Folder q
  folder_at _ file path q proper (in_folder {folder = r} other there ends in_it) at go is_q =
      let same : other ≡ path = some_is other path (sym there ∙ at) in
      ap homes.Folder (sym in_it ∙ (ap folder_of same ∙ is_q))
  folder_at _ file path q (library {path = p} {text = text} stub) (in_library there) at go is_q =
      let same : codes "stub:" ++ p ≡ path = some_is (codes "stub:" ++ p) path (sym there ∙ at) in
      let no = subst (λ x. is_go_file x ≡ false) same (not_go p text stub) in
      absurd (cc)

  pub folder_reached : (q : List ℕ) → IsFolderOf h.sources p.packages q → IsReached h main (homes.Folder q)
  folder_reached q f =
      let x = home_at h is.homes p.packages f.k f.p homes_are f.there in
      let first = and_then_some (λ file. slice_get h.sources.paths file) (slice_get f.p.files 0) f.is.path f.is.first in
      let of = x.2.files.sound first.0 (0, first.1) in
      let among : In x.0 is.homes = (f.k, x.1) in
      subst (IsReached h main) (folder_at x.0 first.0 f.is.path q (homes_are.proper x.0 among) of first.2 f.is.is.go f.is.is.is) (is.reached.sound x.0 among)

  -- and the other way round
  first_file : (home : PackageKey) (package_ : Package) (q : List ℕ) → home ≡ homes.Folder q → IsPackage h home package_ → IsFolderAt h.sources package_ q
  first_file home package_ q e known = go (get_there package_.files 0 (omega (arith, get_below package_.files some.0 known.name.file some.1)))
    where
      some : In known.name.file package_.files
      some = known.files.complete known.name.file known.name.first.is

      by_file : (other : PackageKey) (file : ℕ) → slice_get package_.files 0 ≡ Some file → other ≡ homes.Folder q → IsFileOf h other file → IsFolderAt h.sources package_ q
      by_file _ file at same (in_folder {folder = r} path there ends in_it) =
          let one : r ≡ q = cc in
          record { path = path; first = ap (option_and_then (λ k. slice_get h.sources.paths k)) at ∙ there; is = record { go = ends; is = in_it ∙ one } }
      by_file _ file at same (in_library there) = absurd (cc)

      go : (file : ℕ) × (slice_get package_.files 0 ≡ Some file) → IsFolderAt h.sources package_ q
      go (file, at) = by_file home file at e (known.files.sound file (0, at))

  pub reached_folder : (q : List ℕ) → IsReached h main (homes.Folder q) → IsFolderOf h.sources p.packages q
  reached_folder q r =
      let k = is.reached.complete (homes.Folder q) r in
      let x = get_there p.packages k.0 (omega (arith, is.as_many, get_below is.homes k.0 (homes.Folder q) k.1)) in
      record { k = k.0; p = x.0; there = x.1; is = first_file (homes.Folder q) x.0 q refl (is.each k.0 (homes.Folder q) x.0 k.1 x.1) }

  module _ (entries : List Entry) where
    Whole : Feature → Place → Type 0
    Whole = HasFeature h main entries

    inside_has : (home : PackageKey) (file : ℕ) (feature : Feature) (place : Place) → IsReachedFile h main home file → IsInside h entries home file feature place → HasFeature h main entries feature place
    inside_has home file _ _ r (import_ imports leaves begins) = has_import r imports leaves begins
    inside_has home file _ _ r (dot imports begins) = has_dot r imports begins
    inside_has home file _ _ r (directive among directs) = has_directive r among directs
    inside_has home file _ _ r (type_parameters spans begins) = has_parameters r spans begins
    inside_has home file _ _ r (literal spans there leaves begins) = has_literal r spans there leaves begins
    inside_has home file _ _ r (predeclared of key stands has begins) = has_predeclared r of key stands has begins
    inside_has home file _ _ r (goto_ spans begins) = has_goto r spans begins
    inside_has home file _ _ r (method_expression spans first denotes begins) = has_method r spans first denotes begins
    inside_has home file _ _ r (without_body {folder = q} home_is spans none under name path receiver lacks begins) = has_bodiless (subst (λ a. IsReachedFile h main a file) home_is r) spans none under name path receiver lacks begins

    homes_has : (feature : Feature) (place : Place) → IsAmongKeys h entries is.homes feature place → HasFeature h main entries feature place
    homes_has feature place i = inside_has i.home i.is.file feature place (record { reached = is.reached.sound i.home i.among; of = i.is.of }) i.is.inside

    module _ (folders : Numbers) (table : (q : List ℕ) → HasFolder folders q ↔ IsFolderOf h.sources p.packages q) where
      other_has : (feature : Feature) (place : Place) → IsOther h.sources folders feature place → HasFeature h main entries feature place
      other_has feature place o = go o.is
        where
          at : (f : Feature) (q : Place) → feature ≡ f → place ≡ q → HasFeature h main entries f q → HasFeature h main entries feature place
          at f q e g x = subst (HasFeature h main entries feature) (sym g) (subst (λ y. HasFeature h main entries y q) (sym e) x)

          go : IsOtherAt h.sources folders o.file o.path feature place → HasFeature h main entries feature place
          go (assembly x) = at features.AssemblyFile (record { file = o.file; offset = 0 }) x.feature_is x.place_is (has_assembly (folder_reached (folder_of o.path) ((table (folder_of o.path)).0 x.known)) o.there x.is refl)
          go (go_line x) = at features.GoLine (record { file = o.file; offset = x.line.offset }) x.line.feature_is x.line.place_is (has_go_line (subst (HasPath h o.file) x.is o.there) x.later x.line.first)

      in_homes : (home : PackageKey) (file : ℕ) (feature : Feature) (place : Place) → IsReachedFile h main home file → IsInside h entries home file feature place → IsAmongKeys h entries is.homes feature place
      in_homes home file feature place r x = record { home = home; among = is.reached.complete home r.reached; is = record { file = file; of = r.of; inside = x } }

      has_either : (feature : Feature) (place : Place) → HasFeature h main entries feature place → IsAmongKeys h entries is.homes feature place ⊎ IsOther h.sources folders feature place
      has_either feature place (has_import {home = home} {file = file} r imports leaves begins) = inl (in_homes home file feature place r (import_ imports leaves begins))
      has_either _ place (has_dot {home = home} {file = file} r imports begins) = inl (in_homes home file features.DotImport place r (dot imports begins))
      has_either _ _ (has_assembly {file = file} {path = path} {folder = q} r there is_s in_q) =
          inr
          (record {
            file = file;
            path = path;
            there = there;
            is = assembly (record { is = is_s; known = subst (HasFolder folders) (sym in_q) ((table q).1 (reached_folder q r)); feature_is = refl; place_is = refl });
          })
      has_either feature _ (has_directive {home = home} {file = file} {offset = offset} r among directs) = inl (in_homes home file feature (record { file = file; offset = offset }) r (directive among directs))
      has_either _ place (has_parameters {home = home} {file = file} r spans begins) = inl (in_homes home file features.TypeParameters place r (type_parameters spans begins))
      has_either feature place (has_literal {home = home} {file = file} r spans there leaves begins) = inl (in_homes home file feature place r (literal spans there leaves begins))
      has_either feature place (has_predeclared {home = home} {file = file} r of key stands has begins) = inl (in_homes home file feature place r (predeclared of key stands has begins))
      has_either _ place (has_goto {home = home} {file = file} r spans begins) = inl (in_homes home file features.Goto place r (goto_ spans begins))
      has_either _ place (has_method {home = home} {file = file} r spans first denotes begins) = inl (in_homes home file features.MethodExpression place r (method_expression spans first denotes begins))
      has_either _ place (has_bodiless {file = file} {folder = q} r spans none under name path receiver lacks begins) =
          inl (in_homes (homes.Folder q) file features.FunctionWithoutBody place r (without_body refl spans none under name path receiver lacks begins))
      has_either _ _ (has_go_line {file = file} {offset = offset} {second = second} there later first) =
          inr
          (record {
            file = file;
            path = codes "go.mod";
            there = there;
            is = go_line (record { is = refl; later = later; line = record { offset = offset; second = second; first = first; feature_is = refl; place_is = refl } });
          })

      pub whole_added : (old mid new : List Spot) → Adds (IsAmongKeys h entries is.homes) old mid → Adds (IsOther h.sources folders) mid new → Adds (HasFeature h main entries) old new
      whole_added old mid new a b =
          adds_as _ (HasFeature h main entries) old new
          (λ f q x. elim x [ inl y ↦ homes_has f q y | inr y ↦ other_has f q y ])
          (λ f q x. has_either f q x)
          (adds_both (IsAmongKeys h entries is.homes) (IsOther h.sources folders) old mid new a b)
