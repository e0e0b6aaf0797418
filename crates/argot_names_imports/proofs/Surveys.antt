-- What the tables and lists say of packages is what the definitions say.
use Rattle.std.proofs.Common.{◌≡◌, ℕ, inl, inr, List, ◌++◌, length, Option, Some, None, refl, sym, ap, ◌∙◌, subst}
use Rattle.std.specs.Prelude.{◌↔◌, slice_get, codes, map}
use Rattle.std.proofs.lemmas.Bool.{cases_order}
use Rattle.argot_stubs.specs.Stubs.{HasStub, errors, fmt, os, exec, strings, log, strconv, sync}
use Rattle.argot_names_rules.specs.declared.package_key.PackageKey.{PackageKey}
use Rattle.argot_names_rules.specs.declared.package_key.PackageKey.TheVariants as homes
use Rattle.argot_names_rules.specs.Files.{SourceFiles}
use Rattle.argot_names_rules.specs.Packages.{HasPath, IsFileOf, IsFirstFile, IsOfModule, FolderPath, IsLeftOut, Finds, of_module, handwritten, of_library}
use Rattle.argot_names_imports.specs.declared.firsts.Sort.TheVariants.{Folders, Libraries}
use Rattle.argot_names_imports.specs.Keys.{key_of}
use Rattle.argot_names_imports.specs.Firsts.{Numbers, found_at, IsFirstBelow}
use Rattle.argot_names_imports.specs.Leaders.{leader_by, leader_of}
use Rattle.argot_names_imports.specs.Found.{HasTables}
use Rattle.argot_names_imports.specs.Surveyed.{owner_by, owner_of, IsOwned, IsProper, folder, library, IsLed}
use Rattle.argot_names_imports.specs.Candidates.{candidate_of}
use Rattle.argot_names_imports.specs.declared.find.Found.{Found}
use Rattle.argot_names_imports.specs.Graph.{target_of}
use Rattle.argot_names_imports.specs.Found.{IsFound}
use Rattle.argot_names_imports.specs.Found.IsFound.{folder as found_folder, library as found_library, unhanded, left_out as found_left_out, nothing}
use Rattle.argot_names_imports.proofs.Lists.{get_map, map_get}
use Rattle.argot_names_imports.proofs.Candidates.{candidate_found}
use Rattle.argot_names_imports.proofs.Finding.{stub_front, file_in_folder, file_in_library, sort_of, name_of, known_file, first_file, no_file}

some_is : {A : Type 0} (x y : A) → Some x ≡ Some y → x ≡ y
some_is x y e = cc

-- a library text has no name of a Go file
not_go : (path text : List ℕ) → HasStub path text → key_of Folders (codes "stub:" ++ path) ≡ None
not_go path text (errors e _) = subst (λ p. key_of Folders (codes "stub:" ++ p) ≡ None) (sym e) refl
not_go path text (fmt e _) = subst (λ p. key_of Folders (codes "stub:" ++ p) ≡ None) (sym e) refl
not_go path text (os e _) = subst (λ p. key_of Folders (codes "stub:" ++ p) ≡ None) (sym e) refl
not_go path text (exec e _) = subst (λ p. key_of Folders (codes "stub:" ++ p) ≡ None) (sym e) refl
not_go path text (strings e _) = subst (λ p. key_of Folders (codes "stub:" ++ p) ≡ None) (sym e) refl
not_go path text (log e _) = subst (λ p. key_of Folders (codes "stub:" ++ p) ≡ None) (sym e) refl
not_go path text (strconv e _) = subst (λ p. key_of Folders (codes "stub:" ++ p) ≡ None) (sym e) refl
not_go path text (sync e _) = subst (λ p. key_of Folders (codes "stub:" ++ p) ≡ None) (sym e) refl

-- a file of a proper package is owned by it
pub owned : (h : SourceFiles) (home : PackageKey) (file : ℕ) → IsProper home → IsFileOf h home file → IsOwned h home file
owned h _ file (folder {folder = q}) of =
    let k = known_file h (homes.Folder q) file of in
    record { path = k.path; there = k.there; owner = ap (λ o. owner_by o (key_of Libraries k.path)) k.key_is }
owned h _ file (library {path = p} {text = text} is) of =
    let k = known_file h (homes.Library p) file of in
    record { path = k.path; there = k.there; owner = by_stub k.path k.key_is }
  where
    by_stub : (path : List ℕ) → key_of Libraries path ≡ Some p → owner_of path ≡ Some (homes.Library p)
    by_stub path e = subst (λ x. owner_of x ≡ Some (homes.Library p)) (sym (stub_front path p e)) (ap (λ o. owner_by o (Some p)) (not_go p text is))

-- of two packages that own one file
pub one_owner : (h : SourceFiles) (a b : PackageKey) (file : ℕ) → IsOwned h a file → IsOwned h b file → a ≡ b
one_owner h a b file x y = some_is a b (sym x.owner ∙ ap owner_of (some_is x.path y.path (sym x.there ∙ y.there)) ∙ y.owner)

-- the table's entry of a package
abbrev pub entry_of : Numbers → Numbers → PackageKey → Option ℕ
entry_of folders libraries (homes.Folder q) = found_at folders q
entry_of folders libraries (homes.Library p) = found_at libraries p

leader_is : (folders libraries : Numbers) (f l : Option (List ℕ)) (home : PackageKey) → owner_by f l ≡ Some home → leader_by folders libraries f l ≡ entry_of folders libraries home
leader_is folders libraries (Some q) l home e = ap (entry_of folders libraries) (some_is _ _ e)
leader_is folders libraries None (Some p) home e = ap (entry_of folders libraries) (some_is _ _ e)
leader_is folders libraries None None home e = absurd (cc)

owner_some : (folders libraries : Numbers) (f l : Option (List ℕ)) (first : ℕ) → leader_by folders libraries f l ≡ Some first → (home : PackageKey) × (owner_by f l ≡ Some home)
owner_some folders libraries (Some q) l first e = (homes.Folder q, refl)
owner_some folders libraries None (Some p) first e = (homes.Library p, refl)
owner_some folders libraries None None first e = absurd (cc)

module _ (h : SourceFiles) (module_ : List ℕ) (folders libraries : Numbers) (tables : HasTables h module_ folders libraries) where
  entry_is : (home : PackageKey) → IsFirstBelow (sort_of home) h.sources.paths (length h.sources.paths) (name_of home) (entry_of folders libraries home)
  entry_is (homes.Folder q) = tables.folders_are q
  entry_is (homes.Library p) = tables.libraries_are p

  pub entry_first : (home : PackageKey) (first : ℕ) → entry_of folders libraries home ≡ Some first → IsFirstFile h home first
  entry_first home first e = first_file h home (entry_of folders libraries home) first (entry_is home) e

  -- a package with a file has a first one
  pub first_there : (home : PackageKey) (file : ℕ) → IsFileOf h home file → (first : ℕ) × (entry_of folders libraries home ≡ Some first)
  first_there home file of = go (entry_of folders libraries home) refl
    where
      go : (o : Option ℕ) → entry_of folders libraries home ≡ o → (first : ℕ) × (entry_of folders libraries home ≡ Some first)
      go None e = absurd (no_file h home (entry_of folders libraries home) (entry_is home) e file of)
      go (Some first) e = (first, e)

  -- and only one
  pub one_first : (home : PackageKey) (a b : ℕ) → IsFirstFile h home a → IsFirstFile h home b → a ≡ b
  one_first home a b x y =
      elim (cases_order a b) [
        | inl same ↦ same
        | inr other ↦ elim other [ inl below ↦ absurd (y.first a x.is below) | inr above ↦ absurd (x.first b y.is above) ]
      ]

  pub entry_there : (home : PackageKey) (first : ℕ) → IsFirstFile h home first → entry_of folders libraries home ≡ Some first
  entry_there home first is = let e = first_there home first is.is in e.1 ∙ ap (λ x. Some x) (one_first home e.0 first (entry_first home e.0 e.1) is)

  leaders_led : (file first : ℕ) → slice_get (map (leader_of folders libraries) h.sources.paths) file ≡ Some (Some first) → IsLed h file first
  leaders_led file first e =
      let p = get_map (leader_of folders libraries) h.sources.paths file (Some first) e in
      let home = owner_some folders libraries (key_of Folders p.0) (key_of Libraries p.0) first p.2 in
      record {
        home = home.0;
        owned = record { path = p.0; there = p.1; owner = home.1 };
        leads = entry_first home.0 first (sym (leader_is folders libraries (key_of Folders p.0) (key_of Libraries p.0) home.0 home.1) ∙ p.2);
      }

  led_leaders : (file first : ℕ) → IsLed h file first → slice_get (map (leader_of folders libraries) h.sources.paths) file ≡ Some (Some first)
  led_leaders file first l =
      map_get (leader_of folders libraries) h.sources.paths file l.owned.path l.owned.there
      ∙ ap (λ o. Some o) (leader_is folders libraries (key_of Folders l.owned.path) (key_of Libraries l.owned.path) l.home l.owned.owner ∙ entry_there l.home first l.leads)

  pub leaders_are : (leaders : List (Option ℕ)) → leaders ≡ map (leader_of folders libraries) h.sources.paths → (file first : ℕ) → slice_get leaders file ≡ Some (Some first) ↔ IsLed h file first
  leaders_are leaders e file first =
      (λ g. leaders_led file first (subst (λ ls. slice_get ls file ≡ Some (Some first)) e g), λ l. subst (λ ls. slice_get ls file ≡ Some (Some first)) (sym e) (led_leaders file first l))

  -- what a path finds is one
  no_other : (path q : List ℕ) → IsOfModule h path q → candidate_of module_ path ≡ Some q
  no_other path q is = candidate_found module_ path q (record { own = is.of_module; path_is = subst (λ m. FolderPath m q path) tables.module_is is.path_is })

  pub one_finds : (path : List ℕ) (a b : PackageKey) → Finds h path a → Finds h path b → a ≡ b
  one_finds path _ _ (of_module {folder = q} k m) (of_module {folder = r} k' m') = ap homes.Folder (some_is q r (sym (no_other path q m) ∙ no_other path r m'))
  one_finds path _ _ (of_module {folder = q} k m) (handwritten k' n is) = absurd (n q m)
  one_finds path _ _ (of_module {folder = q} k m) (of_library text k' n s is) = absurd (n q m)
  one_finds path _ _ (handwritten k n is) (of_module {folder = q} k' m) = absurd (n q m)
  one_finds path _ _ (handwritten k n is) (handwritten k' n' is') = refl
  one_finds path _ _ (handwritten k n is) (of_library text k' n' s is') = absurd (s is)
  one_finds path _ _ (of_library text k n s is) (of_module {folder = q} k' m) = absurd (n q m)
  one_finds path _ _ (of_library text k n s is) (handwritten k' n' is') = absurd (s is')
  one_finds path _ _ (of_library text k n s is) (of_library text' k' n' s' is') = refl

  finds_kept : (path : List ℕ) (a : PackageKey) → Finds h path a → IsLeftOut path → ⊥
  finds_kept path _ (of_module k m) is = k is
  finds_kept path _ (handwritten k n f) is = k is
  finds_kept path _ (of_library text k n s i) is = k is

  pub found_target : (path : List ℕ) (f : Found) (target : PackageKey) (t : ℕ) → IsFound h path f → Finds h path target → IsFirstFile h target t → target_of f ≡ Some t
  found_target path _ target t (found_folder {folder = q} {file = x} finds first) is leads =
      ap (λ y. Some y) (one_first target x t (subst (λ a. IsFirstFile h a x) (one_finds path (homes.Folder q) target finds is) first) leads)
  found_target path _ target t (found_library {file = x} finds first) is leads =
      ap (λ y. Some y) (one_first target x t (subst (λ a. IsFirstFile h a x) (one_finds path (homes.Library path) target finds is) first) leads)
  found_target path _ target t (unhanded finds none) is leads =
      absurd (none t (subst (λ a. IsFileOf h a t) (one_finds path target (homes.Library path) is finds) leads.is))
  found_target path _ target t (found_left_out left) is leads = absurd (finds_kept path target is left)
  found_target path _ target t (nothing k none) is leads = absurd (none target is)

  pub target_found : (path : List ℕ) (f : Found) (t : ℕ) → IsFound h path f → target_of f ≡ Some t → (target : PackageKey) × Finds h path target × IsFirstFile h target t
  target_found path _ t (found_folder {folder = q} {file = x} finds first) e = (homes.Folder q, finds, subst (IsFirstFile h (homes.Folder q)) (some_is x t e) first)
  target_found path _ t (found_library {file = x} finds first) e = (homes.Library path, finds, subst (IsFirstFile h (homes.Library path)) (some_is x t e) first)
  target_found path _ t (unhanded finds none) e = absurd (cc)
  target_found path _ t (found_left_out left) e = absurd (cc)
  target_found path _ t (nothing k none) e = absurd (cc)

pub finds_proper : (h : SourceFiles) (path : List ℕ) (a : PackageKey) → Finds h path a → IsProper a
finds_proper h path _ (of_module k m) = folder
finds_proper h path _ (handwritten k n f) = folder
finds_proper h path _ (of_library text k n s is) = library is

pub file_owned : (h : SourceFiles) (home : PackageKey) (file : ℕ) → IsOwned h home file → IsFileOf h home file
file_owned h home file o = go o.path o.there home (key_of Folders o.path) refl (key_of Libraries o.path) refl o.owner
  where
    go : (path : List ℕ) → HasPath h file path → (home : PackageKey) (f : Option (List ℕ)) → key_of Folders path ≡ f → (l : Option (List ℕ)) → key_of Libraries path ≡ l → owner_by f l ≡ Some home → IsFileOf h home file
    go path there home (Some q) fe l le e = subst (λ a. IsFileOf h a file) (some_is _ _ e) (file_in_folder h q file (record { path = path; there = there; key_is = fe }))
    go path there home None fe (Some p) le e = subst (λ a. IsFileOf h a file) (some_is _ _ e) (file_in_library h p file (record { path = path; there = there; key_is = le }))
    go path there home None fe None le e = absurd (cc)

-- the first file of an owned file's package is owned by it too
pub first_owned : (h : SourceFiles) (home : PackageKey) (file first : ℕ) → IsOwned h home file → IsFirstFile h home first → IsOwned h home first
first_owned h (homes.Folder q) file first o is = owned h (homes.Folder q) first folder is.is
first_owned h (homes.Library p) file first o is =
    let k = known_file h (homes.Library p) first is.is in
    let m = known_file h (homes.Library p) file (file_owned h (homes.Library p) file o) in
    let first_path = stub_front k.path p k.key_is in
    let file_path = stub_front m.path p m.key_is in
    let same : m.path ≡ o.path = some_is m.path o.path (sym m.there ∙ o.there) in
    record { path = o.path; there = k.there ∙ ap (λ x. Some x) (first_path ∙ sym file_path ∙ same); owner = o.owner }

-- what a path finds is one
pub finds_one : (h : SourceFiles) (path : List ℕ) (a b : PackageKey) → Finds h path a → Finds h path b → a ≡ b
finds_one h path _ _ (of_module {folder = q} k m) (of_module {folder = r} k' m') = ap homes.Folder (some_is q r (sym (only q m) ∙ only r m'))
  where
    only : (q : List ℕ) → IsOfModule h path q → candidate_of h.sources.module path ≡ Some q
    only q is = candidate_found h.sources.module path q (record { own = is.of_module; path_is = is.path_is })
finds_one h path _ _ (of_module {folder = q} k m) (handwritten k' n is) = absurd (n q m)
finds_one h path _ _ (of_module {folder = q} k m) (of_library text k' n s is) = absurd (n q m)
finds_one h path _ _ (handwritten k n is) (of_module {folder = q} k' m) = absurd (n q m)
finds_one h path _ _ (handwritten k n is) (handwritten k' n' is') = refl
finds_one h path _ _ (handwritten k n is) (of_library text k' n' s is') = absurd (s is)
finds_one h path _ _ (of_library text k n s is) (of_module {folder = q} k' m) = absurd (n q m)
finds_one h path _ _ (of_library text k n s is) (handwritten k' n' is') = absurd (s is')
finds_one h path _ _ (of_library text k n s is) (of_library text' k' n' s' is') = refl
