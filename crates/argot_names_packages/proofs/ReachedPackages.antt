-- The packages that are made of the first files are those that are reached.
use Rattle.std.proofs.Common.{Global, ◌≡◌, ℕ, ◌<◌, inl, inr, List, [], length, true, false, Option, Some, None, nat_eq, get_or, refl, sym, ap, ◌∙◌, subst, arith}
use Rattle.std.specs.Prelude.{slice_get, slice_index_or, Vec, if◌then◌else◌}
use Rattle.std.specs.List.{IsDistinct}
use Rattle.std.proofs.lemmas.Bool.{cases_order, eq-eqb}
use Rattle.std.proofs.lemmas.List.{length-map}
use Rattle.std.proofs.lemmas.Map.Keys.{apart_from_distinct}
use Rattle.std.proofs.lemmas.Option.{get_or_from_slice_get}
use Rattle.argot_typed.specs.declared.program.Package.{Package}
use Rattle.argot_names_rules.specs.declared.package_key.PackageKey.{PackageKey}
use Rattle.argot_names_rules.specs.declared.package_key.PackageKey.TheVariants as homes
use Rattle.argot_names_rules.specs.Lists.{In, IsListOf}
use Rattle.argot_names_rules.specs.Files.{SourceFiles, read_of}
use Rattle.argot_names_rules.specs.Packages.{IsFileOf, in_folder, in_library, IsFirstFile, folder_of, FolderPath, ImportPath, of_folder, of_library as path_of_library, Finds, of_module, handwritten, of_library}
use Rattle.argot_names_rules.specs.Imports.{IsReached, Leads, stay, onward}
use Rattle.argot_names_rules.specs.Agreeing.{is_go_file, HasLibrary}
use Rattle.argot_names_rules.specs.Loaded.{IsPackage}
use Rattle.argot_names_imports.specs.declared.firsts.Sort.TheVariants.{Folders, Libraries}
use Rattle.argot_names_imports.specs.Keys.{key_of}
use Rattle.argot_names_imports.specs.declared.survey.Survey.{Survey}
use Rattle.argot_names_imports.specs.Surveyed.{owner_by, IsOwned, IsSurvey}
use Rattle.argot_names_imports.proofs.Lists.{get_below, get_map, map_get, list_same}
use Rattle.argot_names_imports.proofs.Surveys.{owned, first_owned}
use Rattle.argot_names_imports.proofs.ReachedFrom.{reached_proper}
use Rattle.argot_names_imports.specs.Reached.{home_of, IsReach}
use Rattle.argot_names_imports.proofs.Standing.{first_is_one, reached_home, reached_leader, leader_reached}
use Rattle.argot_names_packages.proofs.Seconds.{is_clause}
use Rattle.argot_names_packages.specs.Paths.{IsPathBy}
use Rattle.argot_names_packages.specs.Files.{IsFileFrom, AreFilesFrom}
use Rattle.argot_names_packages.specs.Made.{IsMade, AreMade}
use Rattle.argot_names_packages.specs.Sound.{IsSound}

some_is : {A : Type 0} (x y : A) → Some x ≡ Some y → x ≡ y
some_is x y e = cc

-- a number stands at one place only
pub one_place : (xs : List ℕ) → IsDistinct nat_eq xs → (j k x : ℕ) → slice_get xs j ≡ Some x → slice_get xs k ≡ Some x → j ≡ k
one_place xs once j k x e f =
    elim (cases_order j k) [
      | inl same ↦ same
      | inr other ↦ elim other [ inl below ↦ absurd (apart j k e f below) | inr above ↦ absurd (apart k j f e above) ]
    ]
  where
    true_false : true ≡ false → ⊥
    true_false e = cc

    apart : (a b : ℕ) → slice_get xs a ≡ Some x → slice_get xs b ≡ Some x → a < b → ⊥
    apart a b e f below =
        let differ : nat_eq (get_or xs a 0) (get_or xs b 0) ≡ false = apart_from_distinct nat_eq xs a b 0 once below (get_below xs b x f) in
        let same : get_or xs a 0 ≡ get_or xs b 0 = get_or_from_slice_get xs a x 0 e ∙ sym (get_or_from_slice_get xs b x 0 f) in
        true_false (sym (eq-eqb (get_or xs a 0) (get_or xs b 0) same) ∙ differ)

-- what a path finds has a file, or is a text of the library
pub record IsThere (h : SourceFiles) (home : PackageKey) : Type 0 where
  pub file : ℕ
  pub of : IsFileOf h home file

module _ (h : SourceFiles) (main : List ℕ) (has : HasLibrary h main) where
  reached_by : (home : PackageKey) → IsReached h main home → (path : List ℕ) (found : PackageKey) → Finds h path found → found ≡ home → IsThere h home
  reached_by home r path _ (of_module {folder = q} k m) e = subst (IsThere h) e (record { file = m.is.0; of = m.is.1 })
  reached_by home r path _ (handwritten k n f) e = subst (IsThere h) e (record { file = f.0; of = f.1 })
  reached_by home r path _ (of_library text k n s i) e =
      let file = has path (subst (IsReached h main) (sym e) r) in subst (IsThere h) e (record { file = file.0; of = file.1 })

  -- each package that is reached has a file
  pub reached_there : (home : PackageKey) → IsReached h main home → IsThere h home
  reached_there home r = go home r.leads refl
    where
      go : (a : PackageKey) → Leads h (homes.Folder main) a → a ≡ home → IsThere h home
      go _ stay e = subst (IsThere h) e (record { file = r.there.0; of = r.there.1 })
      go _ (onward {target = t} l edge) e = reached_by home r edge.path t edge.finds e

-- a package's path
module _ (h : SourceFiles) (first : ℕ) (is : List ℕ) (by : (path : List ℕ) → slice_get h.sources.paths first ≡ Some path → IsPathBy h.sources.module path is) where
  folder_path : (home : PackageKey) → IsFileOf h home first → (q : List ℕ) → home ≡ homes.Folder q → FolderPath h.sources.module q is
  folder_path _ (in_folder {folder = f} path there go at) q e =
      let same : f ≡ q = folder_is f q e in subst (λ x. FolderPath h.sources.module x is) (at ∙ same) ((by path there).go go)
    where
      folder_is : (f q : List ℕ) → homes.Folder f ≡ homes.Folder q → f ≡ q
      folder_is f q e = cc
  folder_path _ (in_library there) q e = absurd (cc)

  -- the keys of a library's text
  text_path : (p path : List ℕ) → slice_get h.sources.paths first ≡ Some path → (f l : Option (List ℕ)) → key_of Folders path ≡ f → key_of Libraries path ≡ l → owner_by f l ≡ Some (homes.Library p) → is ≡ p
  text_path p path there (Some q) l fe le e = absurd (cc)
  text_path p path there None (Some r) fe le e = (by path there).text p not_go (le ∙ ap (λ x. Some x) (library_is r p e))
    where
      library_is : (r p : List ℕ) → Some (homes.Library r) ≡ Some (homes.Library p) → r ≡ p
      library_is r p e = cc

      none_some : (x : List ℕ) → None ≡ Some x → ⊥
      none_some x e = cc

      not_go : is_go_file path ≡ true → ⊥
      not_go go = none_some (folder_of path) (sym fe ∙ ap (λ b. if b then Some (folder_of path) else None) go)
  text_path p path there None None fe le e = absurd (cc)

  pub made_path : (home : PackageKey) → IsFileOf h home first → IsOwned h home first → ImportPath h home is
  made_path (homes.Folder q) of o = of_folder (folder_path (homes.Folder q) of q refl)
  made_path (homes.Library p) of o =
      subst (ImportPath h (homes.Library p)) (sym (text_path p o.path o.there (key_of Folders o.path) (key_of Libraries o.path) refl refl o.owner)) path_of_library

module _ (h : SourceFiles) (main : List ℕ) (s : Survey) (is : IsSurvey h main s) where
  -- the package of a first file
  pub record IsOfFirst (first : ℕ) : Type 0 where
    pub home : PackageKey
    pub reached : IsReached h main home
    pub leads : IsFirstFile h home first
    pub home_is : home_of h first ≡ home

  pub of_first : (first : ℕ) → In first s.reached.keys → IsOfFirst first
  of_first first i =
      let r = (is.reached first).0 i in record { home = r.home; reached = r.reached; leads = r.leads; home_is = reached_home h main r.home first r.reached r.leads.is }

  pub keys_below : (k first : ℕ) → slice_get s.reached.keys k ≡ Some first → first < length s.leaders.items
  keys_below k first e =
      let r = of_first first (k, e) in
      get_below s.leaders.items first (Some first) ((is.leaders first first).1 (record { home = r.home; owned = owned h r.home first (reached_proper h main r.home r.reached) r.leads.is; leads = r.leads }))

  pub leaders_below : (file l : ℕ) → slice_get s.leaders.items file ≡ Some (Some l) → l < length s.leaders.items
  leaders_below file l e =
      let by = (is.leaders file l).0 e in
      get_below s.leaders.items l (Some l) ((is.leaders l l).1 (record { home = by.home; owned = first_owned h by.home file l by.owned by.leads; leads = by.leads }))

  -- the files of a package are those with its first file
  made_files : (first : ℕ) (i : In first s.reached.keys) (home : PackageKey) → IsReached h main home → IsFirstFile h home first → (files : List ℕ) → IsListOf (λ (a b : ℕ). a < b) (IsFileFrom s.leaders.items 0 first) files → IsListOf (λ (a b : ℕ). a < b) (IsFileOf h home) files
  made_files first i home reached leads files are =
      list_same (λ a b. a < b) (IsFileFrom s.leaders.items 0 first) (IsFileOf h home) files are
      (λ f from.
      let l = leader_reached h main s is f first from.leads i in
      let same : l.0 ≡ home = sym (reached_home h main l.0 first l.1.reached l.2.is) ∙ reached_home h main home first reached leads.is in
      subst (λ a. IsFileOf h a f) same l.1.of)
      (λ f of.
      let l = reached_leader h main s is home f (record { reached = reached; of = of }) in
      let same : l.0 ≡ first = first_is_one h home l.0 first l.3 leads in
      record { leads = subst (λ x. slice_get s.leaders.items f ≡ Some (Some x)) same l.1; from_on = omega arith })

  made_package : (lists : List (List ℕ)) → length lists ≡ length s.leaders.items → AreFilesFrom s.leaders.items 0 lists → (k first : ℕ) → slice_get s.reached.keys k ≡ Some first → (p : Package) → IsMade h lists first p → (home : PackageKey) → home_of h first ≡ home → IsPackage h home p
  made_package lists long files k first at p made home e =
      let r = of_first first (k, at) in
      let same : r.home ≡ home = sym r.home_is ∙ e in
      let own = owned h r.home first (reached_proper h main r.home r.reached) r.leads.is in
      let below = keys_below k first at in
      subst (λ a. IsPackage h a p) same
      (record {
        path = made_path h first p.path made.path r.home r.leads.is own;
        name = record { file = first; first = r.leads; clause = is_clause (read_of h first) p.name made.name };
        files = subst (IsListOf (λ (a b : ℕ). a < b) (IsFileOf h r.home)) (sym made.files) (made_files first (k, at) r.home r.reached r.leads (slice_index_or lists first []) (files first (omega (arith, below, long))));
      })

  pub reach_is : HasLibrary h main → IsSound h main → (packages : Vec Package Global) → AreMade h s packages.items → IsReach h main (record { survey = s; packages = packages })
  reach_is has sound packages made =
      let keys = s.reached.keys in
      let many = length-map keys (home_of h) in
      record {
        survey = is;
        reached = record {
          once = λ j k home e f.
              let a = get_map (home_of h) keys j home e in
              let b = get_map (home_of h) keys k home f in
              let x = of_first a.0 (j, a.1) in
              let y = of_first b.0 (k, b.1) in
              let leads : IsFirstFile h home a.0 = subst (λ q. IsFirstFile h q a.0) (sym x.home_is ∙ a.2) x.leads in
              let others : IsFirstFile h home b.0 = subst (λ q. IsFirstFile h q b.0) (sym y.home_is ∙ b.2) y.leads in
              let same : b.0 ≡ a.0 = first_is_one h home b.0 a.0 others leads in
              one_place keys made.once j k a.0 a.1 (subst (λ z. slice_get keys k ≡ Some z) same b.1);
          sound = λ home i.
              let a = get_map (home_of h) keys i.0 home i.1 in
              let x = of_first a.0 (i.0, a.1) in
              subst (IsReached h main) (sym x.home_is ∙ a.2) x.reached;
          complete = λ home r.
              let there = reached_there h main has home r in
              let f = is.firsts home there.file there.of in
              let i = (is.reached f.0).1 (record { home = home; reached = r; leads = f.1 }) in
              (i.0, map_get (home_of h) keys i.0 f.0 i.1 ∙ ap (λ a. Some a) (reached_home h main home f.0 r f.1.is));
        };
        main_first =
            let m = sound.has_main in
            let f = is.firsts (homes.Folder main) m.file m.of in
            map_get (home_of h) keys 0 f.0 (is.main_first f.0 f.1) ∙ ap (λ a. Some a) (reached_home h main (homes.Folder main) f.0 (record { there = (m.file, m.of); leads = stay }) f.1.is);
        firsts = λ k first home e f.
            let x = of_first first (k, e) in
            let same : home_of h first ≡ home = some_is (home_of h first) home (sym (map_get (home_of h) keys k first e) ∙ f) in
            subst (λ a. IsFirstFile h a first) (sym x.home_is ∙ same) x.leads;
        few = omega (arith, made.few, many);
        as_many = made.as_many ∙ sym many;
        each = λ k home p e f.
            let a = get_map (home_of h) keys k home e in
            made_package made.lists made.as_long made.files k a.0 a.1 p (made.made.each k a.0 p a.1 f) home a.2;
        has_main = sound.has_main;
        one_name = sound.one_name;
        all_found = sound.all_found;
        no_cycle = sound.no_cycle;
      }
