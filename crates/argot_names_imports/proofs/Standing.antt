-- What a survey says of files and packages, taken further.
use Rattle.std.proofs.Common.{◌≡◌, ℕ, inl, inr, List, [], Some, sym, ap, ◌∙◌, subst}
use Rattle.std.specs.Prelude.{slice_get, unwrap_or}
use Rattle.std.proofs.lemmas.Bool.{cases_order}
use Rattle.std.specs.Option.{option_and_then}
use Rattle.argot_names_rules.specs.declared.package_key.PackageKey.{PackageKey}
use Rattle.argot_names_rules.specs.declared.package_key.PackageKey.TheVariants as homes
use Rattle.argot_names_rules.specs.Lists.{In}
use Rattle.argot_names_rules.specs.Files.{SourceFiles}
use Rattle.argot_names_rules.specs.Packages.{IsFileOf, IsFirstFile, IsLeftOut, Finds, of_module, handwritten, of_library}
use Rattle.argot_names_rules.specs.Imports.{IsReached, IsReachedFile}
use Rattle.argot_names_imports.specs.declared.find.Found.{Found}
use Rattle.argot_names_imports.specs.declared.survey.Survey.{Survey}
use Rattle.argot_names_imports.specs.Found.{IsFound}
use Rattle.argot_names_imports.specs.Found.IsFound.{folder as found_folder, library as found_library, unhanded, left_out as found_left_out, nothing}
use Rattle.argot_names_imports.specs.Graph.{target_of}
use Rattle.argot_names_imports.specs.Surveyed.{owner_of, IsOwned, IsSurvey}
use Rattle.argot_names_imports.proofs.Surveys.{owned, one_owner, first_owned, file_owned, finds_one}
use Rattle.argot_names_imports.proofs.ReachedFrom.{reached_proper}
use Rattle.argot_names_imports.specs.Reached.{home_of}

some_is : {A : Type 0} (x y : A) → Some x ≡ Some y → x ≡ y
some_is x y e = cc

-- a package has one first file
pub first_is_one : (h : SourceFiles) (home : PackageKey) (a b : ℕ) → IsFirstFile h home a → IsFirstFile h home b → a ≡ b
first_is_one h home a b x y =
    elim (cases_order a b) [
      | inl same ↦ same
      | inr other ↦ elim other [ inl below ↦ absurd (y.first a x.is below) | inr above ↦ absurd (x.first b y.is above) ]
    ]

-- the package that owns a file stands where the file's path says
pub owned_home : (h : SourceFiles) (home : PackageKey) (file : ℕ) → IsOwned h home file → home_of h file ≡ home
owned_home h home file o =
    ap (λ p. unwrap_or (option_and_then owner_of p) (homes.Folder [])) o.there ∙ ap (λ a. unwrap_or a (homes.Folder [])) o.owner

-- a package that is reached owns its first file
pub reached_home : (h : SourceFiles) (main : List ℕ) (home : PackageKey) (first : ℕ) → IsReached h main home → IsFileOf h home first → home_of h first ≡ home
reached_home h main home first r of = owned_home h home first (owned h home first (reached_proper h main home r) of)

module _ (h : SourceFiles) (main : List ℕ) (s : Survey) (is : IsSurvey h main s) where
  -- a file of a package that is reached is led by the package's first file, which is among those that are reached
  pub reached_leader : (home : PackageKey) (file : ℕ) → IsReachedFile h main home file → (first : ℕ) × (slice_get s.leaders.items file ≡ Some (Some first)) × In first s.reached.keys × IsFirstFile h home first
  reached_leader home file r =
      let f = is.firsts home file r.of in (
        f.0,
        (is.leaders file f.0).1 (record { home = home; owned = owned h home file (reached_proper h main home r.reached) r.of; leads = f.1 }),
        (is.reached f.0).1 (record { home = home; reached = r.reached; leads = f.1 }),
        f.1,
      )

  -- and the other way round
  pub leader_reached : (file first : ℕ) → slice_get s.leaders.items file ≡ Some (Some first) → In first s.reached.keys → (home : PackageKey) × IsReachedFile h main home file × IsFirstFile h home first
  leader_reached file first e i =
      let r = (is.reached first).0 i in
      let by = (is.leaders file first).0 e in
      let proper = reached_proper h main r.home r.reached in
      let same : r.home ≡ by.home = one_owner h r.home by.home first (owned h r.home first proper r.leads.is) (first_owned h by.home file first by.owned by.leads) in
      (r.home, record { reached = r.reached; of = subst (λ a. IsFileOf h a file) (sym same) (file_owned h by.home file by.owned) }, r.leads)

-- what is found, as a first file, and the other way round
pub target_is : (h : SourceFiles) (path : List ℕ) (f : Found) (target : PackageKey) (t : ℕ) → IsFound h path f → Finds h path target → IsFirstFile h target t → target_of f ≡ Some t
target_is h path _ target t (found_folder {folder = q} {file = x} finds first) is leads =
    ap (λ y. Some y) (first_is_one h target x t (subst (λ a. IsFirstFile h a x) (finds_one h path (homes.Folder q) target finds is) first) leads)
target_is h path _ target t (found_library {file = x} finds first) is leads =
    ap (λ y. Some y) (first_is_one h target x t (subst (λ a. IsFirstFile h a x) (finds_one h path (homes.Library path) target finds is) first) leads)
target_is h path _ target t (unhanded finds none) is leads =
    absurd (none t (subst (λ a. IsFileOf h a t) (finds_one h path target (homes.Library path) is finds) leads.is))
target_is h path _ target t (found_left_out left) is leads = absurd (kept h path target is left)
  where
    kept : (h : SourceFiles) (path : List ℕ) (a : PackageKey) → Finds h path a → IsLeftOut path → ⊥
    kept h path _ (of_module k m) left = k left
    kept h path _ (handwritten k n f) left = k left
    kept h path _ (of_library text k n s i) left = k left
target_is h path _ target t (nothing k none) is leads = absurd (none target is)

pub is_target : (h : SourceFiles) (path : List ℕ) (f : Found) (t : ℕ) → IsFound h path f → target_of f ≡ Some t → (target : PackageKey) × Finds h path target × IsFirstFile h target t
is_target h path _ t (found_folder {folder = q} {file = x} finds first) e = (homes.Folder q, finds, subst (IsFirstFile h (homes.Folder q)) (some_is x t e) first)
is_target h path _ t (found_library {file = x} finds first) e = (homes.Library path, finds, subst (IsFirstFile h (homes.Library path)) (some_is x t e) first)
is_target h path _ t (unhanded finds none) e = absurd (cc)
is_target h path _ t (found_left_out left) e = absurd (cc)
is_target h path _ t (nothing k none) e = absurd (cc)
