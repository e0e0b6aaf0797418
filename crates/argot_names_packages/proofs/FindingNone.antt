-- The imports that find nothing are the places of that fault.
use Rattle.std.proofs.Common.{◌≡◌, ℕ, ◌<◌, List, length, true, Option, Some, None, refl, sym, ap, ◌∙◌, subst, arith}
use Rattle.std.specs.Prelude.{◌↔◌, slice_get}
use Rattle.argot_tree.specs.declared.lexed.Lexed.{Lexed}
use Rattle.argot_names_rules.specs.declared.package_key.PackageKey.{PackageKey}
use Rattle.argot_names_rules.specs.declared.package_key.PackageKey.TheVariants as homes
use Rattle.argot_names_rules.specs.Files.{SourceFiles, Place}
use Rattle.argot_names_rules.specs.Packages.{IsLeftOut, Finds}
use Rattle.argot_names_rules.specs.Faults.{FindsNone}
use Rattle.argot_names_imports.specs.declared.written.Written.{Written}
use Rattle.argot_names_imports.specs.declared.find.Found.{Found}
use Rattle.argot_names_imports.specs.declared.survey.Survey.{Survey}
use Rattle.argot_names_imports.specs.Found.{IsFound}
use Rattle.argot_names_imports.specs.Found.IsFound.{folder, library, unhanded, left_out, nothing}
use Rattle.argot_names_imports.specs.Surveyed.{IsSurvey}
use Rattle.argot_names_imports.proofs.Lists.{get_below, get_there}
use Rattle.argot_names_imports.proofs.Standing.{reached_leader, leader_reached}
use Rattle.argot_files.specs.declared.place.Place.{Place as Spot}
use Rattle.argot_names_packages.specs.Spots.{spot_in, IsAt}
use Rattle.argot_names_packages.specs.Standing.{IsLedBy}
use Rattle.argot_names_packages.specs.Missing.{is_nothing, IsMissingAt}
use Rattle.argot_names_packages.proofs.Led.{begins_at, at_begins}

finds_none : (h : SourceFiles) (path : List ℕ) (f : Found) → IsFound h path f → (IsLeftOut path → ⊥) → ((target : PackageKey) → Finds h path target → ⊥) → is_nothing f ≡ true
finds_none h path _ (folder {folder = q} finds first) known none = absurd (none (homes.Folder q) finds)
finds_none h path _ (library finds first) known none = absurd (none (homes.Library path) finds)
finds_none h path _ (unhanded finds lacks) known none = absurd (none (homes.Library path) finds)
finds_none h path _ (left_out left) known none = absurd (known left)
finds_none h path _ (nothing k lacks) known none = refl

none_found : (h : SourceFiles) (path : List ℕ) (f : Found) → IsFound h path f → is_nothing f ≡ true → (IsLeftOut path → ⊥) × ((target : PackageKey) → Finds h path target → ⊥)
none_found h path _ (folder finds first) e = absurd (cc)
none_found h path _ (library finds first) e = absurd (cc)
none_found h path _ (unhanded finds lacks) e = absurd (cc)
none_found h path _ (left_out left) e = absurd (cc)
none_found h path _ (nothing k lacks) e = (k, lacks)

some_is : {A : Type 0} (x y : A) → Some x ≡ Some y → x ≡ y
some_is x y e = cc

no_spot : {place : Place} → IsAt None place → ⊥
no_spot p = none_some p.spot p.is
  where
    none_some : (b : Spot) → None ≡ Some b → ⊥
    none_some b e = cc

module _ (s : Survey) (lexed : List Lexed) (k : ℕ) (w : Written) (f : Found) (is_import : slice_get s.imports.items k ≡ Some w) (is_found : slice_get s.founds.items k ≡ Some f) where
  -- the place of one import
  pub missing_at : (first : ℕ) → is_nothing f ≡ true → IsLedBy s w.file first → (o : Option Spot) → o ≡ spot_in lexed w.file w.path_at → (place : Place) → IsMissingAt s lexed k place ↔ IsAt o place
  missing_at first lacks led o e place = (
    λ m.
        let same : m.import_ ≡ w = some_is m.import_ w (sym m.is_import ∙ is_import) in
        subst (λ p. IsAt p place) (ap (λ (v : Written). spot_in lexed v.file v.path_at) same ∙ sym e) m.begins,
    λ p. record {
      import_ = w;
      found = f;
      first = first;
      is_import = is_import;
      is_found = is_found;
      nothing = lacks;
      led = led;
      begins = subst (λ q. IsAt q place) e p;
    },
  )

  -- or it has none
  pub not_led : ((first : ℕ) → IsLedBy s w.file first → ⊥) → (place : Place) → IsMissingAt s lexed k place ↔ IsAt None place
  not_led none place = (
    λ m. let same : m.import_ ≡ w = some_is m.import_ w (sym m.is_import ∙ is_import) in absurd (none m.first (subst (λ (v : Written). IsLedBy s v.file m.first) same m.led)),
    λ p. absurd (no_spot p),
  )

module _ (h : SourceFiles) (main : List ℕ) (lexed : List Lexed) (same : h.lexed ≡ lexed) (s : Survey) (is : IsSurvey h main s) where
  pub missing_there : (place : Place) → FindsNone h main place → (k : ℕ) × IsMissingAt s lexed k place
  missing_there place p =
      let w : Written = record { file = p.file; node = p.node; at = p.at; path_at = p.path_at; alias = p.alias; path = p.path } in
      let i = is.imports.complete w p.imports in
      let f = get_there s.founds.items i.0 (omega (arith, is.founds.as_many, get_below s.imports.items i.0 w i.1)) in
      let l = reached_leader h main s is p.home p.file p.reached in (
        i.0,
        record {
          import_ = w;
          found = f.0;
          first = l.0;
          is_import = i.1;
          is_found = f.1;
          nothing = finds_none h p.path f.0 (is.founds.each i.0 w f.0 i.1 f.1) p.known p.none;
          led = record { leads = l.1; reached = l.2 };
          begins = begins_at h lexed same p.file p.path_at place p.begins;
        },
      )

  pub missing_is : (k : ℕ) (place : Place) → IsMissingAt s lexed k place → (k < length s.imports.items) × FindsNone h main place
  missing_is k place m =
      let w = m.import_ in
      let l = leader_reached h main s is w.file m.first m.led.leads m.led.reached in
      let none = none_found h w.path m.found (is.founds.each k w m.found m.is_import m.is_found) m.nothing in (
        get_below s.imports.items k w m.is_import,
        record {
          home = l.0;
          file = w.file;
          node = w.node;
          at = w.at;
          path_at = w.path_at;
          alias = w.alias;
          path = w.path;
          reached = l.1;
          imports = is.imports.sound w (k, m.is_import);
          known = none.0;
          none = none.1;
          begins = at_begins h lexed same w.file w.path_at place m.begins;
        },
      )
