-- What a look into the tables finds.
use Rattle.std.proofs.Common.{◌≡◌, ℕ, ◌<◌, ◌≤◌, inl, inr, List, length, Option, Some, None, sym, ap, ◌∙◌, subst, arith, Bor}
use Rattle.std.specs.Prelude.{◌⊎◌, slice_get, IfSome, IfNone}
use Rattle.std.proofs.lemmas.Bool.{cases_order}
use Rattle.argot_names_rules.specs.declared.package_key.PackageKey.{PackageKey}
use Rattle.argot_names_rules.specs.Files.{SourceFiles, Place}
use Rattle.argot_names_rules.specs.Imports.{IsReachedFile}
use Rattle.argot_names_rules.specs.PackageScope.{IsTop, IsImported}
use Rattle.argot_names_scopes.specs.declared.file.FileNames.{FileNames}
use Rattle.argot_names_imports.specs.declared.reached.Reached.{Reached}
use Rattle.argot_names_imports.specs.Reached.{homes_of}
use Rattle.argot_names_imports.specs.Numbers.{IsOfNumber}
use Rattle.argot_names_tops.specs.declared.named.Named.{Named}
use Rattle.argot_names_tops.specs.declared.tops.Tops.{Tops}
use Rattle.argot_files.specs.Places.{place_of}
use Rattle.argot_names_tops.specs.Entries.{IsAt, AreEntries, Entries, IsFirstItem}
use Rattle.argot_names_tops.specs.Declaring.{HasItem}
use Rattle.argot_names_tops.specs.Importing.{HasImport}
use Rattle.argot_names_tops.specs.Tops.{IsNamesOf, AreTops}
use Rattle.argot_names_tops.specs.Meant.{IsFirstTop, IsFirstImport}
use Rattle.argot_names_tops.proofs.Ordering.{imports_ascend}

some_is : {A : Type 0} (x y : A) → Some x ≡ Some y → x ≡ y
some_is x y e = cc

-- what is found in one of two equal lists
pub first_in : (xs ys : List Named) (m : Entries) (scope : ℕ) (name : List ℕ) (n : Named) → xs ≡ ys → AreEntries ys (length ys) m → (AreEntries xs (length xs) m → IsFirstItem xs scope name n) → IsFirstItem ys scope name n
first_in xs ys m scope name n e are by = subst (λ zs. IsFirstItem zs scope name n) e (by (subst (λ zs. AreEntries zs (length zs) m) (sym e) are))

pub none_in : (xs ys : List Named) (m : Entries) (scope : ℕ) (name : List ℕ) → xs ≡ ys → AreEntries ys (length ys) m → (AreEntries xs (length xs) m → (k : ℕ) (n : Named) → IsAt xs scope name k n → ⊥)
    → (k : ℕ) (n : Named) → IsAt ys scope name k n → ⊥
none_in xs ys m scope name e are by = subst (λ zs. (k : ℕ) (n : Named) → IsAt zs scope name k n → ⊥) e (by (subst (λ zs. AreEntries zs (length zs) m) (sym e) are))

-- an item that is there, as one that declares the name
at_item : (items : List Named) (scope : ℕ) (name : List ℕ) (of : ℕ) (place : Place) (i : HasItem items scope name of place) → IsAt items scope name i.number i.item
at_item items scope name of place i = record { there = i.there; is = record { scope_is = i.scope_is; name_is = i.name_is } }

-- the first one stands before it or is it
not_behind : (items : List Named) (scope : ℕ) (name : List ℕ) (n : Named) (first : IsFirstItem items scope name n) (k : ℕ) (m : Named) → IsAt items scope name k m → (first.number < k) ⊎ (n ≡ m)
not_behind items scope name n first k m a =
    elim (cases_order first.number k) [
      | inl same ↦ inr (some_is n m (sym first.is.there ∙ ap (slice_get items) same ∙ a.there))
      | inr other ↦ elim other [ inl low ↦ inl low | inr high ↦ absurd (first.first k m high a) ]
    ]

module _ (h : SourceFiles) (main : List ℕ) (r : Reached) (t : Tops) (are : AreTops h main r t) where
  names_of_reached : (home : PackageKey) (file : ℕ) → IsReachedFile h main home file → (n : FileNames) × (slice_get t.files.items file ≡ Some (Some n))
  names_of_reached home file is =
      let i = are.reach.reached.complete home is.reached in
      are.files.all file i.0 (record { home = home; in_home = i.1; of = is.of })

  -- the first item of a package's name is its first declaration
  pub first_top : (number : ℕ) (home : PackageKey) (name : List ℕ) (n : Named) → slice_get (homes_of h r) number ≡ Some home → IsFirstItem t.tops.items number name n → IsFirstTop h home name n.place.file n.of
  first_top number home name n at first =
      let d = are.tops.sound first.number n first.is.there in
      let home_is : d.home ≡ home = some_is d.home home (sym d.in_home ∙ ap (slice_get (homes_of h r)) first.is.is.scope_is ∙ at) in
      let top : IsTop h home name n.place.file n.of (place_of n.place) = subst (λ x. IsTop h home x n.place.file n.of (place_of n.place)) first.is.is.name_is (subst (λ x. IsTop h x n.name.now n.place.file n.of (place_of n.place)) home_is d.top) in
      record { place = place_of n.place; is = top; first = λ other node p is. ahead other node p is (are.tops.complete number home name other node p at is) }
    where
      ahead : (other node : ℕ) (p : Place) → IsTop h home name other node p → HasItem t.tops.items number name node p → (n.place.file < other) ⊎ ((n.place.file ≡ other) × (n.of ≤ node))
      ahead other node p is i =
          let file_is : i.item.place.file ≡ other = ap (λ x. x.file) i.place_is ∙ is.begins.in_file in
          elim (not_behind t.tops.items number name n first i.number i.item (at_item t.tops.items number name node p i)) [
            | inl low ↦ elim (are.tops.ordered first.number i.number n i.item low first.is.there i.there) [
              | inl l ↦ inl (omega (arith, l, file_is))
              | inr l ↦ inr (l.0 ∙ file_is, omega (arith, l.1, i.of_is))
            ]
            | inr same ↦ inr (ap (λ x. x.place.file) same ∙ file_is, omega (arith, ap (λ x. x.of) same, i.of_is))
          ]

  pub no_top : (number : ℕ) (home : PackageKey) (name : List ℕ) → slice_get (homes_of h r) number ≡ Some home → ((k : ℕ) (n : Named) → IsAt t.tops.items number name k n → ⊥) → (file node : ℕ) (place : Place) → IsTop h home name file node place → ⊥
  no_top number home name at none file node place is =
      let i = are.tops.complete number home name file node place at is in
      none i.number i.item (at_item t.tops.items number name node place i)

  pub first_import : (file : ℕ) (name : List ℕ) (n : Named) → IsFirstItem t.imports.items file name n → IsFirstImport h r file name n.of
  first_import file name n first =
      let s = are.imports.sound first.number n first.is.there in
      let scope = first.is.is.scope_is in
      record {
        import_ = s.import_;
        place = place_of n.place;
        there = s.there;
        file_is = s.file_is ∙ scope;
        is = subst (λ x. IsImported h file x s.import_.node s.import_.path (place_of n.place)) first.is.is.name_is (subst (λ x. IsImported h x n.name.now s.import_.node s.import_.path (place_of n.place)) scope s.is);
        first = λ node path p is. ahead node path p (are.imports.complete s.package_ file name node path p (subst (λ x. IsOfNumber h r x s.package_) scope s.of_package) is);
      }
    where
      ahead : (node : ℕ) (path : List ℕ) (p : Place) → HasImport t.imports.items r file name node path p → (are.imports.sound first.number n first.is.there).import_.node ≤ node
      ahead node path p i =
          let s = are.imports.sound first.number n first.is.there in
          elim (not_behind t.imports.items file name n first i.item.number i.item.item (at_item t.imports.items file name i.number p i.item)) [
            | inl low ↦
                let less : n.of < i.number = omega (arith, are.imports.ordered first.number i.item.number n i.item.item low first.is.there i.item.there, i.item.of_is) in
                omega (arith, imports_ascend r.survey.imports.items are.reach.survey.imports.ordered n.of i.number s.import_ i.import_ less s.there i.there (s.file_is ∙ first.is.is.scope_is ∙ sym i.file_is), i.node_is)
            | inr same ↦
                let at : n.of ≡ i.number = ap (λ x. x.of) same ∙ i.item.of_is in
                let one : s.import_ ≡ i.import_ = some_is s.import_ i.import_ (sym s.there ∙ ap (slice_get r.survey.imports.items) at ∙ i.there) in
                omega (arith, ap (λ w. w.node) one, i.node_is)
          ]

  pub no_import : (home : PackageKey) (file : ℕ) (name : List ℕ) → IsReachedFile h main home file → ((k : ℕ) (n : Named) → IsAt t.imports.items file name k n → ⊥) → (node : ℕ) (path : List ℕ) (place : Place) → IsImported h file name node path place → ⊥
  no_import home file name reached none node path place is =
      let k = are.reach.reached.complete home reached.reached in
      let i = are.imports.complete k.0 file name node path place (record { home = home; in_home = k.1; of = reached.of }) is in
      none i.item.number i.item.item (at_item t.imports.items file name i.number place i.item)

  pub names_found : (file : ℕ) (o : Option (Bor FileNames)) → IfSome o (λ n. slice_get t.files.items file ≡ Some (Some n.now)) → IfSome o (λ n. IsNamesOf h file n.now × ((number : ℕ) × IsOfNumber h r file number))
  names_found file None e = tt
  names_found file (Some n) e = are.files.there file n.now e

  pub no_names : (home : PackageKey) (file : ℕ) (o : Option (Bor FileNames)) → IfNone o ((n : FileNames) → slice_get t.files.items file ≡ Some (Some n) → ⊥) → IfNone o (IsReachedFile h main home file → ⊥)
  no_names home file (Some n) e = tt
  no_names home file None e = λ is. let n = names_of_reached home file is in e n.0 n.1
