-- Names that their scope has from an earlier place are those of the definition.
use Rattle.std.proofs.Common.{◌≡◌, ℕ, inl, inr, List, length, Option, Some, refl, sym, ap, ◌∙◌, subst}
use Rattle.std.specs.Prelude.{slice_get}
use Rattle.argot_names_rules.specs.declared.package_key.PackageKey.{PackageKey}
use Rattle.argot_names_rules.specs.Files.{SourceFiles, Place as Byte, IsBefore}
use Rattle.argot_names_rules.specs.Imports.{IsReached, IsReachedFile}
use Rattle.argot_names_rules.specs.PackageScope.{IsTop, IsImported}
use Rattle.argot_names_rules.specs.Faults.{IsRedeclared, in_package, in_file, import_behind, import_before, in_function}
use Rattle.argot_names_imports.proofs.Lists.{get_below}
use Rattle.argot_names_imports.specs.declared.reached.Reached.{Reached}
use Rattle.argot_names_imports.specs.Reached.{homes_of}
use Rattle.argot_names_imports.specs.Numbers.{IsOfNumber}
use Rattle.argot_names_tops.specs.declared.named.Named.{Named}
use Rattle.argot_files.specs.declared.place.Place.{Place}
use Rattle.argot_names_tops.specs.declared.tops.Tops.{Tops}
use Rattle.argot_files.specs.Places.{place_of}
use Rattle.argot_names_tops.specs.Collecting.{AreCollected}
use Rattle.argot_names_tops.specs.Declaring.{HasItem}
use Rattle.argot_names_tops.specs.Importing.{HasImport}
use Rattle.argot_names_scopes.specs.declared.file.FileNames.{FileNames}
use Rattle.argot_names_tops.specs.First.{NamesFirst, Either, sooner_of}
use Rattle.argot_names_tops.specs.Behind.{IsBehindBelow, GivesPackaged, IsAgainBelow}
use Rattle.argot_names_tops.specs.Tops.{AreTops}
use Rattle.argot_names_tops.proofs.FirstPlaces.{first_same, sooner_first}
use Rattle.argot_names_tops.proofs.TopLists.{one_number}

some_is : {A : Type 0} (x y : A) → Some x ≡ Some y → x ≡ y
some_is x y e = cc

-- two items of one list each, the one behind the other
behind : (items others : List Named) (scope : ℕ) (name : List ℕ) (a b : ℕ) (earlier place : Byte) → HasItem others scope name a earlier → HasItem items scope name b place → IsBefore earlier place → IsBehindBelow items others (length items) place
behind items others scope name a b earlier place o i before =
    record {
      number = i.number;
      item = i.item;
      below = get_below items i.number i.item i.there;
      there = i.there;
      behind = record {
        number = o.number;
        other = o.item;
        there = o.there;
        scope_is = o.scope_is ∙ sym i.scope_is;
        name_is = o.name_is ∙ sym i.name_is;
        before = subst (λ p. IsBefore p (place_of i.item.place)) (sym o.place_is) (subst (IsBefore earlier) (sym i.place_is) before);
        place_is = sym i.place_is;
      };
    }

module _ (h : SourceFiles) (main : List ℕ) (r : Reached) (t : Tops) (are : AreTops h main r t) (packaged : List Named) (by_package : AreCollected (GivesPackaged h r) t.imports.items (length t.imports.items) packaged) where
  -- a declaration of the package that has this number
  top_is : (number : ℕ) (home : PackageKey) (name : List ℕ) (k : ℕ) (n : Named) → slice_get t.tops.items k ≡ Some n → n.scope ≡ number → n.name.now ≡ name → slice_get (homes_of h r) number ≡ Some home → IsTop h home name n.place.file n.of (place_of n.place)
  top_is number home name k n at scope same in_home =
      let d = are.tops.sound k n at in
      let home_is : d.home ≡ home = some_is d.home home (sym d.in_home ∙ ap (slice_get (homes_of h r)) scope ∙ in_home) in
      subst (λ q. IsTop h q name n.place.file n.of (place_of n.place)) home_is (subst (λ x. IsTop h d.home x n.place.file n.of (place_of n.place)) same d.top)

  reached_file : (file number : ℕ) (of : IsOfNumber h r file number) → IsReachedFile h main of.home file
  reached_file file number of = record { reached = are.reach.reached.sound of.home (number, of.in_home); of = of.of }

  -- the name of an import in the file that has this number
  import_is : (file : ℕ) (name : List ℕ) (k : ℕ) (n : Named) (at : slice_get t.imports.items k ≡ Some n) → n.scope ≡ file → n.name.now ≡ name
      → let s = are.imports.sound k n at in IsImported h file name s.import_.node s.import_.path (place_of n.place)
  import_is file name k n at scope same =
      let s = are.imports.sound k n at in
      subst (λ f. IsImported h f name s.import_.node s.import_.path (place_of n.place)) scope (subst (λ x. IsImported h n.scope x s.import_.node s.import_.path (place_of n.place)) same s.is)

  of_tops : (p : Byte) → IsBehindBelow t.tops.items t.tops.items (length t.tops.items) p → IsRedeclared h main p
  of_tops p b =
      let d = are.tops.sound b.number b.item b.there in
      let o = b.behind in
      let top = top_is b.item.scope d.home b.item.name.now o.number o.other o.there o.scope_is o.name_is d.in_home in
      subst (IsRedeclared h main) (sym o.place_is) (in_package (are.reach.reached.sound d.home (b.item.scope, d.in_home)) top d.top o.before)

  of_imports : (p : Byte) → IsBehindBelow t.imports.items t.imports.items (length t.imports.items) p → IsRedeclared h main p
  of_imports p b =
      let s = are.imports.sound b.number b.item b.there in
      let o = b.behind in
      let other = import_is b.item.scope b.item.name.now o.number o.other o.there o.scope_is o.name_is in
      subst (IsRedeclared h main) (sym o.place_is) (in_file (reached_file b.item.scope s.package_ s.of_package) other s.is o.before)

  -- the import that a name by its package comes from
  record FromImport (n : Named) : Type 0 where
    file : ℕ
    node : ℕ
    path : List ℕ
    of_package : IsOfNumber h r file n.scope
    is : IsImported h file n.name.now node path (place_of n.place)

  from_import : (k : ℕ) (n : Named) → slice_get packaged k ≡ Some n → FromImport n
  from_import k n at =
      let g = by_package.sound k n at in
      let s = are.imports.sound g.number g.item g.there in
      record {
        file = g.item.scope;
        node = s.import_.node;
        path = s.import_.path;
        of_package = g.gives.of_package;
        is = subst (λ q. IsImported h g.item.scope n.name.now s.import_.node s.import_.path (place_of q)) (sym g.gives.place_is) (subst (λ x. IsImported h g.item.scope x s.import_.node s.import_.path (place_of g.item.place)) (sym g.gives.name_is) s.is);
      }

  of_behind : (p : Byte) → IsBehindBelow packaged t.tops.items (length packaged) p → IsRedeclared h main p
  of_behind p b =
      let m = from_import b.number b.item b.there in
      let o = b.behind in
      let top = top_is b.item.scope m.of_package.home b.item.name.now o.number o.other o.there o.scope_is o.name_is m.of_package.in_home in
      subst (IsRedeclared h main) (sym o.place_is) (import_behind (reached_file m.file b.item.scope m.of_package) top m.is o.before)

  of_before : (p : Byte) → IsBehindBelow t.tops.items packaged (length t.tops.items) p → IsRedeclared h main p
  of_before p b =
      let o = b.behind in
      let m = from_import o.number o.other o.there in
      let top = top_is o.other.scope m.of_package.home o.other.name.now b.number b.item b.there (sym o.scope_is) (sym o.name_is) m.of_package.in_home in
      subst (IsRedeclared h main) (sym o.place_is) (import_before (reached_file m.file o.other.scope m.of_package) m.is top o.before)

  of_function : (p : Byte) → IsAgainBelow h main (length t.files.items) p → IsRedeclared h main p
  of_function p b = let a = b.again in in_function a.reached a.brings a.named a.earlier a.begins

  abbrev OfAKind : Byte → Type 0
  OfAKind = Either (IsBehindBelow t.tops.items t.tops.items (length t.tops.items)) (IsBehindBelow t.imports.items t.imports.items (length t.imports.items))

  abbrev OfBoth : Byte → Type 0
  OfBoth = Either (IsBehindBelow packaged t.tops.items (length packaged)) (IsBehindBelow t.tops.items packaged (length t.tops.items))

  abbrev pub AllOf : Byte → Type 0
  AllOf = Either (Either OfAKind OfBoth) (IsAgainBelow h main (length t.files.items))

  sound : (p : Byte) → AllOf p → IsRedeclared h main p
  sound p (inl (inl (inl b))) = of_tops p b
  sound p (inl (inl (inr b))) = of_imports p b
  sound p (inl (inr (inl b))) = of_behind p b
  sound p (inl (inr (inr b))) = of_before p b
  sound p (inr b) = of_function p b

  number_of : (home : PackageKey) → IsReached h main home → (number : ℕ) × (slice_get (homes_of h r) number ≡ Some home)
  number_of home reached = are.reach.reached.complete home reached

  top_item : (number : ℕ) (home : PackageKey) (name : List ℕ) (file node : ℕ) (place : Byte) → slice_get (homes_of h r) number ≡ Some home → IsTop h home name file node place → HasItem t.tops.items number name node place
  top_item number home name file node place at top = are.tops.complete number home name file node place at top

  import_item : (number : ℕ) (home : PackageKey) (file : ℕ) (name : List ℕ) (node : ℕ) (path : List ℕ) (place : Byte) → slice_get (homes_of h r) number ≡ Some home → IsReachedFile h main home file → IsImported h file name node path place
      → HasImport t.imports.items r file name node path place
  import_item number home file name node path place at reached i = are.imports.complete number file name node path place (record { home = home; in_home = at; of = reached.of }) i

  -- the name of an import by its package
  packaged_item : (number file : ℕ) (name : List ℕ) (of : ℕ) (place : Byte) → IsOfNumber h r file number → HasItem t.imports.items file name of place → (k : ℕ) × HasItem packaged number name k place
  packaged_item number file name of place in_package_ i =
      let n : Named = record { scope = number; name = i.item.name; place = i.item.place; of = i.item.of } in
      let g = by_package.complete i.number i.item n (get_below t.imports.items i.number i.item i.there) i.there (record { name_is = refl; place_is = refl; of_package = subst (λ f. IsOfNumber h r f number) (sym i.scope_is) in_package_ }) in (
        g.name.of,
        record {
          number = g.place;
          item = g.name;
          there = g.there;
          scope_is = one_number h main r are.reach i.item.scope g.name.scope number g.gives.of_package (subst (λ f. IsOfNumber h r f number) (sym i.scope_is) in_package_);
          name_is = g.gives.name_is ∙ i.name_is;
          of_is = refl;
          place_is = ap place_of g.gives.place_is ∙ i.place_is;
        },
      )

  complete : (p : Byte) → IsRedeclared h main p → AllOf p
  complete p (in_package {home = home} {name = name} {file = file} {other = other} {node = node} {before = before} {earlier = earlier} reached a b precedes) =
      let k = number_of home reached in
      inl (inl (inl (behind t.tops.items t.tops.items k.0 name before node earlier p (top_item k.0 home name other before earlier k.1 a) (top_item k.0 home name file node p k.1 b) precedes)))
  complete p (in_file {home = home} {name = name} {path = path} {other_path = other_path} {file = file} {node = node} {before = before} {earlier = earlier} reached a b precedes) =
      let k = number_of home reached.reached in
      let x = import_item k.0 home file name before other_path earlier k.1 reached a in
      let y = import_item k.0 home file name node path p k.1 reached b in
      inl (inl (inr (behind t.imports.items t.imports.items file name x.number y.number earlier p x.item y.item precedes)))
  complete p (import_behind {home = home} {name = name} {path = path} {file = file} {other = other} {node = node} {before = before} {earlier = earlier} reached a b precedes) =
      let k = number_of home reached.reached in
      let y = import_item k.0 home file name node path p k.1 reached b in
      let z = packaged_item k.0 file name y.number p (record { home = home; in_home = k.1; of = reached.of }) y.item in
      inl (inr (inl (behind packaged t.tops.items k.0 name before z.0 earlier p (top_item k.0 home name other before earlier k.1 a) z.1 precedes)))
  complete p (import_before {home = home} {name = name} {path = path} {file = file} {other = other} {node = node} {before = before} {earlier = earlier} reached a b precedes) =
      let k = number_of home reached.reached in
      let x = import_item k.0 home file name before path earlier k.1 reached a in
      let z = packaged_item k.0 file name x.number earlier (record { home = home; in_home = k.1; of = reached.of }) x.item in
      inl (inr (inr (behind t.tops.items packaged k.0 name z.0 node earlier p z.1 (top_item k.0 home name other node p k.1 b) precedes)))
  complete p (in_function {home = home} {file = file} {node = node} {token = token} {opens = opens} {closes = closes} {from = from} reached brings named earlier begins) =
      let k = number_of home reached.reached in
      let n = are.files.all file k.0 (record { home = home; in_home = k.1; of = reached.of }) in
      inr (record {
        file = file;
        below = get_below t.files.items file (Some n.0) n.1;
        again = record { home = home; node = node; token = token; opens = opens; closes = closes; from = from; reached = reached; brings = brings; named = named; earlier = earlier; begins = begins };
      })

  pub first_redeclared : (o : Option Place) → NamesFirst AllOf o → NamesFirst (IsRedeclared h main) o
  first_redeclared o f = first_same AllOf (IsRedeclared h main) o sound complete f

  -- the first of all of them
  pub first_all : (ts us vs ps : List Named) (fs : List (Option FileNames)) → ts ≡ t.tops.items → us ≡ t.imports.items → vs ≡ t.tops.items → ps ≡ packaged → fs ≡ t.files.items → (one both inner : Option Place)
      → NamesFirst (Either (IsBehindBelow ts ts (length ts)) (IsBehindBelow us us (length us))) one
      → NamesFirst (Either (IsBehindBelow ps vs (length ps)) (IsBehindBelow vs ps (length vs))) both
      → NamesFirst (IsAgainBelow h main (length fs)) inner
      → NamesFirst (IsRedeclared h main) (sooner_of (sooner_of one both) inner)
  first_all ts us vs ps fs e0 e1 e2 e3 e4 one both inner f g k =
      let f1 = subst (λ xs. NamesFirst (Either (IsBehindBelow xs xs (length xs)) (IsBehindBelow us us (length us))) one) e0 f in
      let f2 = subst (λ xs. NamesFirst (Either (IsBehindBelow t.tops.items t.tops.items (length t.tops.items)) (IsBehindBelow xs xs (length xs))) one) e1 f1 in
      let g1 = subst (λ xs. NamesFirst (Either (IsBehindBelow ps xs (length ps)) (IsBehindBelow xs ps (length xs))) both) e2 g in
      let g2 = subst (λ xs. NamesFirst (Either (IsBehindBelow xs t.tops.items (length xs)) (IsBehindBelow t.tops.items xs (length t.tops.items))) both) e3 g1 in
      let k1 = subst (λ xs. NamesFirst (IsAgainBelow h main (length xs)) inner) e4 k in
      first_redeclared (sooner_of (sooner_of one both) inner)
      (sooner_first (Either OfAKind OfBoth) (IsAgainBelow h main (length t.files.items)) (sooner_of one both) inner (sooner_first OfAKind OfBoth one both f2 g2) k1)
