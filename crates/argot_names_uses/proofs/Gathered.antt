-- Lists of items joined, file by file.
use Rattle.std.proofs.Common.{◌≡◌, ℕ, ◌+◌, ◌++◌, [], List, length, Option, Some, inl, inr, sym, subst, arith}
use Rattle.std.proofs.lemmas.Bool.{cases_eq}
use Rattle.argot_names_rules.specs.declared.package_key.PackageKey.{PackageKey}
use Rattle.argot_names_rules.specs.Files.{SourceFiles}
use Rattle.argot_names_rules.specs.Imports.{IsReachedFile}
use Rattle.argot_names_rules.specs.Loaded.{Declares}
use Rattle.argot_names_imports.proofs.Lists.{get_below, nothing_in}
use Rattle.argot_names_scopes.specs.declared.file.FileNames.{FileNames}
use Rattle.argot_names_imports.specs.declared.reached.Reached.{Reached}
use Rattle.argot_names_imports.specs.Reached.{IsReach}
use Rattle.argot_names_imports.specs.Numbers.{IsOfNumber}
use Rattle.argot_names_tops.specs.Tops.{AreFiles}
use Rattle.argot_names_uses.specs.declared.item.Item.{Item}
use Rattle.argot_names_uses.specs.Items.{Claim, Either, OfFile, Before, IsTopIn, IsNewIn, IsImportIn, NamesIn, AreItems}
use Rattle.argot_names_uses.proofs.Giving.{items_same, items_joined}
use Rattle.argot_names_uses.proofs.OneName.{to_claim, from_claim}

module _ (h : SourceFiles) (r : Reached) where
  -- the names of one file
  pub own_joined : (file : ℕ) (items more new : List Item) → AreItems h r (OfFile file (IsTopIn h)) items → AreItems h r (OfFile file (IsNewIn h)) more → new ≡ items ++ more → AreItems h r (OfFile file (NamesIn h)) new
  own_joined file items more new are and e =
      items_same h r (Either (OfFile file (IsTopIn h)) (OfFile file (IsNewIn h))) (OfFile file (NamesIn h)) new
      (λ f owner node name of d. to f node name d) (λ f owner node name of d. from f node name d)
      (items_joined h r (OfFile file (IsTopIn h)) (OfFile file (IsNewIn h)) items more new are and e)
    where
      to : (f node : ℕ) (name : List ℕ) → Either (OfFile file (IsTopIn h)) (OfFile file (IsNewIn h)) f node name → OfFile file (NamesIn h) f node name
      to f node name (inl d) = (d.0, inl d.1)
      to f node name (inr d) = (d.0, inr d.1)

      split : (f node : ℕ) (name : List ℕ) → f ≡ file → NamesIn h f node name → Either (OfFile file (IsTopIn h)) (OfFile file (IsNewIn h)) f node name
      split f node name at (inl d) = inl (at, d)
      split f node name at (inr d) = inr (at, d)

      from : (f node : ℕ) (name : List ℕ) → OfFile file (NamesIn h) f node name → Either (OfFile file (IsTopIn h)) (OfFile file (IsNewIn h)) f node name
      from f node name d = split f node name d.0 d.1

  -- a file of no package
  pub declared_nowhere : (main : List ℕ) (is : IsReach h main r) (D : Claim) (file : ℕ) (items : List Item) → items ≡ [] → ((home : PackageKey) → IsReachedFile h main home file → ⊥) → AreItems h r (OfFile file D) items
  declared_nowhere main is D file items e none =
      subst (AreItems h r (OfFile file D)) (sym e)
      (record {
        sound = λ item i. absurd (nothing_in item i);
        complete = λ owner number name d.
            let of = subst (λ f. IsOfNumber h r f owner) d.declares.0 d.of in
            absurd (none of.home (record { reached = is.reached.sound of.home (owner, of.in_home); of = of.of }));
      })

  -- imports alone
  pub all_begun : (items : List Item) → AreItems h r (IsImportIn h) items → AreItems h r (Either (IsImportIn h) (Before 0 (NamesIn h))) items
  all_begun items are =
      items_same h r (IsImportIn h) (Either (IsImportIn h) (Before 0 (NamesIn h))) items (λ f owner node name of d. inl d) (λ f owner node name of d. from f node name d) are
    where
      from : (f node : ℕ) (name : List ℕ) → Either (IsImportIn h) (Before 0 (NamesIn h)) f node name → IsImportIn h f node name
      from f node name (inl d) = d
      from f node name (inr d) = absurd (omega (arith, d.0))

  -- and one file more
  pub all_more : (file : ℕ) (items more new : List Item) → AreItems h r (Either (IsImportIn h) (Before file (NamesIn h))) items → AreItems h r (OfFile file (NamesIn h)) more → new ≡ items ++ more
      → AreItems h r (Either (IsImportIn h) (Before (file + 1) (NamesIn h))) new
  all_more file items more new are and e =
      items_same h r (Either (Either (IsImportIn h) (Before file (NamesIn h))) (OfFile file (NamesIn h))) (Either (IsImportIn h) (Before (file + 1) (NamesIn h))) new
      (λ f owner node name of d. to f node name d) (λ f owner node name of d. from f node name d)
      (items_joined h r (Either (IsImportIn h) (Before file (NamesIn h))) (OfFile file (NamesIn h)) items more new are and e)
    where
      to : (f node : ℕ) (name : List ℕ) → Either (Either (IsImportIn h) (Before file (NamesIn h))) (OfFile file (NamesIn h)) f node name → Either (IsImportIn h) (Before (file + 1) (NamesIn h)) f node name
      to f node name (inl (inl d)) = inl d
      to f node name (inl (inr d)) = inr (omega (arith, d.0), d.1)
      to f node name (inr d) = inr (omega (arith, d.0), d.1)

      from : (f node : ℕ) (name : List ℕ) → Either (IsImportIn h) (Before (file + 1) (NamesIn h)) f node name → Either (Either (IsImportIn h) (Before file (NamesIn h))) (OfFile file (NamesIn h)) f node name
      from f node name (inl d) = inl (inl d)
      from f node name (inr d) = elim (cases_eq f file) [ inl e ↦ inr (e, d.1) | inr apart ↦ inl (inr (omega (arith, d.0, apart), d.1)) ]

  -- all files
  pub all_done : (files : List (Option FileNames)) (count : ℕ) (items : List Item) → AreFiles h r files → length files ≡ count → AreItems h r (Either (IsImportIn h) (Before count (NamesIn h))) items → AreItems h r (Declares h) items
  all_done files count items known long are =
      items_same h r (Either (IsImportIn h) (Before count (NamesIn h))) (Declares h) items (λ f owner node name of d. to f node name d) (λ f owner node name of d. from f owner node name of (to_claim h f node name d)) are
    where
      to : (f node : ℕ) (name : List ℕ) → Either (IsImportIn h) (Before count (NamesIn h)) f node name → Declares h f node name
      to f node name (inl d) = from_claim h f node name (inr d)
      to f node name (inr d) = from_claim h f node name (inl d.1)

      from : (f owner node : ℕ) (name : List ℕ) → IsOfNumber h r f owner → Either (NamesIn h) (IsImportIn h) f node name → Either (IsImportIn h) (Before count (NamesIn h)) f node name
      from f owner node name of (inr d) = inl d
      from f owner node name of (inl d) = let n = known.all f owner of in inr (omega (arith, get_below files f (Some n.0) n.1, long), d)
