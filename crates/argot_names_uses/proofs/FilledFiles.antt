-- The table of uses, file by file.
use Rattle.std.proofs.Common.{◌≡◌, ℕ, zero, suc, ◌+◌, List, length, replicate, Option, Some, None, inl, inr, sym, ◌∙◌, subst, arith}
use Rattle.std.specs.Prelude.{slice_get}
use Rattle.std.proofs.lemmas.Bool.{cases_eq}
use Rattle.std.proofs.lemmas.List.{length-replicate}
use Rattle.argot_typed.specs.declared.program.Decl.{Decl}
use Rattle.argot_names_rules.specs.declared.package_key.PackageKey.{PackageKey}
use Rattle.argot_names_rules.specs.Files.{SourceFiles}
use Rattle.argot_names_rules.specs.Packages.{IsFileOf}
use Rattle.argot_names_rules.specs.Imports.{IsReachedFile}
use Rattle.argot_names_rules.specs.Loaded.{count_nodes}
use Rattle.argot_names_rules.specs.Uses.{StandsFor}
use Rattle.argot_names_imports.proofs.Lists.{get_below}
use Rattle.argot_names_scopes.specs.declared.file.FileNames.{FileNames}
use Rattle.argot_names_imports.specs.declared.reached.Reached.{Reached}
use Rattle.argot_names_imports.specs.Reached.{homes_of}
use Rattle.argot_names_tops.specs.declared.tops.Tops.{Tops}
use Rattle.argot_names_tops.specs.Tops.{IsNamesOf, AreTops}
use Rattle.argot_names_uses.proofs.NumberedNodes.{number_below}
use Rattle.argot_names_uses.specs.UseTables.{IsFilled, FilesBefore, Seen, IsTable}
use Rattle.argot_names_uses.proofs.NodeMeanings.{stands_there}
use Rattle.argot_names_uses.proofs.Filled.{filled_onto}
use Rattle.argot_names_uses.proofs.Gone.{seen_none, all_seen}

nothing_at : (n k : ℕ) (p : ℕ) → slice_get (replicate {A = Option ℕ} n None) k ≡ Some (Some p) → ⊥
nothing_at zero k p e = absurd (cc)
nothing_at (suc n) zero p e = absurd (cc)
nothing_at (suc n) (suc k) p e = nothing_at n k p e

module _ (h : SourceFiles) (r : Reached) (decls : List Decl) where
  -- nothing yet
  pub filled_begun : (count : ℕ) (table : List (Option ℕ)) → count ≡ count_nodes h.trees → table ≡ replicate count None → IsFilled h r decls (FilesBefore 0) table
  filled_begun count table all e =
      subst (IsFilled h r decls (FilesBefore 0)) (sym e)
      (record { as_long = length-replicate count None ∙ all; sound = λ m d f. absurd (nothing_at count m d f); complete = λ u is low. absurd (omega (arith, low)) })

  -- a file whose names are known
  pub file_begun : (n : FileNames) (file : ℕ) (table : List (Option ℕ)) → IsFilled h r decls (FilesBefore file) table → IsFilled h r decls (Seen n file 0 0 0) table
  file_begun n file table filled = filled_onto h r decls (FilesBefore file) (Seen n file 0 0 0) table filled (λ u is g. seen_none n file is.file is.node g)

  pub file_filled : (n : FileNames) (file : ℕ) (table : List (Option ℕ)) → IsNamesOf h file n → IsFilled h r decls (Seen n file (length n.bindings.looked.items) (length n.bindings.dotted.items) (length n.bindings.brought.items)) table → IsFilled h r decls (FilesBefore (file + 1)) table
  file_filled n file table names filled =
      filled_onto h r decls (Seen n file (length n.bindings.looked.items) (length n.bindings.dotted.items) (length n.bindings.brought.items)) (FilesBefore (file + 1)) table filled (λ u is low.
      elim (cases_eq is.file file) [
        | inl same ↦ inr (same, all_seen h is.home file n names is.node is.meant (subst (λ f. StandsFor h is.home f is.node is.meant) same is.stands))
        | inr apart ↦ inl (omega (arith, low, apart))
      ])

  -- a file of no package
  pub file_passed : (main : List ℕ) (t : Tops) (file : ℕ) (table : List (Option ℕ)) → AreTops h main r t → ((home : PackageKey) → IsReachedFile h main home file → ⊥) → IsFilled h r decls (FilesBefore file) table → IsFilled h r decls (FilesBefore (file + 1)) table
  file_passed main t file table tops none filled =
      filled_onto h r decls (FilesBefore file) (FilesBefore (file + 1)) table filled (λ u is low.
      elim (cases_eq is.file file) [
        | inl same ↦ absurd (none is.home (record { reached = tops.reach.reached.sound is.home (is.number, is.in_home); of = subst (IsFileOf h is.home) same is.of }))
        | inr apart ↦ omega (arith, low, apart)
      ])

  -- all files
  pub files_filled : (main : List ℕ) (t : Tops) (files count : ℕ) (table : List (Option ℕ)) → AreTops h main r t → files ≡ length t.files.items → count ≡ count_nodes h.trees → IsFilled h r decls (FilesBefore files) table → IsTable h (homes_of h r) decls count table
  files_filled main t files count table tops e all filled =
      record {
        sound = filled.sound;
        complete = λ u is.
            let n = stands_there h is.home is.file is.node is.meant is.stands in
            let names = tops.files.all is.file is.number (record { home = is.home; in_home = is.in_home; of = is.of }) in
            (omega (arith, is.node_is, number_below h is.file is.node n.0 n.1, all), filled.complete u is (omega (arith, get_below t.files.items is.file (Some names.0) names.1, e)));
      }
