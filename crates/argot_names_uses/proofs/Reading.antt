-- The uses are read off the table by node.
use Rattle.std.proofs.Common.{◌≡◌, ℕ, ◌+◌, ◌<◌, ◌∷◌, ◌++◌, [], List, Option, Some, inl, inr, sym, ◌∙◌, subst, arith}
use Rattle.std.specs.Prelude.{◌⊎◌, slice_get}
use Rattle.std.proofs.lemmas.Bool.{cases_eq}
use Rattle.argot_typed.specs.declared.program.Decl.{Decl}
use Rattle.argot_typed.specs.declared.program.Use.{Use}
use Rattle.argot_names_rules.specs.declared.package_key.PackageKey.{PackageKey}
use Rattle.argot_names_rules.specs.Files.{SourceFiles}
use Rattle.argot_names_rules.specs.Lists.{IsListOf}
use Rattle.argot_names_rules.specs.Loaded.{IsUse}
use Rattle.argot_names_imports.proofs.Lists.{list_none, list_same, list_more}
use Rattle.argot_names_uses.specs.UseTables.{use_by, IsTable, UsesBelow}
use Rattle.argot_names_uses.proofs.Numbering.{some_is}

abbrev ByNode : Use → Use → Type 0
ByNode a b = a.node < b.node

module _ (h : SourceFiles) (homes : List PackageKey) (decls : List Decl) where
  abbrev Below : ℕ → Use → Type 0
  Below count u = IsUse h homes decls u × (u.node < count)

  pub below_none : (uses : List Use) → uses ≡ [] → UsesBelow h homes decls 0 uses
  below_none uses e = subst (UsesBelow h homes decls 0) (sym e) (list_none ByNode (Below 0) (λ u i. absurd (omega (arith, i.1))))

  module _ (count : ℕ) (table : List (Option ℕ)) (is : IsTable h homes decls count table) where
    up : (k : ℕ) (u : Use) → Below k u → Below (k + 1) u
    up k u i = (i.0, omega (arith, i.1))

    -- the node stands for nothing
    pub below_same : (k : ℕ) (uses new : List Use) → UsesBelow h homes decls k uses → ((d : ℕ) → slice_get table k ≡ Some (Some d) → ⊥) → new ≡ uses → UsesBelow h homes decls (k + 1) new
    below_same k uses new below none e = subst (UsesBelow h homes decls (k + 1)) (sym e) (list_same ByNode (Below k) (Below (k + 1)) uses below (up k) down)
      where
        down : (u : Use) → Below (k + 1) u → Below k u
        down u i =
            elim (cases_eq u.node k) [
              | inl same ↦ absurd (none u.decl (subst (λ x. slice_get table x ≡ Some (Some u.decl)) same (is.complete u i.0).1))
              | inr apart ↦ (i.0, omega (arith, i.1, apart))
            ]

    -- it stands for this
    pub below_more : (k d : ℕ) (uses new : List Use) → UsesBelow h homes decls k uses → slice_get table k ≡ Some (Some d) → new ≡ uses ++ use_by k d ∷ [] → UsesBelow h homes decls (k + 1) new
    below_more k d uses new below at e =
        subst (UsesBelow h homes decls (k + 1)) (sym e) (list_more ByNode (Below k) (Below (k + 1)) uses (use_by k d) below (is.sound k d at, omega arith) (λ y i. i.1) (up k) from)
      where
        from : (u : Use) → Below (k + 1) u → Below k u ⊎ (u ≡ use_by k d)
        from u i =
            elim (cases_eq u.node k) [
              | inl same ↦
                  let own : u.decl ≡ d = some_is u.decl d (some_is (Some u.decl) (Some d) (sym (subst (λ x. slice_get table x ≡ Some (Some u.decl)) same (is.complete u i.0).1) ∙ at)) in
                  inr (λ j. record { node = same j; decl = own j })
              | inr apart ↦ inl (i.0, omega (arith, i.1, apart))
            ]

    -- all nodes have been gone over
    pub below_all : (k : ℕ) (uses : List Use) → k ≡ count → UsesBelow h homes decls k uses → IsListOf ByNode (IsUse h homes decls) uses
    below_all k uses e below = list_same ByNode (Below k) (IsUse h homes decls) uses below (λ u i. i.0) (λ u i. (i, omega (arith, e, (is.complete u i).0)))
