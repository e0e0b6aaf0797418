-- The declarations of predeclared names, one after the other.
use Rattle.std.proofs.Common.{◌≡◌, ℕ, ◌+◌, ◌∷◌, ◌++◌, [], List, take, Some, sym, ap, ◌∙◌}
use Rattle.std.specs.Prelude.{map, slice_get}
use Rattle.argot_typed.specs.declared.program.Decl.{Decl}
use Rattle.argot_names_rules.specs.Loaded.{predeclared_decl}
use Rattle.argot_names_rules.specs.Universe.{predeclared}
use Rattle.argot_names_imports.proofs.Lists.{map_one}

pub names_more : (k : ℕ) (name : List ℕ) (d : Decl) (decls new : List Decl) → slice_get predeclared k ≡ Some name → d ≡ predeclared_decl name → decls ≡ map predeclared_decl (take k predeclared) → new ≡ decls ++ d ∷ []
    → new ≡ map predeclared_decl (take (k + 1) predeclared)
names_more k name d decls new there is so_far e =
    e ∙ (ap (λ x. decls ++ x ∷ []) is ∙ (ap (λ ds. ds ++ predeclared_decl name ∷ []) so_far ∙ sym (map_one predeclared_decl predeclared k name there)))

pub names_all : (k : ℕ) (decls : List Decl) → k ≡ 44 → decls ≡ map predeclared_decl (take k predeclared) → decls ≡ map predeclared_decl predeclared
names_all k decls e is = is ∙ ap (λ n. map predeclared_decl (take n predeclared)) e
