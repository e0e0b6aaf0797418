-- What a package exports under a name.
use Rattle.std.proofs.Common.{ℕ, List, Option, Some, None, subst}
use Rattle.std.specs.Prelude.{IfSome, IfNone}
use Rattle.argot_names_rules.specs.declared.package_key.PackageKey.{PackageKey}
use Rattle.argot_names_rules.specs.Files.{SourceFiles, Place}
use Rattle.argot_names_rules.specs.Packages.{Finds}
use Rattle.argot_names_rules.specs.Imports.{Edge, onward, IsReached}
use Rattle.argot_names_rules.specs.PackageScope.{IsTop, IsExported}
use Rattle.argot_names_imports.specs.declared.written.Written.{Written}
use Rattle.argot_names_imports.proofs.Surveys.{finds_one}
use Rattle.argot_names_imports.specs.declared.reached.Reached.{Reached}
use Rattle.argot_names_imports.specs.Reached.{IsReach}
use Rattle.argot_names_tops.specs.declared.tops.PackageDecl.{PackageDecl}
use Rattle.argot_names_tops.specs.Meant.{IsFirstTop}
use Rattle.argot_names_uses.specs.Members.{IsImportOf, IsMemberMeant, some, nothing}

-- what an import of a reached file finds is reached
pub found_reached : (h : SourceFiles) (main : List ℕ) (r : Reached) (number : ℕ) (w : Written) (target : PackageKey) → IsReach h main r → IsImportOf h main r number w → Finds h w.path target → IsReached h main target
found_reached h main r number w target reach is finds =
    let written = reach.survey.imports.sound w (number, is.there) in
    let edge : Edge h is.home w.file w.at target = record { of = is.reached.of; node = w.node; path_at = w.path_at; alias = w.alias; path = w.path; imports = written; finds = finds } in
    record { there = is.reached.reached.there; leads = onward is.reached.reached.leads edge }

module _ (h : SourceFiles) (path name : List ℕ) where
  pub not_exported : (IsExported name → ⊥) → IsMemberMeant h path name None
  not_exported none = nothing (λ other node m. none m.exported)

  pub no_target : ((target : PackageKey) → Finds h path target → ⊥) → IsMemberMeant h path name None
  no_target none = nothing (λ other node m. none m.target m.finds)

  pub in_target : (target : PackageKey) (result : Option PackageDecl) → Finds h path target → IsExported name → IfSome result (λ (t : PackageDecl). IsFirstTop h target name t.file t.node)
      → ((file node : ℕ) (place : Place) → IfNone result (IsTop h target name file node place → ⊥)) → IsMemberMeant h path name result
  in_target target None finds exported there none =
      nothing (λ other node m. none other node m.place (subst (λ x. IsTop h x name other node m.place) (finds_one h path m.target target m.finds finds) m.top))
  in_target target (Some top) finds exported there none =
      some (record { target = target; place = there.place; finds = finds; top = there.is; least = there.first; exported = exported })
      (λ other node m. there.first other node m.place (subst (λ x. IsTop h x name other node m.place) (finds_one h path m.target target m.finds finds) m.top))
