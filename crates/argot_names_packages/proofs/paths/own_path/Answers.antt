use Rattle.std.proofs.Common.{sym, ◌∙◌, subst}
use Rattle.argot_names_rules.specs.Packages.{FolderPath, inner}
use Rattle.argot_names_imports.proofs.Options.{ok_map}
use Rattle.argot_names_packages.proofs.PackagePaths.{some_length}
use Rattle.argot_names_packages.proofs.paths.own_path.Goals as goal

pub returns-else-is_empty : goal.returns-else-is_empty
returns-else-is_empty c =
    ok_map c.inner_path.result _ _ (λ t e. subst (FolderPath c.args.module.now c.args.folder.now) (sym e) (inner (some_length c.args.folder.now (sym c.is_empty.ensures ∙ c.if-is_empty.false)) c.requires)) c.inner_path.ensures
