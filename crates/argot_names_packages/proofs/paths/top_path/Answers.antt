use Rattle.std.proofs.Common.{sym, ◌∙◌}
use Rattle.argot_names_rules.specs.Packages.{top, top_of_none}
use Rattle.argot_names_packages.proofs.PackagePaths.{no_length, some_length}
use Rattle.argot_names_packages.proofs.paths.top_path.Goals as goal

pub returns-then-is_empty : goal.returns-then-is_empty
returns-then-is_empty c = top_of_none (no_length c.args.module.now (sym c.is_empty.ensures ∙ c.if-is_empty.true))

pub returns-else-is_empty : goal.returns-else-is_empty
returns-else-is_empty c = top (some_length c.args.module.now (sym c.is_empty.ensures ∙ c.if-is_empty.false))
