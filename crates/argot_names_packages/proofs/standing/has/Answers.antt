use Rattle.std.proofs.Common.{sym, ◌∙◌}
use Rattle.argot_names_imports.proofs.Positions.{not_any}
use Rattle.argot_names_packages.proofs.Led.{any_in}
use Rattle.argot_names_packages.proofs.standing.has.Goals as goal

pub returns-clause-yes : goal.returns-clause-yes
returns-clause-yes c = λ e. any_in c.args.number c.args.numbers.now.keys (sym c.contains.ensures ∙ e)

pub returns-clause-no : goal.returns-clause-no
returns-clause-no c = λ e. not_any c.args.number c.args.numbers.now.keys (sym c.contains.ensures ∙ e)
