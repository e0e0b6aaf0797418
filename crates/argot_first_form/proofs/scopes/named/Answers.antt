use Rattle.std.proofs.Common.{sym, ◌∙◌}
use Rattle.argot_first_form.proofs.Tables.{found_there}
use Rattle.argot_first_form.proofs.scopes.named.Goals as goal

pub returns-in-Some : goal.returns-in-Some
returns-in-Some c = c.at.ensures ∙ found_there c.args.scope.now.numbers c.args.scope.now.functions.now c.requires c.args.name.now c.in-Some.i (sym c.number_of.ensures ∙ c.in-Some.is)
