use Rattle.std.proofs.Common.{sym, ◌∙◌}
use Rattle.argot_first_form.proofs.Tables.{known}
use Rattle.argot_first_form.proofs.conditions.has_name.Goals as goal

pub returns : goal.returns
returns c = c.knows.ensures ∙ sym (known c.args.scope.now.numbers c.args.scope.now.functions.now c.requires c.args.name.now)
