use Rattle.std.proofs.Common.{length, ap, ◌∙◌}
use Rattle.std.specs.Prelude.{unwrap_or}
use Rattle.argot_first.proofs.Numbers.{variable-is}
use Rattle.argot_first.proofs.lowering.variable.Goals as goal

pub returns : goal.returns
returns c = c.unwrap_or.ensures ∙ (ap (λ o. unwrap_or o (length c.args.tables.now.steps.now)) c.number_of.ensures ∙ variable-is c.args.tables.now.variables c.args.tables.now.steps.now c.requires c.args.name.now)
