use Rattle.argot_check_asking.proofs.Unique.{one_fact}
use Rattle.argot_check_types.specs.Facts.{is_typed}
use Rattle.argot_check_typing.specs.Rules.{rules}
use Rattle.argot_check_typing.proofs.laws.one_typing.Goals as goal

pub returns : goal.returns
returns c code row f g = one_fact is_typed (rules code)
