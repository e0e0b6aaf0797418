use Rattle.argot_check_asking.proofs.Looping.{no_fact}
use Rattle.argot_check_types.specs.Facts.{is_typed}
use Rattle.argot_check_typing.specs.Rules.{rules}
use Rattle.argot_check_typing.proofs.laws.no_fact_on_loops.Goals as goal

pub returns : goal.returns
returns c code row f = no_fact is_typed (rules code)
