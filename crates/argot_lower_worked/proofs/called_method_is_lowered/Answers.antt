use Rattle.argot_lower_worked.proofs.CalledMethodCode.{lowered, named}
use Rattle.argot_lower_worked.proofs.called_method_is_lowered.Goals as goal

pub returns-clause-code : goal.returns-clause-code
returns-clause-code c = lowered

pub returns-clause-names : goal.returns-clause-names
returns-clause-names c = named
