-- The number of each status.
use Rattle.std.specs.Prelude.{ℕ}
use Rattle.argot_run.specs.declared.status.Status.{Status}
use Rattle.argot_run.specs.declared.status.Status.TheVariants.{Clean, Found, Refused, Unsupported, Bound, ReadFault, WriteFault, Memory}

abbrev pub code_of : Status → ℕ
code_of Clean = 0
code_of Found = 1
code_of Refused = 2
code_of Unsupported = 3
code_of Bound = 4
code_of ReadFault = 5
code_of WriteFault = 6
code_of Memory = 7
