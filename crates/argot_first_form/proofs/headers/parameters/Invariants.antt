use Rattle.std.proofs.Common.{◌≡◌, []}
use Rattle.argot_first_form.specs.Reading.{parameters}
use Rattle.argot_first_form.proofs.headers.parameters.Given as goal

abbrev pub invariant-loop-fuel : goal.invariant-loop-fuel
invariant-loop-fuel l = parameters l.fuel l.names l.reader ≡ parameters l.fn.reader.total [] l.fn.reader

abbrev pub decreases-loop-fuel : goal.decreases-loop-fuel
decreases-loop-fuel l = l.fuel
