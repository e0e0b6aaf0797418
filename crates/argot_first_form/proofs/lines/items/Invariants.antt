use Rattle.std.proofs.Common.{◌≡◌, []}
use Rattle.argot_first_form.specs.Reading.{items}
use Rattle.argot_first_form.proofs.lines.items.Given as goal

abbrev pub invariant-loop-fuel : goal.invariant-loop-fuel
invariant-loop-fuel l = items l.fuel l.functions l.reader ≡ items l.fn.reader.total [] l.fn.reader

abbrev pub decreases-loop-fuel : goal.decreases-loop-fuel
decreases-loop-fuel l = l.fuel
