use Rattle.std.proofs.Common.{◌≡◌}
use Rattle.argot_first_form.specs.Reading.{body}
use Rattle.argot_first_form.proofs.statements.body.Given as goal

abbrev pub invariant-loop-fuel : goal.invariant-loop-fuel
invariant-loop-fuel l = body l.fuel l.reader ≡ body l.fn.reader.total l.fn.reader

abbrev pub decreases-loop-fuel : goal.decreases-loop-fuel
decreases-loop-fuel l = l.fuel
