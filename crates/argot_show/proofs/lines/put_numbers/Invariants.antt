use Rattle.std.proofs.Common.{◌≡◌, true, drop}
use Rattle.argot_show.specs.Lines.{numbers_onto}
use Rattle.argot_show.proofs.lines.put_numbers.Given as goal

abbrev pub invariant-loop-n : goal.invariant-loop-n
invariant-loop-n l = numbers_onto l.text.items l.first (drop l.n-index l.numbers) ≡ numbers_onto l.fn.text.items true l.numbers
