use Rattle.std.proofs.Common.{◌≡◌, ℕ, ◌<◌, get_or, true}
use Rattle.argot_names_module.specs.Lines.{is_decimal}
use Rattle.argot_names_module.proofs.numbers.digits_len.Given as goal

abbrev pub invariant-loop-i : goal.invariant-loop-i
invariant-loop-i l = (k : ℕ) → k < l.i → is_decimal (get_or l.text k 0) ≡ true
