use Rattle.std.proofs.Common.{◌≡◌, ℕ, ◌<◌, get_or, true}
use Rattle.argot_names_rules.specs.GoMod.{separates}
use Rattle.argot_names_module.proofs.words.blank_len.Given as goal

abbrev pub invariant-loop-i : goal.invariant-loop-i
invariant-loop-i l = (k : ℕ) → k < l.i → separates (get_or l.text k 0) ≡ true
