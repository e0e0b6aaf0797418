use Rattle.std.proofs.Common.{◌≡◌, ℕ, ◌<◌, get_or, true}
use Rattle.argot_names_rules.specs.GoMod.{is_quote}
use Rattle.argot_names_module.proofs.quotes.quotes_len.Given as goal

abbrev pub invariant-loop-i : goal.invariant-loop-i
invariant-loop-i l = (k : ℕ) → k < l.i → is_quote (get_or l.text k 0) ≡ true
