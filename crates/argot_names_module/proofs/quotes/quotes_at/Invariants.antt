use Rattle.std.proofs.Common.{◌≡◌, ℕ, ◌≤◌, true, length}
use Rattle.std.specs.Prelude.{slice_get, Some}
use Rattle.argot_names_rules.specs.GoMod.{is_quote}
use Rattle.argot_names_module.proofs.quotes.quotes_at.Given as goal

abbrev pub invariant-loop-at : goal.invariant-loop-at
invariant-loop-at l = record {
  within : l.at ≤ length l.text;
  quotes : (k b : ℕ) → l.at ≤ k → slice_get l.text k ≡ Some b → is_quote b ≡ true;
}

abbrev pub decreases-loop-at : goal.decreases-loop-at
decreases-loop-at l = l.at
