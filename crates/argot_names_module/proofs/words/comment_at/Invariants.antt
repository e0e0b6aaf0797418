use Rattle.std.proofs.Common.{◌≡◌, ℕ, ◌<◌, drop, false}
use Rattle.std.specs.Prelude.{nat_eq, codes}
use Rattle.std.specs.List.{starts_with}
use Rattle.argot_names_module.proofs.words.comment_at.Given as goal

abbrev pub invariant-loop-i : goal.invariant-loop-i
invariant-loop-i l = (k : ℕ) → k < l.i → starts_with nat_eq (drop k l.line) (codes "//") ≡ false
