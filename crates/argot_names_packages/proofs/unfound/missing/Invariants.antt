use Rattle.argot_names_packages.specs.Missing.{IsMissingAt}
use Rattle.argot_names_packages.specs.Spots.{IsLeast, IsBelow}
use Rattle.argot_names_packages.proofs.unfound.missing.Given as goal

abbrev pub invariant-loop-k : goal.invariant-loop-k
invariant-loop-k l = IsLeast (IsBelow (IsMissingAt l.survey l.lexed) l.k) l.least
