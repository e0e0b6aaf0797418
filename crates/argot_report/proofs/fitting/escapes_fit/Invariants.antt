use Rattle.std.proofs.Common.{◌≡◌, ℕ, ◌<◌, Some, List}
use Rattle.std.specs.Prelude.{slice_get}
use Rattle.argot_facts.specs.declared.findings.EscapePair.{EscapePair}
use Rattle.argot_facts.specs.declared.findings.Flow.{Flow}
use Rattle.argot_facts.specs.declared.findings.Hop.{Hop}
use Rattle.argot_facts.specs.declared.findings.Origin.{Origin}
use Rattle.argot_report.proofs.fitting.escapes_fit.Given as goal

abbrev pub invariant-loop-k : goal.invariant-loop-k
invariant-loop-k l = (j : ℕ) → j < l.k → (y : EscapePair) → slice_get l.escapes j ≡ Some y → y.source < l.places
