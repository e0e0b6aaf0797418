use Rattle.std.proofs.Common.{ap}
use Rattle.argot_names_rules.specs.declared.fault.NameFault.TheVariants.{Unresolved}
use Rattle.argot_names.proofs.checks.check_known.Goals as goal

pub returns-in-Some-clause-fault : goal.returns-in-Some-clause-fault
returns-in-Some-clause-fault c = record { place = c.in-Some.place; there = c.in-Some.is; is = ap (λ p. Unresolved p) c.place_at.ensures }
