use Rattle.std.proofs.Common.{inl, inr, arith}
use Rattle.std.proofs.lemmas.Bool.Decides.{nat_tests}
use Rattle.argot_names_subset.proofs.Othering.{later_major, later_minor, is_later}
use Rattle.argot_names_subset.proofs.others.is_from.Goals as goal

pub returns-then-major-gt1 : goal.returns-then-major-gt1
returns-then-major-gt1 c = (λ yes. later_major c.args.major c.args.minor yes, λ _. grind (arith, nat_tests))

pub returns-then-major-eq1 : goal.returns-then-major-eq1
returns-then-major-eq1 c = (
  λ yes. later_minor c.args.major c.args.minor c.if-major-eq1.true (grind (arith, nat_tests)),
  λ l. elim (is_later c.args.major c.args.minor l) [ inl h ↦ grind (arith, nat_tests) | inr h ↦ grind (arith, nat_tests) ],
)
