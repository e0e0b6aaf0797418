use Rattle.std.proofs.Common.{Some, sym, subst}
use Rattle.argot_names_rules.specs.declared.flag.Feature.TheVariants as features
use Rattle.argot_names_rules.specs.Subset.{LeavesLiteral}
use Rattle.argot_answers.specs.Answers.{Exactly}
use Rattle.argot_names_subset_file.proofs.PartLemmas.{leaves_float, leaves_imaginary}
use Rattle.argot_names_subset_file.proofs.parts.number_of.Goals as goal

pub returns-in-Float : goal.returns-in-Float
returns-in-Float c = subst (λ k. Exactly (LeavesLiteral k) (Some features.FloatingPointLiteral)) (sym c.in-Float.is) leaves_float

pub returns-in-Imaginary : goal.returns-in-Imaginary
returns-in-Imaginary c = subst (λ k. Exactly (LeavesLiteral k) (Some features.ImaginaryLiteral)) (sym c.in-Imaginary.is) leaves_imaginary
