use Rattle.std.proofs.Common.{arith, subst, inl, inr}
use Rattle.std.proofs.lemmas.Bool.{cases_eq}
use Rattle.argot_names_imports.proofs.Lists.{get_below}
use Rattle.argot_names.specs.Naming.{NamesAt}
use Rattle.argot_names.proofs.library.names.Goals as goal

pub loop-k-preserved : goal.loop-k-preserved
loop-k-preserved c = λ j below at.
    elim (cases_eq j c.loop-k.k) [
      | inl same ↦ c.names_at.ensures.no c.if-names_at.false (subst (NamesAt c.args.survey.now c.args.path.now) same at)
      | inr other ↦ c.loop-k.invariant j (omega (arith, below, other)) at
    ]

pub returns-clause-no : goal.returns-clause-no
returns-clause-no c = λ _ k at. c.loop-k.invariant k (omega (arith, get_below c.args.survey.now.imports.items k at.import_ at.is_import)) at
