use Rattle.std.proofs.Common.{◌≡◌, ℕ, true, false, Some, slice_get, sym, ◌∙◌, subst, arith}
use Rattle.std.specs.Prelude.{IfNone, IfSome}
use Rattle.argot_names_packages.specs.declared.cycles.Step.{Step}
use Rattle.argot_names_packages.specs.Cycles.{IsStepAt}
use Rattle.argot_names_packages.proofs.NextCycle.{no_step, no_place, later, not_back, on_cycle}
use Rattle.argot_names_packages.proofs.cycles.next_cycle.Goals as goal

true_false : true ≡ false → ⊥
true_false e = cc

pub returns-in_default : goal.returns-in_default
returns-in_default c = λ is.
    no_step c.args.search.now.survey.now c.args.search.now.lexed.now c.args.search.now.graph.now.lists c.args.k
    (subst (λ o. IfNone o ((from to : ℕ) → IsStepAt c.args.search.now.survey.now c.args.k from to → ⊥)) c.in_default.is c.step_at.ensures.none) c.args.least is

pub returns-in_default-spot_at : goal.returns-in_default-spot_at
returns-in_default-spot_at c = λ is.
    let there : slice_get c.args.search.now.survey.now.imports.items c.args.k ≡ Some c.import_at-import.result.now = subst (λ ws. slice_get ws c.args.k ≡ Some c.import_at-import.result.now) c.deref.ensures.value c.import_at-import.ensures in
    no_place c.args.search.now.survey.now c.args.search.now.lexed.now c.args.search.now.graph.now.lists c.args.k c.import_at-import.result.now there (sym c.spot_at.ensures ∙ c.in_default-spot_at.is) c.args.least is

pub returns-then-not-is_first : goal.returns-then-not-is_first
returns-then-not-is_first c = λ is.
    let there : slice_get c.args.search.now.survey.now.imports.items c.args.k ≡ Some c.import_at-import.result.now = subst (λ ws. slice_get ws c.args.k ≡ Some c.import_at-import.result.now) c.deref.ensures.value c.import_at-import.ensures in
    later c.args.search.now.survey.now c.args.search.now.lexed.now c.args.search.now.graph.now.lists c.args.k c.import_at-import.result.now there c.in-Some-spot_at.spot (sym c.spot_at.ensures ∙ c.in-Some-spot_at.is) c.args.least
    (sym c.is_first.ensures ∙ c.if-not-is_first.true) is

pub returns-then-branch : goal.returns-then-branch
returns-then-branch c = λ is.
    let there : slice_get c.args.search.now.survey.now.imports.items c.args.k ≡ Some c.import_at-import.result.now = subst (λ ws. slice_get ws c.args.k ≡ Some c.import_at-import.result.now) c.deref.ensures.value c.import_at-import.ensures in
    let step : IsStepAt c.args.search.now.survey.now c.args.k c.in-Some.step.from c.in-Some.step.to = subst (λ o. IfSome o (λ (s : Step). IsStepAt c.args.search.now.survey.now c.args.k s.from s.to)) c.in-Some.is c.step_at.ensures.some in
    on_cycle c.args.search.now.survey.now c.args.search.now.lexed.now c.args.search.now.graph.now.lists c.args.k c.import_at-import.result.now there c.in-Some-spot_at.spot (sym c.spot_at.ensures ∙ c.in-Some-spot_at.is) c.in-Some.step.from c.in-Some.step.to step
    (c.in_ok-leads_back.ensures.yes c.if-branch.true) c.args.least (sym c.is_first.ensures ∙ c.if-not-is_first.false) is

pub returns-else-branch : goal.returns-else-branch
returns-else-branch c = λ is.
    let step : IsStepAt c.args.search.now.survey.now c.args.k c.in-Some.step.from c.in-Some.step.to = subst (λ o. IfSome o (λ (s : Step). IsStepAt c.args.search.now.survey.now c.args.k s.from s.to)) c.in-Some.is c.step_at.ensures.some in
    not_back c.args.search.now.survey.now c.args.search.now.lexed.now c.args.search.now.graph.now.lists c.args.k c.in-Some.step.from c.in-Some.step.to step
    (λ back. true_false (sym (c.in_ok-leads_back.ensures.no back) ∙ c.if-branch.false)) c.args.least is

pub returns-then-rank_of-gt0 : goal.returns-then-rank_of-gt0
returns-then-rank_of-gt0 c = λ is.
    let step : IsStepAt c.args.search.now.survey.now c.args.k c.in-Some.step.from c.in-Some.step.to = subst (λ o. IfSome o (λ (s : Step). IsStepAt c.args.search.now.survey.now c.args.k s.from s.to)) c.in-Some.is c.step_at.ensures.some in
    not_back c.args.search.now.survey.now c.args.search.now.lexed.now c.args.search.now.graph.now.lists c.args.k c.in-Some.step.from c.in-Some.step.to step
    (c.requires.ranked c.in-Some.step.from c.in-Some.step.to step (omega (arith, c.rank_of.ensures, c.if-rank_of-gt0.true))) c.args.least is
