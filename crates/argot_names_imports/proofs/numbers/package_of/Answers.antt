use Rattle.std.proofs.Common.{◌≡◌, Some, None, slice_get, sym, ◌∙◌, subst}
use Rattle.argot_names_rules.specs.declared.package_key.PackageKey.{PackageKey}
use Rattle.argot_names_rules.specs.Imports.{IsReachedFile}
use Rattle.argot_names_rules.specs.Lists.{In}
use Rattle.argot_names_imports.proofs.Options.{none_map, some_map}
use Rattle.argot_names_imports.specs.Numbers.{IsOfNumber}
use Rattle.argot_names_imports.proofs.Numbering.{few_keys, number_home, no_leader}
use Rattle.argot_names_imports.proofs.numbers.package_of.Goals as goal

some_is : {A : Type 0} (x y : A) → Some x ≡ Some y → x ≡ y
some_is x y e = cc

some_none : {A : Type 0} (x : A) → Some x ≡ None → ⊥
some_none x e = cc

pub returns-in-Some-clause-some : goal.returns-in-Some-clause-some
returns-in-Some-clause-some c = λ h main is.
    let leads : slice_get c.deref.result.now c.args.file ≡ Some (Some c.in-Some.first) = (c.leader_at.ensures c.in-Some.first).0 c.in-Some.is in
    let at : slice_get c.args.reached.now.survey.leaders.items c.args.file ≡ Some (Some c.in-Some.first) = subst (λ ls. slice_get ls c.args.file ≡ Some (Some c.in-Some.first)) c.deref.ensures.value leads in
    some_map c.number_of.result _ (IsOfNumber h c.args.reached.now c.args.file) (λ k e. number_home h main c.args.reached.now is k c.in-Some.first c.args.file e at) c.number_of.ensures.some

pub returns-in-Some-clause-none : goal.returns-in-Some-clause-none
returns-in-Some-clause-none c = λ h main is.
    let leads : slice_get c.deref.result.now c.args.file ≡ Some (Some c.in-Some.first) = (c.leader_at.ensures c.in-Some.first).0 c.in-Some.is in
    let at : slice_get c.args.reached.now.survey.leaders.items c.args.file ≡ Some (Some c.in-Some.first) = subst (λ ls. slice_get ls c.args.file ≡ Some (Some c.in-Some.first)) c.deref.ensures.value leads in
    none_map c.number_of.result (In c.in-Some.first c.args.reached.now.survey.reached.keys → ⊥) ((home : PackageKey) → IsReachedFile h main home c.args.file → ⊥)
    (λ none. no_leader h main c.args.reached.now is c.args.file (λ first e i. none (subst (λ f. In f c.args.reached.now.survey.reached.keys) (some_is first c.in-Some.first (some_is (Some first) (Some c.in-Some.first) (sym e ∙ at))) i)))
    (c.number_of.ensures.none (few_keys h main c.args.reached.now is))

pub returns-in-None-clause-none : goal.returns-in-None-clause-none
returns-in-None-clause-none c = λ h main is.
    no_leader h main c.args.reached.now is c.args.file
    (λ first e i.
    let leads : slice_get c.deref.result.now c.args.file ≡ Some (Some first) = subst (λ ls. slice_get ls c.args.file ≡ Some (Some first)) (sym c.deref.ensures.value) e in
    some_none first (sym ((c.leader_at.ensures first).1 leads) ∙ c.in-None.is))
