use Rattle.std.proofs.Common.{◌≡◌, Some, None, slice_get, sym, ◌∙◌, subst}
use Rattle.argot_names_rules.specs.declared.package_key.PackageKey.{PackageKey}
use Rattle.argot_names_rules.specs.Packages.{Finds}
use Rattle.argot_names_rules.specs.Imports.{IsReached}
use Rattle.argot_names_rules.specs.Lists.{In}
use Rattle.argot_names_imports.specs.declared.written.Written.{Written}
use Rattle.argot_names_imports.proofs.Options.{none_map, some_map}
use Rattle.argot_names_imports.specs.Numbers.{IsTargetAt, IsFoundBy}
use Rattle.argot_names_imports.proofs.Numbering.{few_keys, found_number, number_found}
use Rattle.argot_names_imports.proofs.numbers.target_number.Goals as goal

some_is : {A : Type 0} (x y : A) → Some x ≡ Some y → x ≡ y
some_is x y e = cc

some_none : {A : Type 0} (x : A) → Some x ≡ None → ⊥
some_none x e = cc

pub returns-in-Some-clause-some : goal.returns-in-Some-clause-some
returns-in-Some-clause-some c = λ h main is.
    let t : IsTargetAt c.deref.result.now c.args.import c.in-Some.first = (c.target_at.ensures c.in-Some.first).0 c.in-Some.is in
    let at : IsTargetAt c.args.reached.now.survey.founds.items c.args.import c.in-Some.first = subst (λ fs. IsTargetAt fs c.args.import c.in-Some.first) c.deref.ensures.value t in
    some_map c.number_of.result _ (IsFoundBy h c.args.reached.now c.args.import) (λ n e. found_number h main c.args.reached.now is c.args.import n c.in-Some.first at e) c.number_of.ensures.some

pub returns-in-Some-clause-none : goal.returns-in-Some-clause-none
returns-in-Some-clause-none c = λ h main is.
    none_map c.number_of.result (In c.in-Some.first c.args.reached.now.survey.reached.keys → ⊥)
    ((is : Written) (home : PackageKey) → slice_get c.args.reached.now.survey.imports.items c.args.import ≡ Some is → Finds h is.path home → IsReached h main home → ⊥)
    (λ none w home at finds reached.
    let f = number_found h main c.args.reached.now is c.args.import w home at finds reached in
    let there : IsTargetAt c.deref.result.now c.args.import f.0 = subst (λ fs. IsTargetAt fs c.args.import f.0) (sym c.deref.ensures.value) f.1 in
    none (subst (λ x. In x c.args.reached.now.survey.reached.keys) (some_is f.0 c.in-Some.first (sym ((c.target_at.ensures f.0).1 there) ∙ c.in-Some.is)) f.2))
    (c.number_of.ensures.none (few_keys h main c.args.reached.now is))

pub returns-in-None-clause-none : goal.returns-in-None-clause-none
returns-in-None-clause-none c = λ h main is w home at finds reached.
    let f = number_found h main c.args.reached.now is c.args.import w home at finds reached in
    let there : IsTargetAt c.deref.result.now c.args.import f.0 = subst (λ fs. IsTargetAt fs c.args.import f.0) (sym c.deref.ensures.value) f.1 in
    some_none f.0 (sym ((c.target_at.ensures f.0).1 there) ∙ c.in-None.is)
