use Rattle.std.proofs.Common.{◌≡◌, true, Some, None, slice_get, sym, ◌∙◌, subst}
use Rattle.argot_names_packages.specs.Missing.{is_nothing}
use Rattle.argot_names_packages.proofs.FindingNone.{missing_at, not_led}
use Rattle.argot_names_packages.proofs.unfound.missing_at.Goals as goal

none_some : {A : Type 0} (x : A) → None ≡ Some x → ⊥
none_some x e = cc

pub returns-in-Some : goal.returns-in-Some
returns-in-Some c =
    let import_there : slice_get c.args.survey.now.imports.items c.args.k ≡ Some c.import_at-import.result.now = subst (λ ws. slice_get ws c.args.k ≡ Some c.import_at-import.result.now) c.deref-2.ensures.value c.import_at-import.ensures in
    let found_there : slice_get c.args.survey.now.founds.items c.args.k ≡ Some c.found_at.result = subst (λ fs. slice_get fs c.args.k ≡ Some c.found_at.result) c.deref.ensures.value c.found_at.ensures in
    let nothing : is_nothing c.found_at.result ≡ true = cc (c.is_nothing.ensures, c.if-not-is_nothing.false) in
    missing_at c.args.survey.now c.args.lexed.now c.args.k c.import_at-import.result.now c.found_at.result import_there found_there c.in-Some.field-0 nothing
    ((c.reached_leader.ensures c.in-Some.field-0).0 c.in-Some.is) c.spot_at.result c.spot_at.ensures

pub returns-in-None : goal.returns-in-None
returns-in-None c =
    let import_there : slice_get c.args.survey.now.imports.items c.args.k ≡ Some c.import_at-import.result.now = subst (λ ws. slice_get ws c.args.k ≡ Some c.import_at-import.result.now) c.deref-2.ensures.value c.import_at-import.ensures in
    let found_there : slice_get c.args.survey.now.founds.items c.args.k ≡ Some c.found_at.result = subst (λ fs. slice_get fs c.args.k ≡ Some c.found_at.result) c.deref.ensures.value c.found_at.ensures in
    not_led c.args.survey.now c.args.lexed.now c.args.k c.import_at-import.result.now c.found_at.result import_there found_there (λ first led. none_some first (sym c.in-None.is ∙ (c.reached_leader.ensures first).1 led))
