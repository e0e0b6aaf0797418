use Rattle.std.proofs.Common.{◌≡◌, Some, None, slice_get, sym, ◌∙◌, subst}
use Rattle.argot_names_imports.specs.declared.written.Written.{Written}
use Rattle.argot_names_packages.specs.Standing.{IsLedBy}
use Rattle.argot_names_packages.proofs.cycles.step_at.Goals as goal

some_is : {A : Type 0} (x y : A) → Some x ≡ Some y → x ≡ y
some_is x y e = cc

none_some : {A : Type 0} (x : A) → None ≡ Some x → ⊥
none_some x e = cc

pub returns-in-Some-reached_leader-clause-some : goal.returns-in-Some-reached_leader-clause-some
returns-in-Some-reached_leader-clause-some c =
    let led : IsLedBy c.args.survey.now c.import_at.result.now.file c.in-Some-reached_leader.from = (c.reached_leader.ensures c.in-Some-reached_leader.from).0 c.in-Some-reached_leader.is in
    record {
      step = record {
        import_ = c.import_at.result.now;
        found = c.found_at.result;
        is_import = subst (λ ws. slice_get ws c.args.k ≡ Some c.import_at.result.now) c.deref-2.ensures.value c.import_at.ensures;
        is_found = subst (λ fs. slice_get fs c.args.k ≡ Some c.found_at.result) c.deref.ensures.value c.found_at.ensures;
        leader = led.leads;
        target = sym c.target_of.ensures ∙ c.in-Some.is;
      };
      reached = led.reached;
    }

pub returns-in-None-clause-none : goal.returns-in-None-clause-none
returns-in-None-clause-none c = λ from to st.
    let there : slice_get c.args.survey.now.imports.items c.args.k ≡ Some c.import_at.result.now = subst (λ ws. slice_get ws c.args.k ≡ Some c.import_at.result.now) c.deref-2.ensures.value c.import_at.ensures in
    let same : st.step.import_ ≡ c.import_at.result.now = some_is st.step.import_ c.import_at.result.now (sym st.step.is_import ∙ there) in
    let led : IsLedBy c.args.survey.now c.import_at.result.now.file from = subst (λ (w : Written). IsLedBy c.args.survey.now w.file from) same (record { leads = st.step.leader; reached = st.reached }) in
    none_some from (sym c.in-None.is ∙ (c.reached_leader.ensures from).1 led)
