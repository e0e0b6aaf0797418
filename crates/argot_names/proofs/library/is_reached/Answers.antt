use Rattle.std.proofs.Common.{◌≡◌, Some, None, sym, ◌∙◌, subst}
use Rattle.argot_names_rules.specs.Lists.{In}
use Rattle.std.specs.Prelude.{slice_get}
use Rattle.argot_names.proofs.library.is_reached.Goals as goal

some_is : {A : Type 0} (x y : A) → Some x ≡ Some y → x ≡ y
some_is x y e = cc

pub returns-in-Some-clause-yes : goal.returns-in-Some-clause-yes
returns-in-Some-clause-yes c = λ e.
    let leads : slice_get c.deref.result.now c.args.file ≡ Some (Some c.in-Some.first) = (c.leader_at.ensures c.in-Some.first).0 c.in-Some.is in
    record {
      first = c.in-Some.first;
      leads = subst (λ ls. slice_get ls c.args.file ≡ Some (Some c.in-Some.first)) c.deref.ensures.value leads;
      reached = c.has.ensures.yes e;
    }

pub returns-in-Some-clause-no : goal.returns-in-Some-clause-no
returns-in-Some-clause-no c = λ e h.
    let leads : slice_get c.deref.result.now c.args.file ≡ Some (Some h.first) = subst (λ ls. slice_get ls c.args.file ≡ Some (Some h.first)) (sym c.deref.ensures.value) h.leads in
    let same : h.first ≡ c.in-Some.first = some_is h.first c.in-Some.first (sym ((c.leader_at.ensures h.first).1 leads) ∙ c.in-Some.is) in
    c.has.ensures.no e (subst (λ x. In x c.args.survey.now.reached.keys) same h.reached)

pub returns-in-None-clause-no : goal.returns-in-None-clause-no
returns-in-None-clause-no c = λ _ h.
    let leads : slice_get c.deref.result.now c.args.file ≡ Some (Some h.first) = subst (λ ls. slice_get ls c.args.file ≡ Some (Some h.first)) (sym c.deref.ensures.value) h.leads in
    absurd (none h.first (sym ((c.leader_at.ensures h.first).1 leads) ∙ c.in-None.is))
  where
    none : {A : Type 0} (x : A) → Some x ≡ None → ⊥
    none x e = cc
