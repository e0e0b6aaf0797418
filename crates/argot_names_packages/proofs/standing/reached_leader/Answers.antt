use Rattle.std.proofs.Common.{◌≡◌, Some, None, slice_get, sym, ◌∙◌, subst}
use Rattle.argot_names_rules.specs.Lists.{In}
use Rattle.argot_names_packages.specs.Standing.{IsLedBy}
use Rattle.argot_names_packages.proofs.standing.reached_leader.Goals as goal

some_is : {A : Type 0} (x y : A) → Some x ≡ Some y → x ≡ y
some_is x y e = cc

none_some : {A : Type 0} (x : A) → None ≡ Some x → ⊥
none_some x e = cc

pub returns-then-has : goal.returns-then-has
returns-then-has c = λ l.
    let first = c.in-Some.first in
    let leads : slice_get c.args.survey.now.leaders.items c.args.file ≡ Some (Some first) = subst (λ ls. slice_get ls c.args.file ≡ Some (Some first)) c.deref.ensures.value ((c.leader_at.ensures first).0 c.in-Some.is) in (
      λ e. subst (IsLedBy c.args.survey.now c.args.file) (some_is first l e) (record { leads = leads; reached = c.has.ensures.yes c.if-has.true }),
      λ led. some_is (Some first) (Some l) (sym leads ∙ led.leads),
    )

pub returns-else-has : goal.returns-else-has
returns-else-has c = λ l.
    let first = c.in-Some.first in
    let leads : slice_get c.args.survey.now.leaders.items c.args.file ≡ Some (Some first) = subst (λ ls. slice_get ls c.args.file ≡ Some (Some first)) c.deref.ensures.value ((c.leader_at.ensures first).0 c.in-Some.is) in (
      λ e. absurd (none_some l e),
      λ led. absurd (c.has.ensures.no c.if-has.false (subst (λ x. In x c.args.survey.now.reached.keys) (some_is l first (some_is (Some l) (Some first) (sym led.leads ∙ leads))) led.reached)),
    )

pub returns-in-None : goal.returns-in-None
returns-in-None c = λ l. (
  λ e. absurd (none_some l e),
  λ led.
      let leads : slice_get c.deref.result.now c.args.file ≡ Some (Some l) = subst (λ ls. slice_get ls c.args.file ≡ Some (Some l)) (sym c.deref.ensures.value) led.leads in
      absurd (none_some l (sym c.in-None.is ∙ (c.leader_at.ensures l).1 leads)),
)
