use Rattle.std.proofs.Common.{◌≡◌, true, false, Some, None, sym, ◌∙◌, subst}
use Rattle.std.proofs.lemmas.Bool.{eqb-true, eq-eqb}
use Rattle.argot_names_packages.specs.Standing.{IsLedBy}
use Rattle.argot_names_packages.proofs.main_function.is_led_by.Goals as goal

some_is : {A : Type 0} (x y : A) → Some x ≡ Some y → x ≡ y
some_is x y e = cc

none_some : {A : Type 0} (x : A) → None ≡ Some x → ⊥
none_some x e = cc

false_true : false ≡ true → ⊥
false_true e = cc

pub returns-in-Some : goal.returns-in-Some
returns-in-Some c = (
  λ e. subst (IsLedBy c.args.survey.now c.args.file) (eqb-true c.in-Some.leader c.args.first e) ((c.reached_leader.ensures c.in-Some.leader).0 c.in-Some.is),
  λ led. eq-eqb c.in-Some.leader c.args.first (some_is c.in-Some.leader c.args.first (sym c.in-Some.is ∙ (c.reached_leader.ensures c.args.first).1 led)),
)

pub returns-in-None : goal.returns-in-None
returns-in-None c = (λ e. absurd (false_true e), λ led. absurd (none_some c.args.first (sym c.in-None.is ∙ (c.reached_leader.ensures c.args.first).1 led)))
