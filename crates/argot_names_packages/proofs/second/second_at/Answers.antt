use Rattle.std.proofs.Common.{◌≡◌, true, false, Some, None, sym, ◌∙◌, ap}
use Rattle.argot_files.specs.Reading.{files_in}
use Rattle.argot_names_packages.specs.Clauses.{name_in}
use Rattle.argot_names_packages.specs.Second.{differing}
use Rattle.argot_names_packages.proofs.Seconds.{second_at, not_led, not_second}
use Rattle.argot_names_packages.proofs.second.second_at.Goals as goal

pub returns-in_default : goal.returns-in_default
returns-in_default c =
    not_led c.args.survey.now (files_in c.args.files.now) c.args.file
    (λ first led. none_some first (sym c.in_default.is ∙ (c.reached_leader.ensures first).1 led))
  where
    none_some : {A : Type 0} (x : A) → None ≡ Some x → ⊥
    none_some x e = cc

pub returns-then-differ : goal.returns-then-differ
returns-then-differ c =
    let h = files_in c.args.files.now in
    let named : differing (name_in h c.in-Some.first) (name_in h c.args.file) ≡ true = ap (λ a. differing a (name_in h c.args.file)) (sym c.clause_name-name.ensures) ∙ ap (differing _) (sym c.clause_name.ensures) ∙ sym c.differ.ensures ∙ c.if-differ.true in
    second_at c.args.survey.now h c.args.file c.in-Some.first ((c.reached_leader.ensures c.in-Some.first).0 c.in-Some.is) c.spot_at.result c.spot_at.ensures named

pub returns-else-differ : goal.returns-else-differ
returns-else-differ c =
    let h = files_in c.args.files.now in
    let named : differing (name_in h c.in-Some.first) (name_in h c.args.file) ≡ false = ap (λ a. differing a (name_in h c.args.file)) (sym c.clause_name-name.ensures) ∙ ap (differing _) (sym c.clause_name.ensures) ∙ sym c.differ.ensures ∙ c.if-differ.false in
    not_second c.args.survey.now h c.args.file c.in-Some.first ((c.reached_leader.ensures c.in-Some.first).0 c.in-Some.is) named
