use Rattle.std.proofs.Common.{refl, subst}
use Rattle.argot_points.specs.Meaning.{IsChosen, IsChosenBy}
use Rattle.argot_points.proofs.Lookups.{only_on, none_on}
use Rattle.argot_points.proofs.system.System.chosen.Goals as goal

pub returns-in-Some-clause-only : goal.returns-in-Some-clause-only
returns-in-Some-clause-only c =
    let s = c.args.self.now in
    only_on c.chosen_by.result (λ n. IsChosenBy s c.in-Some.calling.callee.now c.args.place c.args.index c.args.y n) (λ n. IsChosen s c.args.place c.args.index c.args.y n)
    (λ n q. subst (λ w. IsChosenBy s w c.args.place c.args.index c.args.y n) (c.in-Some.ensures.only q.callee q.there.args q.there.behind q.there.call).0 q.by) c.chosen_by.ensures.only

pub returns-in-Some-clause-none : goal.returns-in-Some-clause-none
returns-in-Some-clause-none c =
    let s = c.args.self.now in
    none_on c.chosen_by.result (λ n. IsChosenBy s c.in-Some.calling.callee.now c.args.place c.args.index c.args.y n) (λ n. IsChosen s c.args.place c.args.index c.args.y n)
    (λ n q. subst (λ w. IsChosenBy s w c.args.place c.args.index c.args.y n) (c.in-Some.ensures.only q.callee q.there.args q.there.behind q.there.call).0 q.by) c.chosen_by.ensures.none

pub returns-in-None-clause-none : goal.returns-in-None-clause-none
returns-in-None-clause-none c = λ e n q. c.in-None.ensures.none refl q.callee q.there.args q.there.behind q.there.call
