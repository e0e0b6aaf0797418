use Rattle.std.proofs.Common.{[], refl, subst}
use Rattle.argot_points.specs.Meaning.{IsParam, IsChosenBy}
use Rattle.argot_points.proofs.Lookups.{only_on, none_on}
use Rattle.argot_points.proofs.system.System.chosen_by.Goals as goal

pub returns-in-Some-clause-only : goal.returns-in-Some-clause-only
returns-in-Some-clause-only c =
    let s = c.args.self.now in
    only_on c.param_node.result (λ n. IsParam s c.args.place c.in-Some.target.0 c.in-Some.target.1 c.args.index [] n) (λ n. IsChosenBy s c.args.callee.now c.args.place c.args.index c.args.y n)
    (λ n q.
    let o = c.in-Some.ensures.only q.function q.takes q.means in
    subst (λ w. IsParam s c.args.place w c.in-Some.target.1 c.args.index [] n) o.0 (subst (λ w. IsParam s c.args.place q.function w c.args.index [] n) o.1 q.param))
    c.param_node.ensures.only

pub returns-in-Some-clause-none : goal.returns-in-Some-clause-none
returns-in-Some-clause-none c =
    let s = c.args.self.now in
    none_on c.param_node.result (λ n. IsParam s c.args.place c.in-Some.target.0 c.in-Some.target.1 c.args.index [] n) (λ n. IsChosenBy s c.args.callee.now c.args.place c.args.index c.args.y n)
    (λ n q.
    let o = c.in-Some.ensures.only q.function q.takes q.means in
    subst (λ w. IsParam s c.args.place w c.in-Some.target.1 c.args.index [] n) o.0 (subst (λ w. IsParam s c.args.place q.function w c.args.index [] n) o.1 q.param))
    c.param_node.ensures.none

pub returns-in-None-clause-none : goal.returns-in-None-clause-none
returns-in-None-clause-none c = λ e n q. c.in-None.ensures.none refl q.function q.takes q.means
