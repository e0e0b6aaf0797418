use Rattle.std.proofs.Common.{[], refl, subst}
use Rattle.argot_points.specs.Meaning.{IsParam, IsParamOf}
use Rattle.argot_points.proofs.Lookups.{only_on, none_on}
use Rattle.argot_points.proofs.system.System.param_node.Goals as goal

pub returns-in-Some-clause-only : goal.returns-in-Some-clause-only
returns-in-Some-clause-only c =
    let s = c.args.self.now in
    only_on c.whole_param.result (λ n. IsParamOf s c.args.g c.in-Some.param [] n) (λ n. IsParam s c.args.place c.args.g c.args.takes c.args.index [] n)
    (λ n q. subst (λ w. IsParamOf s c.args.g w [] n) (c.in-Some.ensures.only q.param q.taken) q.of) c.whole_param.ensures.only

pub returns-in-Some-clause-none : goal.returns-in-Some-clause-none
returns-in-Some-clause-none c =
    let s = c.args.self.now in
    none_on c.whole_param.result (λ n. IsParamOf s c.args.g c.in-Some.param [] n) (λ n. IsParam s c.args.place c.args.g c.args.takes c.args.index [] n)
    (λ n q. subst (λ w. IsParamOf s c.args.g w [] n) (c.in-Some.ensures.only q.param q.taken) q.of) c.whole_param.ensures.none

pub returns-in-None-clause-none : goal.returns-in-None-clause-none
returns-in-None-clause-none c = λ e n q. c.in-None.ensures.none refl q.param q.taken
