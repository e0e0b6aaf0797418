use Rattle.std.proofs.Common.{refl, sym, ap, ◌∙◌}
use Rattle.argot_plain.specs.Code.{param_of}
use Rattle.argot_points.proofs.Called.{taken_arguments, one_param}
use Rattle.argot_points.proofs.system.System.param.Goals as goal

pub returns-in-Some-param_of-clause-only : goal.returns-in-Some-param_of-clause-only
returns-in-Some-param_of-clause-only c = λ k t.
    let o = c.in-Some.ensures.only t.callee t.args t.behind t.call in
    one_param c.args.takes c.args.index _ _ k c.in-Some-param_of.param (taken_arguments _ _ _ _ _ o.0 o.1 c.arguments.ensures) t.taken (sym c.in-Some-param_of.ensures)

pub returns-in-None-param_of-clause-none : goal.returns-in-None-param_of-clause-none
returns-in-None-param_of-clause-none c = λ a k t.
    let o = c.in-Some.ensures.only t.callee t.args t.behind t.call in
    let e = ap (λ n. param_of c.args.takes n c.args.index) (sym (taken_arguments _ _ _ _ _ o.0 o.1 c.arguments.ensures)) ∙ t.taken in
    let f = c.in-None-param_of.ensures in
    absurd cc

pub returns-in-None-clause-none : goal.returns-in-None-clause-none
returns-in-None-clause-none c = λ a k t. c.in-None.ensures.none refl t.callee t.args t.behind t.call
