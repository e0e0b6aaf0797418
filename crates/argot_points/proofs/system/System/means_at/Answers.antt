use Rattle.std.proofs.Common.{refl}
use Rattle.argot_points.proofs.Called.{value_means, value_only, method_means, method_only}
use Rattle.argot_points.proofs.system.System.means_at.Goals as goal

pub returns-in-Some-clause-found : goal.returns-in-Some-clause-found
returns-in-Some-clause-found c = value_means _ _ _ c.in-Value.field-0 _ _ c.in-Value.is c.in-Some.ensures.found

pub returns-in-None-clause-none : goal.returns-in-None-clause-none
returns-in-None-clause-none c = λ a g takes m. c.in-None.ensures.none refl g takes (value_only _ _ _ _ _ _ c.in-Value.is m)

pub returns-in-Some-dispatched-clause-found : goal.returns-in-Some-dispatched-clause-found
returns-in-Some-dispatched-clause-found c = method_means _ _ _ c.in-Method.field-0 _ _ c.in-Method.is c.in-Some-dispatched.ensures.found

pub returns-in-Some-dispatched-clause-only : goal.returns-in-Some-dispatched-clause-only
returns-in-Some-dispatched-clause-only c = λ g takes m. let r = method_only _ _ _ _ _ _ _ c.in-Method.is m in (c.in-Some-dispatched.ensures.only g r.0, r.1)

pub returns-in-None-dispatched-clause-none : goal.returns-in-None-dispatched-clause-none
returns-in-None-dispatched-clause-none c = λ a g takes m. c.in-None-dispatched.ensures.none refl g (method_only _ _ _ _ _ _ _ c.in-Method.is m).0
