use Rattle.std.proofs.Common.{Some, length, arith, ap, ◌∙◌}
use Rattle.std.proofs.lemmas.Option.{slice_get_within}
use Rattle.argot_points.proofs.Columns.{number_of, in_of_get}
use Rattle.argot_points.proofs.system.System.wrapper.Goals as goal

pub returns-then-is_method-clause-found : goal.returns-then-is_method-clause-found
returns-then-is_method-clause-found c = in_of_get _ _ _ (c.method-method.ensures ∙ ap Some (c.is_method.ensures.yes c.if-is_method.true))

pub returns-clause-none : goal.returns-clause-none
returns-clause-none c = λ a g m.
    let r = number_of _ _ m in
    absurd (omega (arith, c.loop-n.invariant r.0 g r.1, slice_get_within _ r.0 _ r.1, c.len-n-end.ensures, ap length c.methods.ensures))
