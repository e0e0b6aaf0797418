use Rattle.argot_plain.specs.Counts.{is_left_out}
use Rattle.argot_roles.proofs.Pushed.{answered_more, one_more}
use Rattle.argot_roles.proofs.wrapped.left_out.Goals as goal

pub loop-place-preserved : goal.loop-place-preserved
loop-place-preserved c =
    let i = c.loop-place.invariant in
    record {
      count = one_more _ _ c.loop-place.place c.is_out.result c.in_ok-push.ensures.items i.count;
      each = answered_more (is_left_out c.args.program.now) _ _ c.loop-place.place c.is_out.result c.in_ok-push.ensures.items i.count c.is_out.ensures i.each;
    }
