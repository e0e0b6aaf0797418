use Rattle.std.proofs.Common.{rules}
use Rattle.argot_typed.proofs.Onward.{next_in, next_ends, next_same}
use Rattle.argot_typed.proofs.paths.leaf.Goals as goal

pub loop-walked-preserved : goal.loop-walked-preserved
loop-walked-preserved c =
    let i = c.loop-walked.invariant in
    let f = c.in-Some.ensures in
    record {
      type_id = next_in c.args.table.now c.as_vec-shapes.ensures.fit c.args.t.0 c.args.n c.loop-walked.at.0 c.loop-walked.left c.loop-walked.walked i.type_id c.in-Some.next f;
      there = f.there;
      few = f.few;
      ends = next_ends c.args.table.now c.as_vec-shapes.ensures.fit c.args.t.0 c.args.n c.loop-walked.at.0 c.loop-walked.left c.loop-walked.walked i.type_id c.in-Some.next f (search rules) i.ends;
      same = next_same c.args.table.now c.as_vec-shapes.ensures.fit c.args.t.0 c.args.n c.loop-walked.at.0 c.loop-walked.left c.loop-walked.walked i.type_id c.in-Some.next f c.loop-walked.steps.items _ c.in_ok-push_step.ensures i.same;
    }
