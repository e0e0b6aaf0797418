use Rattle.std.proofs.Common.{length, refl, arith}
use Rattle.argot_files.proofs.Marking.{all_marked}
use Rattle.argot_files.proofs.marks.marks_of.Goals as goal

pub returns : goal.returns
returns c = all_marked c.args.nodes.now c.args.wanted c.loop-c.c c.loop-c.marks.items (omega (arith, c.loop-c-test.false)) c.loop-c.invariant
