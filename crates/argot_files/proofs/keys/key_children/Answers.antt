use Rattle.std.proofs.Common.{length, refl, arith}
use Rattle.argot_files.proofs.Keying.{all_keys}
use Rattle.argot_files.proofs.keys.key_children.Goals as goal

pub returns : goal.returns
returns c = all_keys c.args.nodes.now c.loop-c.c c.loop-c.keys.items (omega (arith, c.loop-c-test.false)) c.loop-c.invariant
