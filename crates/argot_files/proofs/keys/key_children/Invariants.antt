use Rattle.argot_files.specs.Keys.{AreKeysUpTo}
use Rattle.argot_files.proofs.keys.key_children.Given as goal

abbrev pub invariant-loop-c : goal.invariant-loop-c
invariant-loop-c l = AreKeysUpTo l.nodes l.c l.keys.items
