use Rattle.argot_names_imports.proofs.Writing.{AreBelow}
use Rattle.argot_names_imports.proofs.written.imports_of.Given as goal

abbrev pub invariant-loop-node : goal.invariant-loop-node
invariant-loop-node l = AreBelow l.file (record { bytes = l.bytes; tokens = l.tokens; nodes = l.nodes }) l.node l.out.items
