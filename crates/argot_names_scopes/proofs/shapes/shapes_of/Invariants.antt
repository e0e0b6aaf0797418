use Rattle.argot_names_scopes.specs.Shapes.{AreShapes}
use Rattle.argot_names_scopes.proofs.shapes.shapes_of.Given as goal

abbrev pub invariant-loop-k : goal.invariant-loop-k
invariant-loop-k l = AreShapes l.bytes l.tokens l.brought l.k l.shapes.items
