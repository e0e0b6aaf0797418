use Rattle.std.proofs.Common.{ℕ, List}
use Rattle.argot_tree.specs.declared.tree.Tree.{Tree}
use Rattle.argot_names_imports.specs.Reads.{handed}
use Rattle.argot_names_imports.specs.Reached.{IsReach}
use Rattle.argot_names_tops.specs.Collecting.{AreCollected}
use Rattle.argot_names_tops.specs.ImportNames.{GivesImport}
use Rattle.argot_names_tops.proofs.imported.imported_names.Given as goal

abbrev pub invariant-loop-k : goal.invariant-loop-k
invariant-loop-k l = (trees : List Tree) (main : List ℕ) → IsReach (handed l.sources l.lexed trees) main l.reached → AreCollected (GivesImport (handed l.sources l.lexed trees) l.reached) l.reached.survey.imports.items l.k l.out.items
