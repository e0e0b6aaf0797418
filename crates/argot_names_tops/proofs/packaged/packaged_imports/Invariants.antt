use Rattle.std.proofs.Common.{ℕ, List}
use Rattle.argot_names_rules.specs.Files.{SourceFiles}
use Rattle.argot_names_imports.specs.Reached.{IsReach}
use Rattle.argot_names_tops.specs.Collecting.{AreCollected}
use Rattle.argot_names_tops.specs.Behind.{GivesPackaged}
use Rattle.argot_names_tops.proofs.packaged.packaged_imports.Given as goal

abbrev pub invariant-loop-k : goal.invariant-loop-k
invariant-loop-k l = (h : SourceFiles) (main : List ℕ) → IsReach h main l.reached → AreCollected (GivesPackaged h l.reached) l.imports l.k l.out.items
