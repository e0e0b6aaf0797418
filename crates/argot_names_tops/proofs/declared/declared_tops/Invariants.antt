use Rattle.std.proofs.Common.{ℕ, List}
use Rattle.argot_names_rules.specs.Files.{SourceFiles}
use Rattle.argot_names_imports.specs.Reached.{homes_of, IsReach}
use Rattle.argot_names_tops.specs.Declaring.{AreDeclaredBelow}
use Rattle.argot_names_tops.specs.Tops.{AreFiles}
use Rattle.argot_names_tops.proofs.declared.declared_tops.Given as goal

abbrev pub invariant-loop-file : goal.invariant-loop-file
invariant-loop-file l = (h : SourceFiles) (main : List ℕ) → IsReach h main l.reached → AreFiles h l.reached l.files → AreDeclaredBelow h (homes_of h l.reached) l.file l.all.items
