use Rattle.std.proofs.Common.{ℕ, List}
use Rattle.argot_names_rules.specs.Files.{SourceFiles}
use Rattle.argot_names_imports.specs.declared.reached.Reached.{Reached}
use Rattle.argot_names_imports.specs.Reached.{IsReach}
use Rattle.argot_names_tops.specs.First.{NamesFirst}
use Rattle.argot_names_tops.specs.Behind.{IsAgainBelow}
use Rattle.argot_names_tops.specs.Tops.{AreFiles}
use Rattle.argot_names_tops.proofs.functions.first_in_functions.Given as goal

abbrev pub invariant-loop-file : goal.invariant-loop-file
invariant-loop-file l = (h : SourceFiles) (main : List ℕ) (r : Reached) → IsReach h main r → AreFiles h r l.files → NamesFirst (IsAgainBelow h main l.file) l.first
