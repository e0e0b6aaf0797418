use Rattle.std.proofs.Common.{ℕ, List}
use Rattle.argot_names_rules.specs.Files.{SourceFiles}
use Rattle.argot_names_tops.specs.Tops.{AreTops}
use Rattle.argot_names_uses.specs.Bases.{AreBases}
use Rattle.argot_names_uses.specs.Items.{Either, IsImportIn, NamesIn, Before, AreItems}
use Rattle.argot_names_uses.proofs.files.all_items.Given as goal

abbrev pub invariant-loop-file : goal.invariant-loop-file
invariant-loop-file l = (h : SourceFiles) (main : List ℕ) → AreBases h.trees l.bases → AreTops h main l.reached l.tops → AreItems h l.reached (Either (IsImportIn h) (Before l.file (NamesIn h))) l.items.items
