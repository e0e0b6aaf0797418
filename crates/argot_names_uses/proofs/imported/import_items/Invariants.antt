use Rattle.std.proofs.Common.{ℕ, List}
use Rattle.argot_names_rules.specs.Files.{SourceFiles}
use Rattle.argot_names_imports.specs.Reached.{IsReach}
use Rattle.argot_names_tops.specs.Importing.{AreImportNames}
use Rattle.argot_names_uses.specs.Bases.{AreBases}
use Rattle.argot_names_uses.specs.Givers.{GivesImport}
use Rattle.argot_names_uses.specs.Items.{AreGiven}
use Rattle.argot_names_uses.proofs.imported.import_items.Given as goal

abbrev pub invariant-loop-k : goal.invariant-loop-k
invariant-loop-k l = (h : SourceFiles) (main : List ℕ) → AreBases h.trees l.bases → IsReach h main l.reached → AreImportNames h l.reached l.imports → AreGiven (GivesImport h l.reached l.imports) l.k l.items.items
