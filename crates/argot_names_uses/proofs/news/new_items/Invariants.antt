use Rattle.argot_names_rules.specs.Files.{SourceFiles}
use Rattle.argot_names_tops.specs.Tops.{IsNamesOf}
use Rattle.argot_names_uses.specs.Bases.{AreBases}
use Rattle.argot_names_uses.specs.Givers.{GivesNew}
use Rattle.argot_names_uses.specs.Items.{AreGiven}
use Rattle.argot_names_uses.proofs.news.new_items.Given as goal

abbrev pub invariant-loop-k : goal.invariant-loop-k
invariant-loop-k l = (h : SourceFiles) → AreBases h.trees l.bases → IsNamesOf h l.file l.names → AreGiven (GivesNew h l.names l.owner l.file) l.k l.items.items
