-- What is known before files are looked through: their trees are formed, and each has its numbers.
use Rattle.std.specs.Prelude.{◌≡◌, ℕ, List, Some, length, slice_get}
use Rattle.argot_tree.specs.declared.tree.Tree.{Tree}
use Rattle.argot_names_rules.specs.Files.{SourceFiles}
use Rattle.argot_files.specs.Reading.{files_in}
use Rattle.argot_files.specs.Forms.{IsFormed}
use Rattle.argot_names_subset_file.specs.Tables.{AreBases}
use Rattle.argot_names_subset.specs.declared.known.Known.{Known}

abbrev pub handed_of : Known → SourceFiles
handed_of k = files_in k.files

abbrev pub AreFormed : List Tree → Type 0
AreFormed trees = (file : ℕ) (tree : Tree) → slice_get trees file ≡ Some tree → IsFormed tree.nodes

pub record IsKnown (k : Known) : Type 0 where
  pub formed : AreFormed k.files.trees.now
  pub as_many : length k.files.trees.now ≡ length k.files.sources.now.paths
  pub bases : AreBases k.files.trees.now k.bases.now
