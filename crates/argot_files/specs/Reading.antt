-- One file by its parts, and the files of a folder.
use Rattle.std.specs.Prelude.{ℕ, List}
use Rattle.argot_tree.specs.declared.token.Token.{Token}
use Rattle.argot_tree.specs.declared.tree.TreeNode.{TreeNode}
use Rattle.argot_names_rules.specs.Files.{SourceFile, SourceFiles}
use Rattle.argot_files.specs.declared.files.Files.{Files}

abbrev pub file_of : List ℕ → List Token → List TreeNode → SourceFile
file_of bytes tokens nodes = record { bytes = bytes; tokens = tokens; nodes = nodes }

abbrev pub files_in : Files → SourceFiles
files_in f = record { sources = f.sources.now; lexed = f.lexed.now; trees = f.trees.now }
