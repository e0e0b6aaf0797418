-- What was read of a file, by the lists that are handed over.
use Rattle.std.specs.Prelude.{ℕ, List, [], slice_get, unwrap_or}
use Rattle.argot_text.specs.declared.sources.Sources.{Sources}
use Rattle.argot_tree.specs.declared.token.Token.{Token}
use Rattle.argot_tree.specs.declared.lexed.Lexed.{Lexed}
use Rattle.argot_tree.specs.declared.tree.TreeNode.{TreeNode}
use Rattle.argot_tree.specs.declared.tree.Tree.{Tree}
use Rattle.argot_names_rules.specs.Files.{SourceFiles, tokens_in, nodes_in}

abbrev pub bytes_at : Sources → ℕ → List ℕ
bytes_at sources file = unwrap_or (slice_get sources.contents file) []

abbrev pub tokens_at : List Lexed → ℕ → List Token
tokens_at lexed file = tokens_in (slice_get lexed file)

abbrev pub nodes_at : List Tree → ℕ → List TreeNode
nodes_at trees file = nodes_in (slice_get trees file)

-- the lists as one value
abbrev pub handed : Sources → List Lexed → List Tree → SourceFiles
handed sources lexed trees = record { sources = sources; lexed = lexed; trees = trees }
