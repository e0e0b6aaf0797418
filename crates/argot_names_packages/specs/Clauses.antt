-- The name in a package clause, computed.
use Rattle.std.specs.Prelude.{ℕ, List, Option, Some, None, option_map, slice_get}
use Rattle.std.specs.Option.{option_and_then}
use Rattle.argot_tree.specs.declared.node_kind.NodeKind.{NodeKind}
use Rattle.argot_tree.specs.declared.node_kind.NodeKind.TheVariants as nodes
use Rattle.argot_tree.specs.declared.tree.TreeNode.{TreeNode}
use Rattle.argot_names_rules.specs.Files.{SourceFiles, read_of, text_at}

abbrev pub first_of : Option TreeNode → Option ℕ
first_of None = None
first_of (Some is) = is.first

abbrev pub token_if : NodeKind → ℕ → Option ℕ
token_if nodes.DeclName token = Some token
token_if _ token = None

-- the token of a node that declares a name
abbrev pub declared_at : Option TreeNode → Option ℕ
declared_at None = None
declared_at (Some is) = token_if is.kind is.token

-- the token of the name in the clause
abbrev pub clause_of : List TreeNode → Option ℕ
clause_of tree = option_and_then (λ child. declared_at (slice_get tree child)) (first_of (slice_get tree 0))

-- the name
abbrev pub name_in : SourceFiles → ℕ → Option (List ℕ)
name_in h file = option_map (text_at (read_of h file)) (clause_of (read_of h file).nodes)
