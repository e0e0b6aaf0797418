-- Words for worked programs.
use Rattle.std.specs.Prelude.{ℕ, List, Option}
use Rattle.argot_text.specs.declared.position.Pos.{Pos}
use Rattle.argot_tree.specs.declared.node_kind.NodeKind.{NodeKind}
use Rattle.argot_tree.specs.declared.token.Token.{Token}
use Rattle.argot_tree.specs.declared.token.TokenKind.{TokenKind}
use Rattle.argot_tree.specs.declared.tree.TreeNode.{TreeNode}
use Rattle.argot_typed.specs.declared.program.Decl.{Decl}
use Rattle.argot_typed.specs.declared.program.NodeType.{NodeType}
use Rattle.argot_typed.specs.declared.shape.TypeId.{TypeId}
use Rattle.argot_lower_scripts.specs.Says.{At}

abbrev pub type_id : ℕ → TypeId
type_id n = record { 0 = n }

-- a place of the only file
abbrev pub at : ℕ → ℕ → Pos
at line col = record { file = 0; line = line; col = col }

abbrev pub token : TokenKind → ℕ → ℕ → Token
token kind start end = record { kind = kind; start = start; end = end }

abbrev pub node : NodeKind → ℕ → ℕ → Option ℕ → Option ℕ → TreeNode
node kind token last first next = record { kind = kind; token = token; last = last; first = first; next = next }

abbrev pub decl : Option ℕ → Option ℕ → List ℕ → Decl
decl package_ node name = record { «package» = package_; node = node; name = name }

abbrev pub typed_as : ℕ → List TypeId → NodeType
typed_as node parts = record { node = node; parts = parts }

abbrev pub point : ℕ → ℕ → ℕ → ℕ → ℕ → List ℕ → At
point place label register site note homes = record { place = place; label = label; register = register; site = site; note = note; homes = homes }
