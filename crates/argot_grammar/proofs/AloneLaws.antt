-- What is read by itself is the longest of its kind.
use Rattle.std.proofs.Common.{◌≡◌, ℕ, ◌+◌, ◌-◌, ◌*◌, ◌≤◌, List, [], length, Some, None, sym, ap, ◌∙◌, arith}
use Rattle.argot_tree.specs.declared.token.Token.{Token}
use Rattle.argot_tree.specs.declared.tree.TreeNode.{TreeNode}
use Rattle.argot_tree.specs.Forests.{Forest, nodes_from}
use Rattle.argot_tree.specs.Trees.{IsLongestPart, BeginsNoPart}
use Rattle.argot_parse_reader.specs.declared.post.Post.{Post}
use Rattle.argot_parse_reader.specs.Posts.{posts}
use Rattle.argot_parse_reader.specs.Reading.{The}
use Rattle.argot_parse_reader.specs.Reader.{read}
use Rattle.argot_parse_reader.specs.Rooms.{room, rank}
use Rattle.argot_parse_reader.specs.Laws.{IsAlone}
use Rattle.argot_parse_reader.proofs.Far.Alone.{read_longest, read_none}
use Rattle.argot_grammar.specs.declared.alone.Part.TheVariants as parts
use Rattle.argot_grammar.specs.declared.alone.Alone.{Alone}
use Rattle.argot_grammar.specs.declared.alone.Alone.TheVariants.{Expression, Other}
use Rattle.argot_grammar.specs.Parts.{alone_part}

is_alone : (what : Alone) → IsAlone (alone_part what)
is_alone (Expression bare) = tt
is_alone (Other parts.Kinds) = tt
is_alone (Other parts.Params) = tt
is_alone (Other parts.Sig) = tt
is_alone (Other parts.Decl) = tt
is_alone (Other parts.Block) = tt

has_room : (tokens : List Token) (n at : ℕ) (what : Alone) → 32 * (length tokens - at) + 32 ≤ n → room tokens at (rank (alone_part what)) ≤ n
has_room tokens n at (Expression bare) h = omega arith
has_room tokens n at (Other parts.Kinds) h = omega arith
has_room tokens n at (Other parts.Params) h = omega arith
has_room tokens n at (Other parts.Sig) h = omega arith
has_room tokens n at (Other parts.Decl) h = omega arith
has_room tokens n at (Other parts.Block) h = omega arith

pub longest_read : (tokens : List Token) (what : Alone) (n at to : ℕ) (old new : List Post) (nodes : List TreeNode) → old ≡ [] → 32 * (length tokens - at) + 32 ≤ n → read tokens n (The (alone_part what)) at old ≡ Some (to, new) → ((x : Forest) → new ≡ posts x → nodes ≡ nodes_from 0 x) → IsLongestPart tokens (alone_part what) nodes at to
longest_read tokens what n at to old new nodes none enough e linked =
    read_longest tokens (alone_part what) n at to new nodes (is_alone what) (has_room tokens n at what enough) (ap (read tokens n (The (alone_part what)) at) (sym none) ∙ e) linked

pub none_read : (tokens : List Token) (what : Alone) (n at : ℕ) (old : List Post) → old ≡ [] → 32 * (length tokens - at) + 32 ≤ n → read tokens n (The (alone_part what)) at old ≡ None → BeginsNoPart tokens (alone_part what) at
none_read tokens what n at old none enough e =
    read_none tokens (alone_part what) n at (is_alone what) (has_room tokens n at what enough) (ap (read tokens n (The (alone_part what)) at) (sym none) ∙ e)
