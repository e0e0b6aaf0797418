-- The old nodes are the front of those behind a function's parts.
use Rattle.std.proofs.Common.{◌≡◌, ℕ, ◌≤◌, List, length, take, refl}
use Rattle.argot_tree.specs.declared.token.Token.{Token}
use Rattle.argot_parse_reader.specs.declared.post.Post.{Post}
use Rattle.argot_parse_reader.specs.FileReader.{func_parts_by}
use Rattle.argot_parse_reader.specs.Reader.{read}
use Rattle.argot_parse_reader.proofs.GrowingFiles.{func_parts_grows}
use Rattle.argot_parse_reader.proofs.Grows.{grows, nodes_of, after}

pub kept_func_parts : (tokens : List Token) (n at : ℕ) (out : List Post) → (func_parts_by (read tokens n) at out ≡ func_parts_by (read tokens n) at out) × (take (length out) (nodes_of (func_parts_by (read tokens n) at out) out) ≡ out) × (length out ≤ length (nodes_of (func_parts_by (read tokens n) at out) out))
kept_func_parts tokens n at out =
    let a = after out (func_parts_by (read tokens n) at out) (func_parts_grows tokens (read tokens n) (grows tokens n) at out) in (refl, a.0, a.1)
