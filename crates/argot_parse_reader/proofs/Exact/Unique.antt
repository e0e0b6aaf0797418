-- A file that is spelled is read whole, so at most one tree spells it.
use Rattle.std.proofs.Common.{◌≡◌, ◌+◌, ◌*◌, List, [], length, Some, None, sym, ap, ◌∙◌, arith}
use Rattle.std.proofs.lemmas.Option.{slice_get_past}
use Rattle.argot_tree.specs.declared.token.Token.{Token}
use Rattle.argot_tree.specs.Forests.{Forest, nodes_from}
use Rattle.argot_tree.specs.TokensAt.{kind_of, Passes}
use Rattle.argot_tree.specs.Grammar.{Spells, File}
use Rattle.argot_parse_reader.specs.declared.post.Post.{Post}
use Rattle.argot_parse_reader.specs.Reading.{Answer}
use Rattle.argot_parse_reader.specs.FileReader.{is_end}
use Rattle.argot_parse_reader.specs.Laws.{SpelledRead, OneTree}
use Rattle.argot_parse_reader.proofs.Exact.Whole.{exact}
use Rattle.argot_parse_reader.proofs.Exact.Planting.{same_trees}

ended : (tokens : List Token) → Passes tokens is_end (length tokens)
ended tokens = record { there = ap (λ o. is_end (kind_of o)) (slice_get_past tokens (length tokens) (omega arith)) }

pub spelled_read : (tokens : List Token) → SpelledRead tokens
spelled_read tokens x n s enough = exact tokens s n [] (omega (arith, enough)) (ended tokens)

abbrev pub nodes_in : Answer → List Post
nodes_in None = []
nodes_in (Some r) = r.1

one_file : (tokens : List Token) (x y : Forest) → Spells tokens File x 0 (length tokens) → Spells tokens File y 0 (length tokens) → x ≡ y
one_file tokens x y s t =
    let steps = 32 * length tokens + 1 in
    same_trees x y (ap nodes_in (sym (spelled_read tokens x steps s (omega arith)) ∙ spelled_read tokens y steps t (omega arith)))

pub one_tree : OneTree
one_tree tokens a b p q =
    let nodes : a.nodes ≡ b.nodes = p.2 ∙ ap (nodes_from 0) (one_file tokens p.0 q.0 p.1 q.1) ∙ sym q.2 in
    ap (λ n. record { nodes = n }) nodes
