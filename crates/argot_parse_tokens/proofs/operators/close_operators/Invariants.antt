use Rattle.std.proofs.Common.{◌≡◌, ◌≤◌, length, take, Some}
use Rattle.argot_parse_tokens.specs.Operators.{Keeps, all_operated}
use Rattle.argot_parse_tokens.proofs.operators.close_operators.Given as goal

abbrev pub invariant-loop-count : goal.invariant-loop-count
invariant-loop-count l = record {
  left : all_operated l.tokens l.operators.types (take l.operators.mark l.fn.out.posts.items) l.operators.first l.count (Some (l.to, l.out.posts.items)) ≡ all_operated l.tokens l.operators.types (take l.operators.mark l.fn.out.posts.items) l.operators.first l.operators.count (Some (l.to, l.fn.out.posts.items));
  keeps : Keeps l.operators.mark l.fn.out.posts.items l.out.posts.items;
  fewer : l.count ≤ l.operators.count;
}

abbrev pub decreases-loop-count : goal.decreases-loop-count
decreases-loop-count l = l.count
