use Rattle.std.proofs.Common.{◌≡◌, length, Some}
use Rattle.argot_parse_tokens.specs.Rows.{unwound}
use Rattle.argot_parse_tokens.proofs.rows.close_row.Given as goal

abbrev pub invariant-loop-last : goal.invariant-loop-last
invariant-loop-last l = unwound l.begun.items (Some (l.to, l.out.posts.items)) ≡ unwound l.fn.row.begun.items (Some (l.to, l.fn.out.posts.items))

abbrev pub decreases-loop-last : goal.decreases-loop-last
decreases-loop-last l = length l.begun.items
