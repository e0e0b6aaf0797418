use Rattle.std.proofs.Common.{◌≡◌, length, reverse}
use Rattle.argot_parse_reader.specs.Reading.{closed_all}
use Rattle.argot_parse_tokens.proofs.writer.close_all.Given as goal

abbrev pub invariant-loop-from : goal.invariant-loop-from
invariant-loop-from l = closed_all l.kind (reverse l.begun.items) l.to l.out.posts.items ≡ closed_all l.kind (reverse l.fn.begun.items) l.to l.fn.out.posts.items

abbrev pub decreases-loop-from : goal.decreases-loop-from
decreases-loop-from l = length l.begun.items
