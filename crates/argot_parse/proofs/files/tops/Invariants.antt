use Rattle.std.proofs.Common.{◌≡◌, ◌≤◌, take}
use Rattle.argot_tree.specs.Grammar.{Tops}
use Rattle.argot_parse_reader.specs.Reading.{The}
use Rattle.argot_parse_reader.specs.Reader.{read}
use Rattle.argot_parse.proofs.files.tops.Given as goal

abbrev pub invariant-loop-fuel : goal.invariant-loop-fuel
invariant-loop-fuel l = record {
  reads : read l.tokens l.fuel (The Tops) l.at l.out.posts.items ≡ read l.tokens l.steps (The Tops) l.first l.fn.out.posts.items;
  kept : take l.mark l.out.posts.items ≡ l.fn.out.posts.items;
  fewer : l.fuel ≤ l.steps;
}

abbrev pub decreases-loop-fuel : goal.decreases-loop-fuel
decreases-loop-fuel l = l.fuel
