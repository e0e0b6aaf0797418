use Rattle.std.proofs.Common.{◌≡◌, ◌≤◌, take}
use Rattle.argot_tree.specs.Grammar.{Specs}
use Rattle.argot_parse_reader.specs.Reading.{The}
use Rattle.argot_parse_reader.specs.Reader.{read}
use Rattle.argot_parse.proofs.imports.specs.Given as goal

abbrev pub invariant-loop-fuel : goal.invariant-loop-fuel
invariant-loop-fuel l = record {
  reads : read l.tokens l.fuel (The Specs) l.at l.out.posts.items ≡ read l.tokens l.steps (The Specs) l.first l.fn.out.posts.items;
  kept : take l.mark l.out.posts.items ≡ l.fn.out.posts.items;
  fewer : l.fuel ≤ l.steps;
}

abbrev pub decreases-loop-fuel : goal.decreases-loop-fuel
decreases-loop-fuel l = l.fuel
