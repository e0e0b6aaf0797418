use Rattle.std.proofs.Common.{◌≡◌, ◌*◌, ◌+◌, ◌≤◌, take}
use Rattle.argot_tree.specs.Grammar.{Balanced}
use Rattle.argot_parse_reader.specs.Reading.{The}
use Rattle.argot_parse_reader.specs.Reader.{read}
use Rattle.argot_grammar.proofs.declarations.+brackets.Given as goal

abbrev pub decreases-balanced : goal.decreases-balanced
decreases-balanced l = 2 * l.steps

abbrev pub decreases-in_brackets : goal.decreases-in_brackets
decreases-in_brackets l = 2 * l.fuel + 1

abbrev pub invariant-balanced-loop-fuel : goal.invariant-balanced-loop-fuel
invariant-balanced-loop-fuel l = record {
  reads : read l.tokens l.fuel (The Balanced) l.at l.out.posts.items ≡ read l.tokens l.steps (The Balanced) l.first l.fn.out.posts.items;
  kept : take l.mark l.out.posts.items ≡ l.fn.out.posts.items;
  fewer : l.fuel ≤ l.steps;
}

abbrev pub decreases-balanced-loop-fuel : goal.decreases-balanced-loop-fuel
decreases-balanced-loop-fuel l = l.fuel
