use Rattle.std.proofs.Common.{◌≡◌, ◌-◌, ◌<◌, ◌≤◌, ℕ, length, take}
use Rattle.argot_tree.specs.Nesting.{open_behind, counted_behind, nesting}
use Rattle.argot_parse_nodes.proofs.nesting.first_too_deep.Given as goal

abbrev pub invariant-loop-at : goal.invariant-loop-at
invariant-loop-at l = record {
  within : l.at ≤ length l.tokens;
  opened : l.opened ≡ open_behind 0 (take l.at l.tokens);
  counted : l.count ≡ counted_behind 0 (take l.at l.tokens);
  small : l.opened ≤ l.at;
  few : l.count ≤ l.at;
  shallow : (before : ℕ) → before < l.at → nesting l.tokens before ≤ 200;
}

abbrev pub decreases-loop-at : goal.decreases-loop-at
decreases-loop-at l = length l.tokens - l.at
