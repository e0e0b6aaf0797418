use Rattle.std.proofs.Common.{◌≡◌, ◌+◌, ◌-◌, ◌≤◌, length, drop}
use Rattle.argot_parse_reader.specs.Reading.{more_names, behind_names}
use Rattle.argot_parse_tokens.proofs.peek.behind_names.Given as goal

abbrev pub invariant-loop-behind : goal.invariant-loop-behind
invariant-loop-behind l = record {
  named : behind_names l.tokens l.at ≡ l.behind + more_names (drop l.behind l.tokens);
  within : l.behind ≤ length l.tokens;
}

abbrev pub decreases-loop-behind : goal.decreases-loop-behind
decreases-loop-behind l = length l.tokens - l.behind
