use Rattle.std.proofs.Common.{◌≡◌, ◌+◌, ◌-◌, ◌≤◌, ◌<◌, length}
use Rattle.argot_parse_tokens.specs.Operators.{operators}
use Rattle.argot_parse_tokens.proofs.operators.operators_at.Given as goal

abbrev pub invariant-loop-count : goal.invariant-loop-count
invariant-loop-count l = record {
  counted : operators l.tokens l.types l.limit l.at ≡ l.count + operators l.tokens l.types (l.limit - l.count) (l.at + l.count);
  most : l.count ≤ l.limit;
  within : 0 < l.count → l.at + l.count ≤ length l.tokens;
}

abbrev pub decreases-loop-count : goal.decreases-loop-count
decreases-loop-count l = l.limit - l.count
