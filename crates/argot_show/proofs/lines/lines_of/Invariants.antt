use Rattle.std.proofs.Common.{◌≡◌, ◌+◌, [], drop}
use Rattle.argot_show.specs.Lines.{lines_onto}
use Rattle.argot_show.proofs.lines.lines_of.Given as goal

abbrev pub invariant-loop-token : goal.invariant-loop-token
invariant-loop-token l = record {
  number : l.n ≡ l.first + l.token-index;
  lines : lines_onto l.text.items l.bytes l.n (drop l.token-index l.tokens) ≡ lines_onto [] l.bytes l.first l.tokens;
}
