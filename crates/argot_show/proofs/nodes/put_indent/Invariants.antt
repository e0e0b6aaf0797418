use Rattle.std.proofs.Common.{◌≡◌, drop}
use Rattle.argot_show.specs.TreeLines.{indent_onto}
use Rattle.argot_show.proofs.nodes.put_indent.Given as goal

abbrev pub invariant-loop : goal.invariant-loop
invariant-loop l = indent_onto l.text.items (drop l.index l.around) ≡ indent_onto l.initial.text.items l.around
