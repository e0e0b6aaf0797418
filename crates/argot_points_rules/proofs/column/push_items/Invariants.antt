use Rattle.std.proofs.Common.{◌≡◌, ◌++◌, drop}
use Rattle.argot_points_rules.specs.Column.{item_copies}
use Rattle.argot_points_rules.proofs.column.push_items.Given as goal

abbrev pub invariant-loop-n : goal.invariant-loop-n
invariant-loop-n l = l.rules.items ++ item_copies l.at.program.now l.at.function.now l.at.defs.now l.at.owner l.at.place l.shape (drop l.n l.items) ≡ l.fn.rules.items ++ item_copies l.at.program.now l.at.function.now l.at.defs.now l.at.owner l.at.place l.shape l.items
