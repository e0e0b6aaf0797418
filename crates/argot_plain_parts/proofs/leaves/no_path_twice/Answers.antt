use Rattle.std.proofs.Common.{sym, ◌∙◌}
use Rattle.argot_plain_parts.proofs.Ascending.{ascending_distinct}
use Rattle.argot_plain_parts.proofs.leaves.no_path_twice.Goals as goal

pub returns-then-are_ascending : goal.returns-then-are_ascending
returns-then-are_ascending c = sym (ascending_distinct c.args.paths.now (sym c.are_ascending.ensures ∙ c.if-are_ascending.true))
