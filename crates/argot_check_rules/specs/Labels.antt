-- Rules 48 and 49: `break` and `continue` stand inside a statement that they can leave, or go on with, or that has their label. Rule
-- 50: `fallthrough` is the last statement of a clause of an expression switch that isn't its last. Rule 51: a label is the first of its
-- name in its function. Whether they are so is read off the tree.
use Rattle.std.specs.Prelude.{ℕ, Bool}
use Rattle.argot_check_asking.specs.Rules.{Say}
use Rattle.argot_check_rules.specs.Rows.{Rule}
use Rattle.argot_check_rules.specs.Assignments.{done_if}

-- ill by the rule, unless it is as it should be
abbrev pub jump_rule : ℕ → Bool → Rule
jump_rule rule good = Say (done_if good rule)
