use Rattle.std.proofs.Common.{◌≡◌, ◌≤◌, length, drop, true}
use Rattle.argot_first_form.specs.Form.{distinct}
use Rattle.argot_first_form.specs.Names.{HasNames}
use Rattle.argot_first_form.proofs.names.names_differ.Given as goal

abbrev pub invariant-loop-i : goal.invariant-loop-i
invariant-loop-i l = record {
  within : l.i ≤ length l.all;
  has : HasNames l.names l.i (drop l.i l.all);
  same : distinct (drop l.i l.all) ≡ true;
}

abbrev pub decreases-loop-i : goal.decreases-loop-i
decreases-loop-i l = l.i
