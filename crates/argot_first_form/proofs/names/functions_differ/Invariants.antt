use Rattle.std.proofs.Common.{◌≡◌, ◌≤◌, length, drop, true}
use Rattle.argot_first_form.specs.Form.{distinct, names_of}
use Rattle.argot_first_form.specs.Names.{HasFunctions}
use Rattle.argot_first_form.proofs.names.functions_differ.Given as goal

abbrev pub invariant-loop-i : goal.invariant-loop-i
invariant-loop-i l = record {
  within : l.i ≤ length l.functions;
  has : HasFunctions l.names l.i (drop l.i l.functions);
  same : distinct (names_of (drop l.i l.functions)) ≡ true;
}

abbrev pub decreases-loop-i : goal.decreases-loop-i
decreases-loop-i l = l.i
