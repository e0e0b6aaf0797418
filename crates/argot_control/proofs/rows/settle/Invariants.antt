use Rattle.argot_links.specs.Table.{room}
use Rattle.argot_control.specs.Steps.{IsSquare, AreLed}
use Rattle.argot_control.proofs.rows.settle.Given as goal

abbrev pub invariant-passes : goal.invariant-passes
invariant-passes l = record {
  square : IsSquare l.blocks l.rows;
  led : AreLed l.steps l.rows;
}

abbrev pub decreases-passes : goal.decreases-passes
decreases-passes l = room l.rows
