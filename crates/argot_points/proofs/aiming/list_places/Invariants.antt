use Rattle.argot_links.specs.Table.{SameShape}
use Rattle.argot_points.specs.Reading.{AreListed}
use Rattle.argot_points.proofs.aiming.list_places.Given as goal

abbrev pub invariant-loop-place : goal.invariant-loop-place
invariant-loop-place l = record {
  shape : SameShape l.fn.marks l.marks;
  listed : AreListed l.system l.tables l.place l.found.items;
}
