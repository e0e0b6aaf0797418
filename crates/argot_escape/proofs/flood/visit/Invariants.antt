use Rattle.std.proofs.Common.{ℕ, take}
use Rattle.argot_plain.specs.Lists.{In}
use Rattle.argot_escape.specs.Flooding.{Finds, IsReady, PlaceLeadsTo}
use Rattle.argot_escape.proofs.flood.visit.Given as goal

abbrev pub invariant-loop-z : goal.invariant-loop-z
invariant-loop-z l = record {
  ready : IsReady l.points.locations l.found;
  finds : Finds (λ m. (y : ℕ) × In y (take l.z-index l.places) × PlaceLeadsTo l.points y m) l.initial.found l.found;
}
