use Rattle.std.proofs.Common.{◌≡◌, ◌≤◌, ◌++◌, drop, length}
use Rattle.argot_facts.specs.Numbers.{locations_from}
use Rattle.argot_points_rules.proofs.locations.list_locations.Given as goal

abbrev pub invariant-loop-s : goal.invariant-loop-s
invariant-loop-s l = record {
  whole : l.locations.items ++ locations_from l.s (drop l.s l.program.sites) ≡ locations_from 0 l.program.sites;
  few : length l.locations.items ≤ 65536;
}
