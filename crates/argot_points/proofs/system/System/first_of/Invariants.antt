use Rattle.std.proofs.Common.{ℕ, ◌<◌, ◌≤◌, ◌-◌, length}
use Rattle.argot_facts.specs.declared.pointing.Loc.{Loc}
use Rattle.argot_points.specs.Meaning.{IsColumn}
use Rattle.argot_points.proofs.system.System.first_of.Given as goal

abbrev pub invariant-loop-low : goal.invariant-loop-low
invariant-loop-low l = record {
  ends : l.low ≤ l.high;
  inside : l.high ≤ length l.self.locations.items;
  low_end : (m : ℕ) (x : Loc) → IsColumn l.self m x → m < l.low → x.site < l.site;
  high_end : (m : ℕ) (x : Loc) → IsColumn l.self m x → l.high ≤ m → l.site ≤ x.site;
}

abbrev pub decreases-loop-low : goal.decreases-loop-low
decreases-loop-low l = l.high - l.low
