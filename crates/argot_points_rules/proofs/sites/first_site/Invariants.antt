use Rattle.std.proofs.Common.{◌≡◌, ℕ, ◌<◌, ◌≤◌, ◌-◌, Some, length, slice_get}
use Rattle.argot_plain.specs.declared.sites.Site.{Site}
use Rattle.argot_points_rules.proofs.sites.first_site.Given as goal

abbrev pub invariant-loop-low : goal.invariant-loop-low
invariant-loop-low l = record {
  from : length l.program.globals ≤ l.low;
  ends : l.low ≤ l.high;
  inside : l.high ≤ length l.program.sites;
  low_end : (n : ℕ) (site : Site) → slice_get l.program.sites n ≡ Some site → length l.program.globals ≤ n → n < l.low → site.place < l.place;
  high_end : (n : ℕ) (site : Site) → slice_get l.program.sites n ≡ Some site → l.high ≤ n → l.place ≤ site.place;
}

abbrev pub decreases-loop-low : goal.decreases-loop-low
decreases-loop-low l = l.high - l.low
