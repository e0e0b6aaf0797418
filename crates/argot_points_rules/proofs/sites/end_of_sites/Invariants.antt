use Rattle.std.proofs.Common.{◌≡◌, ℕ, ◌<◌, ◌≤◌, Some, slice_get}
use Rattle.argot_plain.specs.declared.sites.Site.{Site}
use Rattle.argot_points_rules.proofs.sites.end_of_sites.Given as goal

abbrev pub invariant-loop-n : goal.invariant-loop-n
invariant-loop-n l = (m : ℕ) (site : Site) → slice_get l.program.sites m ≡ Some site → l.fn.first ≤ m → m < l.n → site.place ≡ l.place
