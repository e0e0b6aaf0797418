use Rattle.std.proofs.Common.{◌≡◌, drop}
use Rattle.argot_plain_parts.specs.Sites.{from_site}
use Rattle.argot_plain_parts.proofs.owners.from_site.Given as goal

abbrev pub invariant-loop-i : goal.invariant-loop-i
invariant-loop-i l = from_site l.place (drop l.i l.sites) ≡ from_site l.place l.sites
