use Rattle.std.proofs.Common.{◌≡◌, drop}
use Rattle.argot_plain_parts.specs.Sites.{items_fit}
use Rattle.argot_plain_parts.proofs.owners.items_fit.Given as goal

abbrev pub invariant-loop-i : goal.invariant-loop-i
invariant-loop-i l = items_fit l.f l.shape (drop l.i l.items) ≡ items_fit l.f l.shape l.items
