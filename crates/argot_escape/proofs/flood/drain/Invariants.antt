use Rattle.std.proofs.Common.{◌≡◌, ℕ, length}
use Rattle.argot_facts.specs.Marked.{IsSet}
use Rattle.argot_escape.specs.Flooding.{IsReady, AreLed, AreSet, FoundBy, room}
use Rattle.argot_escape.proofs.flood.drain.Given as goal

abbrev pub invariant-sites : goal.invariant-sites
invariant-sites l = record {
  ready : IsReady l.points.locations l.found;
  led : AreLed l.points l.found;
  set : AreSet l.found;
  count : length l.found.flags.items ≡ length l.initial.found.flags.items;
  kept : (m : ℕ) → IsSet l.initial.found.flags.items m → IsSet l.found.flags.items m;
  only : (m : ℕ) → IsSet l.found.flags.items m → FoundBy l.points (IsSet l.initial.found.flags.items) m;
}

abbrev pub decreases-sites : goal.decreases-sites
decreases-sites l = room l.found
