use Rattle.std.specs.Prelude.{◌≡◌, ◌↔◌, ◌<◌, ℕ, length}
use Rattle.argot_facts.specs.Marked.{IsSet}
use Rattle.argot_control.specs.Accesses.{Writes, StandsAt}
use Rattle.argot_control.proofs.accesses.writes_of.Given as goal

abbrev pub invariant-loop-k : goal.invariant-loop-k
invariant-loop-k l = record {
  count : length l.flags.items ≡ l.k;
  each : (m : ℕ) → IsSet l.flags.items m ↔ ((m < length l.flags.items) × StandsAt l.program Writes m);
}
