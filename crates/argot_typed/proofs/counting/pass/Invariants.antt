use Rattle.std.proofs.Common.{◌≡◌, ℕ, ◌<◌, length, IsTrue, false}
use Rattle.argot_typed.specs.Counts.{AreRight, IsClosed, unknown_count}
use Rattle.argot_typed.proofs.counting.pass.Given as goal

abbrev pub invariant-loop-t : goal.invariant-loop-t
invariant-loop-t l = record {
  as_many : length l.counts.items ≡ length l.fn.counts.items;
  right : AreRight l.shapes l.counts.items;
  same : l.changed ≡ false → l.counts.items ≡ l.fn.counts.items;
  closed : l.changed ≡ false → (u : ℕ) → u < l.t → IsClosed l.shapes l.counts.items u;
  fewer : IsTrue l.changed → unknown_count l.counts.items < unknown_count l.fn.counts.items;
}
