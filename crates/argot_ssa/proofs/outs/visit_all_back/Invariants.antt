use Rattle.std.proofs.Common.{◌≡◌, ◌-◌, length}
use Rattle.argot_ssa.specs.Paths.{AllNext, AreOuts}
use Rattle.argot_ssa.proofs.outs.visit_all_back.Given as goal

abbrev pub invariant-loop-done : goal.invariant-loop-done
invariant-loop-done l = record {
  count : length l.next ≡ length l.fn.next;
  heads : length l.outs.lists ≡ length l.fn.next;
  next : AllNext l.program l.function (l.count - l.done) l.next;
  outs : AreOuts l.program l.function l.heads (l.count - l.done) l.outs.lists;
}
