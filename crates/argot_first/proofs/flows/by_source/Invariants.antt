use Rattle.std.proofs.Common.{◌≡◌, length}
use Rattle.argot_first.proofs.Agree.{Walked}
use Rattle.argot_first.proofs.Buckets.{Filled}
use Rattle.argot_first.proofs.flows.by_source.Given as goal

abbrev pub invariant-loop-i : goal.invariant-loop-i
invariant-loop-i l = record {
  number : length l.buckets.items ≡ length l.kinds;
  walked : Walked l.functions l.kinds l.i l.heads.items l.nexts.items;
  filled : Filled l.functions l.base l.kinds l.i l.buckets.items;
}
