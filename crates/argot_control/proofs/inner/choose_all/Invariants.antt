use Rattle.std.specs.Prelude.{◌≡◌, length}
use Rattle.argot_facts.specs.Handed.{FactsOf}
use Rattle.argot_control.specs.Blocks.{IsStraightOn}
use Rattle.argot_control.specs.Numbering.{Chooses}
use Rattle.argot_control.proofs.inner.choose_all.Given as goal

abbrev pub invariant-loop-k : goal.invariant-loop-k
invariant-loop-k l = record {
  count : length l.inner.items ≡ length l.program.instrs;
  chooses : Chooses (IsStraightOn l.program (FactsOf l.program l.points)) l.initial.inner.items l.inner.items;
}
