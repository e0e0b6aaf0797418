use Rattle.std.specs.Prelude.{ℕ, ◌<◌}
use Rattle.argot_plain.specs.Code.{IsAt}
use Rattle.argot_plain.specs.declared.instructions.Kind.{Kind}
use Rattle.argot_control.specs.Numbering.{Marks, LeadsTo}
use Rattle.argot_control.proofs.entered.enter_all_targets.Given as goal

abbrev pub invariant-loop-k : goal.invariant-loop-k
invariant-loop-k l = record {
  marks : Marks (λ m. (k : ℕ) × (k < l.k) × (kind : Kind) × IsAt l.program k kind × LeadsTo kind m) l.initial.flags.items l.flags.items;
}
