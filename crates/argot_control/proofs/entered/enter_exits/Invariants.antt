use Rattle.std.specs.Prelude.{◌≡◌, ℕ, ◌<◌}
use Rattle.argot_plain.specs.Code.{IsFunction}
use Rattle.argot_plain.specs.declared.functions.Function.{Function}
use Rattle.argot_control.specs.Numbering.{Marks}
use Rattle.argot_control.proofs.entered.enter_exits.Given as goal

abbrev pub invariant-loop-h : goal.invariant-loop-h
invariant-loop-h l = record {
  marks : Marks (λ m. (h : ℕ) × (h < l.h) × (fn : Function) × IsFunction l.program h fn × (m ≡ fn.exit)) l.initial.flags.items l.flags.items;
}
