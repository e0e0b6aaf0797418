use Rattle.std.proofs.Common.{◌<◌, ◌⊎◌, length}
use Rattle.argot_plain.specs.Lists.{In}
use Rattle.argot_ssa.specs.Places.{defines_at, IsExposed}
use Rattle.argot_ssa.specs.Paths.{Row, IsFound}
use Rattle.argot_ssa.specs.Working.{IsWork}
use Rattle.argot_ssa.proofs.collect.carry_registers.Given as goal

abbrev pub invariant-loop-r : goal.invariant-loop-r
invariant-loop-r l = record {
  work : IsWork (length l.heads) l.work;
  kept : (x : Row) → In x l.fn.rows.items → In x l.rows.items;
  only : (x : Row) → In x l.rows.items → In x l.fn.rows.items ⊎ IsFound l.program l.function x;
  there : (x : Row) → (f : IsFound l.program l.function x) → x.1 < l.r → IsExposed l.heads (defines_at l.program l.function x.1) f.k → In x l.rows.items;
}
