use Rattle.std.proofs.Common.{◌≡◌, ◌<◌, ◌^◌, drop}
use Rattle.argot_tree.specs.Literals.{value_behind, value_of}
use Rattle.argot_names_module.proofs.numbers.value_of.Given as goal

abbrev pub invariant-loop-b : goal.invariant-loop-b
invariant-loop-b l = record {
  value : value_behind 10 l.value (drop l.b-index l.digits) ≡ value_of 10 l.digits;
  fits : l.value < 2 ^ 32;
}
