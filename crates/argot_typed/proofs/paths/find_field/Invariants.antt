use Rattle.std.proofs.Common.{◌≡◌, ◌<◌, ◌≤◌, length, drop, slice_get}
use Rattle.argot_typed.specs.Leaves.{leaves_of, leaves_of_fields}
use Rattle.argot_typed.proofs.paths.find_field.Given as goal

-- what is left is a leaf of the fields from k on
abbrev pub invariant-loop-k : goal.invariant-loop-k
invariant-loop-k l = record {
  there : l.left < length (leaves_of_fields (leaves_of l.table) l.k (drop l.k l.fields));
  few : length (leaves_of_fields (leaves_of l.table) l.k (drop l.k l.fields)) ≤ 4096;
  same : slice_get (leaves_of_fields (leaves_of l.table) 0 l.fields) l.n ≡ slice_get (leaves_of_fields (leaves_of l.table) l.k (drop l.k l.fields)) l.left;
}
