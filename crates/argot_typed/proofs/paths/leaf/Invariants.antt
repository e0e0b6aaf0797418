use Rattle.std.proofs.Common.{◌≡◌, ◌-◌, ◌<◌, ◌≤◌, ◌++◌, length, slice_get}
use Rattle.std.specs.Option.{option_map}
use Rattle.argot_typed.specs.Fitting.{Ends}
use Rattle.argot_typed.specs.Leaves.{leaves_of}
use Rattle.argot_typed.proofs.Walks.{held}
use Rattle.argot_typed.proofs.paths.leaf.Given as goal

-- the leaf goes through the steps so far, and on from a type whose walks end in what is left of the walk
abbrev pub invariant-loop-walked : goal.invariant-loop-walked
invariant-loop-walked l = record {
  type_id : l.at.0 < length l.table;
  there : l.left < length (leaves_of l.table l.at.0);
  few : length (leaves_of l.table l.at.0) ≤ 4096;
  ends : Ends (held l.table) (length l.table - l.walked) l.at.0;
  same : slice_get (leaves_of l.table l.fn.t.0) l.n ≡ option_map (λ path. l.steps.items ++ path) (slice_get (leaves_of l.table l.at.0) l.left);
}
