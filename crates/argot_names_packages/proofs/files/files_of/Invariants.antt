use Rattle.std.proofs.Common.{◌≡◌, ◌≤◌, ◌-◌, length}
use Rattle.argot_names_packages.specs.Files.{AreFilesFrom}
use Rattle.argot_names_packages.proofs.files.files_of.Given as goal

abbrev pub invariant-loop-before : goal.invariant-loop-before
invariant-loop-before l = record {
  small : length l.files.lists ≡ length l.leaders;
  room : l.count - l.before ≤ l.files.spare;
  so_far : AreFilesFrom l.leaders (l.count - l.before) l.files.lists;
}
