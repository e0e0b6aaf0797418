use Rattle.std.proofs.Common.{◌≡◌, length}
use Rattle.argot_files.specs.Reading.{files_in}
use Rattle.argot_names_packages.specs.Made.{AreMadeUpTo}
use Rattle.argot_names_packages.proofs.packages.list_packages.Given as goal

abbrev pub invariant-loop-k : goal.invariant-loop-k
invariant-loop-k l = record {
  as_many : length l.packages.items ≡ l.k;
  made : AreMadeUpTo (files_in l.files) l.firsts l.chains.lists l.packages.items;
}
