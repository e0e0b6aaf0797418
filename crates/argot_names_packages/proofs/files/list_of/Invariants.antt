use Rattle.std.proofs.Common.{◌≡◌, [], ◌++◌, slice_index_or}
use Rattle.argot_names_packages.proofs.files.list_of.Given as goal

abbrev pub invariant-loop-file : goal.invariant-loop-file
invariant-loop-file l = record {
  rest : l.yielded ++ l.file-iterator ≡ slice_index_or l.files.lists l.first [];
  list : l.list.items ≡ l.yielded;
}
