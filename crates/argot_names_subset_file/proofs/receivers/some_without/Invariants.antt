use Rattle.argot_names_rules.specs.Nodes.{IsChild}
use Rattle.argot_answers.proofs.Walks.{IsLeft}
use Rattle.argot_names_subset_file.specs.Receivers.{IsWithout}
use Rattle.argot_names_subset_file.proofs.receivers.some_without.Given as goal

abbrev pub invariant-loop-at : goal.invariant-loop-at
invariant-loop-at l = IsLeft (IsChild l.view.file.now.nodes l.decl) (IsWithout l.view.file.now l.view.entries.now l.path l.name) l.at-iterator
