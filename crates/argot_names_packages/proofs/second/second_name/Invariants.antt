use Rattle.argot_files.specs.Reading.{files_in}
use Rattle.argot_names_packages.specs.Second.{IsSecondAt}
use Rattle.argot_names_packages.specs.Spots.{IsLeast, IsBelow}
use Rattle.argot_names_packages.proofs.second.second_name.Given as goal

abbrev pub invariant-loop-file : goal.invariant-loop-file
invariant-loop-file l = IsLeast (IsBelow (IsSecondAt l.survey (files_in l.files)) l.file) l.least
