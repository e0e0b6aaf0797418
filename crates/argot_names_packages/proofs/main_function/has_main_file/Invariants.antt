use Rattle.std.proofs.Common.{ℕ, ◌<◌}
use Rattle.argot_names_rules.specs.Files.{read_of}
use Rattle.argot_files.specs.Reading.{files_in}
use Rattle.argot_names_packages.specs.Standing.{IsLedBy}
use Rattle.argot_names_packages.specs.Mains.{HasMainNode}
use Rattle.argot_names_packages.proofs.main_function.has_main_file.Given as goal

abbrev pub invariant-loop-file : goal.invariant-loop-file
invariant-loop-file l = (f : ℕ) → f < l.file → IsLedBy l.survey f l.first → HasMainNode (read_of (files_in l.files) f) → ⊥
