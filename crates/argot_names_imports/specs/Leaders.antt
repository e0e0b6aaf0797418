-- The first file of a file's package, by the tables.
use Rattle.std.specs.Prelude.{ℕ, List, Option, Some, None}
use Rattle.std.specs.Option.{option_and_then}
use Rattle.argot_names_imports.specs.declared.firsts.Sort.TheVariants.{Folders, Libraries}
use Rattle.argot_names_imports.specs.Keys.{key_of}
use Rattle.argot_names_imports.specs.Firsts.{Numbers, found_at}

abbrev pub leader_by : Numbers → Numbers → Option (List ℕ) → Option (List ℕ) → Option ℕ
leader_by folders libraries (Some folder) library = found_at folders folder
leader_by folders libraries None library = option_and_then (found_at libraries) library

abbrev pub leader_of : Numbers → Numbers → List ℕ → Option ℕ
leader_of folders libraries path = leader_by folders libraries (key_of Folders path) (key_of Libraries path)
