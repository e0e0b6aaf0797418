-- What the package of a file is known by: its folder, or the path of a library text.
use Rattle.std.specs.Prelude.{ℕ, nat_eq, List, codes, drop, Option, Some, None, if◌then◌else◌}
use Rattle.std.specs.List.{starts_with}
use Rattle.argot_names_rules.specs.Packages.{folder_of}
use Rattle.argot_names_rules.specs.Agreeing.{is_go_file}
use Rattle.argot_names_imports.specs.declared.firsts.Sort.{Sort}
use Rattle.argot_names_imports.specs.declared.firsts.Sort.TheVariants.{Folders, Libraries}

abbrev pub key_of : Sort → List ℕ → Option (List ℕ)
key_of Folders path = if is_go_file path then Some (folder_of path) else None
key_of Libraries path = if starts_with nat_eq path (codes "stub:") then Some (drop 5 path) else None
