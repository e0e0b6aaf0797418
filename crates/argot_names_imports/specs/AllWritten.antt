-- The imports of all files.
use Rattle.std.specs.Prelude.{◌≡◌, ◌<◌}
use Rattle.argot_names_rules.specs.Files.{SourceFiles, read_of}
use Rattle.argot_names_imports.specs.declared.written.Written.{Written}
use Rattle.argot_names_imports.specs.Written.{IsWritten}

-- by file, and in a file by node
pub data InOrder (a b : Written) : Type 0 where
  by_file : a.file < b.file → InOrder a b
  by_node : a.file ≡ b.file → a.node < b.node → InOrder a b

abbrev pub IsAnImport : SourceFiles → Written → Type 0
IsAnImport h w = IsWritten (read_of h w.file) w
