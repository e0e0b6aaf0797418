-- An import as it is written.
use Rattle.argot_names_rules.specs.Files.{SourceFile}
use Rattle.argot_names_rules.specs.Imports.{Imports}
use Rattle.argot_names_imports.specs.declared.written.Written.{Written}

abbrev pub IsWritten : SourceFile → Written → Type 0
IsWritten f w = Imports f w.node w.at w.path_at w.alias w.path
