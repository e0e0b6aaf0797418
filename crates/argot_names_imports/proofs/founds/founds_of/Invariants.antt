use Rattle.std.proofs.Common.{◌≡◌, length}
use Rattle.argot_names_rules.specs.Files.{SourceFiles}
use Rattle.argot_names_imports.specs.Found.{HasTables}
use Rattle.argot_names_imports.specs.Founds.{FindThese}
use Rattle.argot_names_imports.proofs.founds.founds_of.Given as goal

abbrev pub invariant-loop-k : goal.invariant-loop-k
invariant-loop-k l = record {
  as_many : length l.founds.items ≡ l.k;
  each : (h : SourceFiles) → HasTables h l.module l.folders l.libraries → FindThese h l.imports l.founds.items;
}
