use Rattle.std.proofs.Common.{List}
use Rattle.argot_typed.specs.declared.program.Decl.{Decl}
use Rattle.argot_names_rules.specs.declared.package_key.PackageKey.{PackageKey}
use Rattle.argot_names_rules.specs.Files.{SourceFiles}
use Rattle.argot_names_uses.specs.UseTables.{IsTable, UsesBelow}
use Rattle.argot_names_uses.proofs.use_table.listed.Given as goal

abbrev pub invariant-loop-node : goal.invariant-loop-node
invariant-loop-node l = (h : SourceFiles) (homes : List PackageKey) (decls : List Decl) → IsTable h homes decls l.count l.table → UsesBelow h homes decls l.node l.uses.items
