use Rattle.std.proofs.Common.{◌≡◌}
use Rattle.std.specs.Prelude.{filter, take}
use Rattle.argot_names_rules.specs.Agreeing.{is_assembly}
use Rattle.argot_names_files.proofs.sources.assembly_of.Given as goal

abbrev pub invariant-loop-k : goal.invariant-loop-k
invariant-loop-k l = l.assembly ≡ filter is_assembly (take l.k l.paths)
