use Rattle.std.proofs.Common.{◌≡◌, map, take}
use Rattle.argot_names_imports.specs.Leaders.{leader_of}
use Rattle.argot_names_imports.proofs.leaders.leaders_of.Given as goal

abbrev pub invariant-loop-file : goal.invariant-loop-file
invariant-loop-file l = l.leaders.items ≡ map (leader_of l.folders l.libraries) (take l.file l.paths)
