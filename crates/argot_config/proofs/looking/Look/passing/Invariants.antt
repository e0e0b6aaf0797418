use Rattle.std.proofs.Common.{◌≡◌, take}
use Rattle.argot_config.specs.Looking.{seeks, three_in}
use Rattle.argot_config.specs.Packages.{found_in}
use Rattle.argot_config.proofs.looking.Look.passing.Given as goal

abbrev pub invariant-loop-path : goal.invariant-loop-path
invariant-loop-path l = (three_in l.self ≡ three_in l.fn.self) × (l.passing.items ≡ found_in (seeks l.fn.self.package) (take l.path-index l.paths))
