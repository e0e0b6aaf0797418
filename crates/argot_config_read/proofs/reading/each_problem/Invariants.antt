use Rattle.std.proofs.Common.{◌≡◌, [], map, take, drop, codes}
use Rattle.serde_json.specs.View.{view}
use Rattle.argot_config_read.specs.Shapes.{each_item}
use Rattle.argot_config_read.specs.Table as table
use Rattle.argot_config_read.specs.Wanted.{wanted_problem}
use Rattle.argot_config_read.proofs.reading.each_problem.Given as goal

abbrev pub invariant-loop-i : goal.invariant-loop-i
invariant-loop-i l =
    (each_item (λ before. table.problem (map (table.text_in (codes "name")) before)) l.path [] (map view l.items) ≡ each_item (λ before. table.problem (map (table.text_in (codes "name")) before)) l.path (take l.i (map view l.items)) (drop l.i (map view l.items)))
    × (l.made.items ≡ map wanted_problem (take l.i (map view l.items)))
