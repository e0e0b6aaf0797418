use Rattle.std.proofs.Common.{◌≡◌, [], map, take, drop}
use Rattle.serde_json.specs.View.{view}
use Rattle.argot_config_read.specs.Shapes.{each_item}
use Rattle.argot_config_read.specs.Table as table
use Rattle.argot_config_read.specs.Wanted.{wanted_entry}
use Rattle.argot_config_read.proofs.reading.each_entry.Given as goal

abbrev pub invariant-loop-i : goal.invariant-loop-i
invariant-loop-i l =
    (each_item (λ _. table.entry) l.path [] (map view l.items) ≡ each_item (λ _. table.entry) l.path (take l.i (map view l.items)) (drop l.i (map view l.items)))
    × (l.made.items ≡ map wanted_entry (take l.i (map view l.items)))
