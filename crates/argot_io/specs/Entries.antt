-- How pairs of a path and bytes are seen.
use Rattle.std.specs.Prelude.{List, ℕ, map}
use Rattle.std.specs.Global.{Vec}
use Rattle.argot_io.specs.Told.{Entry}

abbrev pub entry_of : List ℕ × Vec ℕ → Entry
entry_of entry = (entry.0, entry.1.items)

abbrev pub entries_of : List (List ℕ × Vec ℕ) → List Entry
entries_of entries = map entry_of entries
