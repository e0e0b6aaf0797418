-- How the fields of files in memory are seen.

use Rattle.argot_io.specs.Memory.{FilesInMemory}
use Rattle.argot_io.specs.Told.{HasDistinctPaths}
use Rattle.argot_io.specs.Entries.{entries_of}
use Rattle.argot_io.specs.declared.mem_files.MemFiles.TheInside.{Inside}

abbrev pub files_in_memory : Inside → FilesInMemory
files_in_memory it =
    record {
      entries = entries_of it.entries.items;
      failing = it.failing.items;
      calls = it.calls;
      faults = it.faults;
      last = it.last;
    }

-- no path is told twice
abbrev pub AreDistinct : Inside → Type 0
AreDistinct it = HasDistinctPaths (entries_of it.entries.items)
