-- How the fields of a sink in memory are seen.
use Rattle.std.specs.Prelude.{◌<◌, ◌≤◌, length, vec_capacity}
use Rattle.argot_io.specs.Memory.{SinkInMemory}
use Rattle.argot_io.specs.declared.mem_sink.MemSink.TheInside.{Inside}

abbrev pub sink_in_memory : Inside → SinkInMemory
sink_in_memory it =
    record {
      taken = it.taken.items;
      room = it.room;
      most = it.most;
      failing = it.failing.items;
      writes = it.writes;
      faults = it.faults;
    }

-- room was reserved for all that it takes, and each write takes something
pub record HasRoom (it : Inside) : Type 0 where
  pub some : 0 < it.most
  pub within : length it.taken.items ≤ it.room
  pub reserved : it.room ≤ vec_capacity it.taken
