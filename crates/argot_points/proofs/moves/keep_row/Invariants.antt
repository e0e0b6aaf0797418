use Rattle.std.proofs.Common.{◌≡◌, ℕ, ◌<◌, IsTrue, true, false, ◌-◌, ◌≤◌, length}
use Rattle.argot_links.specs.Table.{has}
use Rattle.argot_points.specs.Advancing.{Advances}
use Rattle.argot_points.specs.Meaning.{IsKept}
use Rattle.argot_points.specs.Solved.{IsSound, room_of}
use Rattle.argot_points.proofs.moves.keep_row.Given as goal

abbrev pub invariant-loop-y : goal.invariant-loop-y
invariant-loop-y l = record {
  sound : IsSound l.system l.tables;
  advances : Advances l.system l.fn.tables l.tables;
  within : l.from ≤ length l.system.locations.items;
  closed : l.changed ≡ false → (y : ℕ) → y < l.from → has l.tables.refers l.m y ≡ true → IsKept l.system y l.target → has l.tables.refers l.n y ≡ true;
  live : l.tables.live ≡ l.fn.tables.live;
  same : l.changed ≡ false → l.tables ≡ l.fn.tables;
  room : IsTrue l.changed → room_of l.tables < room_of l.fn.tables;
}

-- each step begins behind the last one
abbrev pub decreases-loop-y : goal.decreases-loop-y
decreases-loop-y l = length l.system.locations.items - l.from
