use Rattle.std.proofs.Common.{◌≡◌, ℕ, ◌<◌, IsTrue, true, false, ◌-◌, ◌≤◌, length}
use Rattle.argot_links.specs.Table.{has}
use Rattle.argot_points.specs.Advancing.{Advances}
use Rattle.argot_points.specs.Meaning.{IsChosen}
use Rattle.argot_points.specs.Solved.{IsSound, room_of}
use Rattle.argot_points.proofs.choosing.choose_row.Given as goal

abbrev pub invariant-loop-y : goal.invariant-loop-y
invariant-loop-y l = record {
  sound : IsSound l.system l.tables;
  advances : Advances l.system l.fn.tables l.tables;
  within : l.from ≤ length l.system.locations.items;
  closed : l.changed ≡ false → (y : ℕ) → y < l.from → has l.tables.refers l.row y ≡ true → (m : ℕ) → IsChosen l.system l.place l.index y m → has l.tables.refers m y ≡ true;
  live : l.tables.live ≡ l.fn.tables.live;
  same : l.changed ≡ false → l.tables ≡ l.fn.tables;
  room : IsTrue l.changed → room_of l.tables < room_of l.fn.tables;
}

-- each step begins behind the last one
abbrev pub decreases-loop-y : goal.decreases-loop-y
decreases-loop-y l = length l.system.locations.items - l.from
