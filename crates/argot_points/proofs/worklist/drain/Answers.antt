use Rattle.std.proofs.Common.{◌<◌, ◌≤◌, length, arith, rules}
use Rattle.argot_points.specs.Solved.{function_key, room_of}
use Rattle.argot_points.proofs.Growing.{falls}
use Rattle.argot_points.proofs.worklist.drain.Goals as goal

pub loop-key-smaller-then-visit : goal.loop-key-smaller-then-visit
loop-key-smaller-then-visit c =
    let s = c.args.system.now in
    let n = function_key s (length s.program.now.functions) in
    let less : room_of c.visit.new.tables < room_of c.loop-key.tables = search rules in
    let few : length c.put.new.self.items ≤ n = omega (arith, c.put.ensures.fits, c.put.ensures.size, c.visit.ensures.sound.size.grown) in
    falls (room_of c.loop-key.tables) (room_of c.visit.new.tables) n (length c.loop-key.tables.grown.items) (length c.put.new.self.items) less few
