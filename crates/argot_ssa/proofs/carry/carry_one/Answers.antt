use Rattle.std.proofs.Common.{slice_index}
use Rattle.argot_ssa.specs.Edges.{leads, holds}
use Rattle.argot_ssa.proofs.Carried.{arrive_asked}
use Rattle.argot_ssa.proofs.carry.carry_one.Goals as goal

pub returns-clause-there : goal.returns-clause-there
returns-clause-there c = λ k asked spread.
    let onward = c.args.net.now.onward.lists in
    c.in_ok-emit.ensures.there k asked
    (arrive_asked onward c.args.asks.now.lists c.args.heads.now c.args.r c.args.work.now c.requires.needed (leads onward (slice_index c.args.heads.now c.args.d)) (holds c.follow.new.work.seen)
    c.follow.ensures.first c.follow.ensures.closed k asked spread)
