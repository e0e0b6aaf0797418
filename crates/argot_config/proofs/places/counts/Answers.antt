use Rattle.std.proofs.Common.{◌≡◌, take, take_all, arith}
use Rattle.argot_config.proofs.Lowered.{counts_more, firsts_of_none}
use Rattle.argot_config.proofs.places.counts.Goals as goal

pub loop-i-preserved : goal.loop-i-preserved
loop-i-preserved c =
    rw (c.in_ok-push.ensures.items, c.len.ensures) (counts_more c.args.program.now.instrs c.loop-i.i c.instr.result.now c.loop-i.made.items c.instr.ensures c.loop-i.invariant)

pub returns : goal.returns
returns c =
    let xs = c.args.program.now.instrs in
    let all : take c.loop-i.i xs ≡ xs = take_all c.loop-i.i xs (omega arith) in
    rw (c.loop-i.invariant, all) (firsts_of_none c.args.program.now)
