use Rattle.std.proofs.Common.{◌<◌, length}
use Rattle.argot_ssa.proofs.Pushed.{pushed_edge}
use Rattle.argot_ssa.proofs.growing.link.Goals as goal

pub returns-clause-adds : goal.returns-clause-adds
returns-clause-adds c =
    let same = c.in_ok-reserve.ensures.lists in
    let within : c.args.head < length c.args.chains.now.lists = c.requires in
    rw (c.push.ensures.lists, same) (pushed_edge c.args.chains.now.lists c.args.head c.args.item within)
