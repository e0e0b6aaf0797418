use Rattle.std.proofs.Common.{subst}
use Rattle.argot_ssa.specs.Edges.{holds}
use Rattle.argot_ssa.specs.Places.{AreHeads}
use Rattle.argot_ssa.proofs.Heads.{cut_by}
use Rattle.argot_ssa.proofs.cut.cut.Goals as goal

pub returns : goal.returns
returns c =
    let found = c.in_ok-begins.ensures in
    cut_by c.args.program.now c.args.function.now (holds c.in_ok-begins.begins) c.in_ok-heads.heads.items found.entry found.cuts
    (subst (λ n. AreHeads (holds c.in_ok-begins.begins) n c.in_ok-heads.heads.items) c.count_places-count.ensures.count c.in_ok-heads.ensures)
