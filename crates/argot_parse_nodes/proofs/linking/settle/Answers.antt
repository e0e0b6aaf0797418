use Rattle.std.proofs.Common.{◌<◌, sym, ◌∙◌, arith}
use Rattle.argot_parse_nodes.proofs.LinkLaws.{settle_stays}
use Rattle.argot_parse_nodes.proofs.linking.settle.Goals as goal

-- what still waits for children stays
pub returns : goal.returns
returns c =
    let positive : 0 < c.loop-linker.linker.inner.left = omega arith in
    sym (settle_stays _ _ _ _ positive) ∙ c.loop-linker.invariant
