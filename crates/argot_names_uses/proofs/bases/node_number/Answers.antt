use Rattle.argot_names_uses.proofs.NodeSums.{base_is, sum_is}
use Rattle.argot_names_uses.proofs.bases.node_number.Goals as goal

pub returns-in-Some : goal.returns-in-Some
returns-in-Some c = λ trees tree are there low.
    sum_is trees c.args.bases.now c.args.file c.args.node c.in-Some.base tree c.sum_of.result are there low c.in-Some.ensures c.sum_of.ensures

pub returns-in-None : goal.returns-in-None
returns-in-None c = λ trees tree are there low. absurd (cc (base_is trees c.args.bases.now c.args.file tree are there, c.in-None.ensures))
