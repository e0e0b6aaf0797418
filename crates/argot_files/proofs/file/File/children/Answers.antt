use Rattle.std.proofs.Common.{refl}
use Rattle.argot_files.proofs.Siblings.{first_within, in_children, is_child}
use Rattle.argot_files.proofs.file.File.children.Goals as goal

pub invariant_of-result : goal.invariant_of-result
invariant_of-result c = (c.self.invariant.formed.links, rw c.first_in.ensures (first_within c.self.inside.nodes.now c.self.invariant.formed.links c.args.at))

pub returns-clause-list : goal.returns-clause-list
returns-clause-list c = rw (← c.self.view_is, c.first_in.ensures) refl

pub returns-clause-each : goal.returns-clause-each
returns-clause-each c = rw (← c.self.view_is, c.first_in.ensures) (λ k. (is_child c.self.inside.nodes.now c.self.invariant.formed.links c.args.at k, in_children c.self.inside.nodes.now c.self.invariant.formed.links c.args.at k))
