use Rattle.std.proofs.Common.{sym, subst}
use Rattle.argot_answers.specs.Answers.{Exactly}
use Rattle.argot_files.specs.Parents.{AreParents}
use Rattle.argot_names_subset_file.specs.Atoms.{IsAbove}
use Rattle.argot_names_subset_file.proofs.links.above_of.Goals as goal

pub parent_of-requires : goal.parent_of-requires
parent_of-requires c = subst (λ ns. AreParents ns c.parents.result.now) (sym c.nodes.ensures.nodes) c.parents.ensures

pub returns : goal.returns
returns c = subst (λ ns. Exactly (IsAbove ns c.args.k) c.parent_of.result) c.nodes.ensures.nodes c.parent_of.ensures
