use Rattle.std.proofs.Common.{subst}
use Rattle.argot_names_rules.specs.Lists.{In}
use Rattle.argot_names_imports.proofs.Graphs.{in_inserted}
use Rattle.argot_names_imports.proofs.reaching.put.Goals as goal

pub returns-clause-only : goal.returns-clause-only
returns-clause-only c = λ t h. in_inserted c.args.reached.now.keys c.args.node t (subst (In t) c.in_ok-insert_full.ensures.keys h)
