use Rattle.argot_names_packages.specs.Cycles.{IsCycleOf}
use Rattle.argot_names_packages.proofs.Least.{least_start}
use Rattle.argot_names_packages.proofs.cycles.first_cycle.Goals as goal

pub loop-k-init : goal.loop-k-init
loop-k-init c = least_start (IsCycleOf c.args.search.now)

pub next_cycle-requires-clause-targets : goal.next_cycle-requires-clause-targets
next_cycle-requires-clause-targets c = c.requires.targets c.loop-k.k

pub next_cycle-requires-clause-ranked : goal.next_cycle-requires-clause-ranked
next_cycle-requires-clause-ranked c = c.requires.ranked c.loop-k.k
