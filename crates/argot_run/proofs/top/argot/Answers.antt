use Rattle.std.proofs.Common.{refl}
use Rattle.argot_run.specs.Ends.{answered, no_memory}
use Rattle.argot_run.proofs.Exact.{report_exact}
use Rattle.argot_run.proofs.NoBound.{unbounded}
use Rattle.argot_run.proofs.Safe.{clean_safe}
use Rattle.argot_run.proofs.top.argot.Goals as goal

pub returns-in-Ok-clause-ends : goal.returns-in-Ok-clause-ends
returns-in-Ok-clause-ends g c = answered c.in-Ok.answer c.in-Ok.ensures c.deliver.ensures

pub returns-in-Ok-clause-no_bound : goal.returns-in-Ok-clause-no_bound
returns-in-Ok-clause-no_bound g c = unbounded c.deliver.result (answered c.in-Ok.answer c.in-Ok.ensures c.deliver.ensures)

pub returns-in-Err-clause-ends : goal.returns-in-Err-clause-ends
returns-in-Err-clause-ends g c = no_memory (record { faults = refl; taken = refl }) (record { faults = refl; taken = refl })

pub returns-in-Ok-clause-clean : goal.returns-in-Ok-clause-clean
returns-in-Ok-clause-clean g c = clean_safe c.deliver.result (answered c.in-Ok.answer c.in-Ok.ensures c.deliver.ensures)

pub returns-in-Ok-clause-exact : goal.returns-in-Ok-clause-exact
returns-in-Ok-clause-exact g c = report_exact c.deliver.result (answered c.in-Ok.answer c.in-Ok.ensures c.deliver.ensures)
