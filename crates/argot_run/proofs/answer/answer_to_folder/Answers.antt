use Rattle.argot_run.specs.Due.{no_source, other_files, not_listed}
use Rattle.argot_run.proofs.Owed.{when_ok}
use Rattle.argot_run.proofs.answer.answer_to_folder.Goals as goal

pub returns-in-Err-Failed : goal.returns-in-Err-Failed
returns-in-Err-Failed g c =
    let cause = rw c.in-Err-Failed.field-0-is at c.in-Err-Failed.ensures.cause
    in when_ok _ c.naming.result _ c.naming.ensures (not_listed cause.0 cause.1)

pub returns-in-None : goal.returns-in-None
returns-in-None g c =
    when_ok _ c.fixed.result _ c.fixed.ensures (no_source _ c.in-Ok.ensures.cause.0 c.in-Ok.ensures.listed c.in-None.ensures)

pub returns-in-Others : goal.returns-in-Others
returns-in-Others g c =
    when_ok _ c.fixed-in-Others.result _ c.fixed-in-Others.ensures
    (other_files _ c.in-Ok.ensures.cause.0 c.in-Ok.ensures.listed c.in-Others.ensures)
