use Rattle.std.proofs.Common.{refl, sym, ◌∙◌}
use Rattle.argot_run.specs.Ends.{reported, told, out_failed, err_failed}
use Rattle.argot_run.proofs.Delivered.{took_all, took_part}
use Rattle.argot_run.proofs.deliver.deliver.Goals as goal

pub returns-in-Ok : goal.returns-in-Ok
returns-in-Ok g c =
    reported (sym c.is_report.ensures ∙ c.if-is_report.true) (took_all _ _ _ _ _ _ c.bytes-text.ensures c.in-Ok.ensures)
    (record { faults = refl; taken = refl })

pub returns-in-Err : goal.returns-in-Err
returns-in-Err g c =
    out_failed (sym c.is_report.ensures ∙ c.if-is_report.true) (took_part _ _ _ _ _ _ c.bytes-text.ensures c.in-Err.ensures)
    (record { faults = refl; taken = refl })

pub returns-in-Ok-write_all : goal.returns-in-Ok-write_all
returns-in-Ok-write_all g c =
    told (sym c.is_report.ensures ∙ c.if-is_report.false) (took_all _ _ _ _ _ _ c.bytes-text.ensures c.in-Ok-write_all.ensures)
    (record { faults = refl; taken = refl })

pub returns-in-Err-write_all : goal.returns-in-Err-write_all
returns-in-Err-write_all g c =
    err_failed (sym c.is_report.ensures ∙ c.if-is_report.false) (took_part _ _ _ _ _ _ c.bytes-text.ensures c.in-Err-write_all.ensures)
    (record { faults = refl; taken = refl })
