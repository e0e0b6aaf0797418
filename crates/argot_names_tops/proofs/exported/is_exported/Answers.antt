use Rattle.std.proofs.Common.{◌≡◌, true, sym, ◌∙◌}
use Rattle.argot_names_tops.proofs.FirstLetters.{exported_by, exported_utf8, exported_first, exported_upper}
use Rattle.argot_names_tops.proofs.exported.is_exported.Goals as goal

pub returns-in_default-clause-none : goal.returns-in_default-clause-none
returns-in_default-clause-none c = λ e is. c.in_default.ensures.cases.0 (exported_utf8 c.args.name.now is)

pub returns-in-Some-clause-there : goal.returns-in-Some-clause-there
returns-in-Some-clause-there c = λ e. exported_by c.args.name.now c.in-Ok.text.now c.in-Some.c c.in-Ok.ensures.cases.0 c.in-Ok.ensures.cases.1 (sym c.in-Some.ensures) (c.is_upper.ensures.0 e)

pub returns-in-Some-clause-none : goal.returns-in-Some-clause-none
returns-in-Some-clause-none c = λ e is.
    let upper : c.is_upper.result ≡ true = c.is_upper.ensures.1 (exported_upper c.args.name.now c.in-Ok.text.now c.in-Some.c c.in-Ok.ensures.cases.0 (sym c.in-Some.ensures) is) in
    absurd (cc)

pub returns-in-None-clause-none : goal.returns-in-None-clause-none
returns-in-None-clause-none c = λ e is.
    let first = sym (exported_first c.args.name.now c.in-Ok.text.now is c.in-Ok.ensures.cases.0) ∙ sym c.in-None.ensures in
    absurd (cc)
