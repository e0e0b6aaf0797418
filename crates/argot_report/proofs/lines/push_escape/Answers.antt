use Rattle.std.proofs.Common.{◌≡◌, Some, None, sym, ap, ◌∙◌, ◌++◌}
use Rattle.std.proofs.lemmas.List.{append-nil}
use Rattle.std.proofs.lemmas.Result.{on_ok_weaker}
use Rattle.argot_report.specs.Counted.{told}
use Rattle.argot_report.specs.Report.{of_problem, escape_text, escape_line}
use Rattle.argot_report.proofs.Numbered.{its_tables, its_problem, no_problem}
use Rattle.argot_report.proofs.lines.push_escape.Goals as goal

pub push_escape_of-requires-clause-naming : goal.push_escape_of-requires-clause-naming
push_escape_of-requires-clause-naming c =
    let l = c.in-Some.ensures.lookup in
    its_tables c.args.subject.now c.args.escape.now.problem c.deref.result.now c.in-Some.naming.now c.requires.subject c.deref.ensures.value l.3.0 l.1

pub returns-in-Some : goal.returns-in-Some
unfolding escape_line
returns-in-Some c =
    let l = c.in-Some.ensures.lookup in
    let is = its_problem c.args.subject.now c.args.escape.now.problem c.deref.result.now c.in-Some.naming.now c.requires.subject c.deref.ensures.value l.3.0 l.1 in
    on_ok_weaker c.push_escape_of.result (λ h. h ∙ ap (λ z. c.args.out.now ++ of_problem z (escape_text (told c.args.subject.now) c.args.escape.now)) (sym is)) c.push_escape_of.ensures

pub returns-in-None : goal.returns-in-None
unfolding escape_line
returns-in-None c =
    let none = no_problem c.args.subject.now c.args.escape.now.problem c.deref.result.now c.requires.subject c.deref.ensures.value c.in-None.ensures.lookup.3 in
    sym (append-nil c.args.out.now) ∙ ap (λ z. c.args.out.now ++ of_problem z (escape_text (told c.args.subject.now) c.args.escape.now)) (sym none)
