use Rattle.std.proofs.Common.{◌≡◌, Some, None, sym, ap, ◌∙◌, ◌++◌}
use Rattle.std.proofs.lemmas.List.{append-nil}
use Rattle.std.proofs.lemmas.Result.{on_ok_weaker}
use Rattle.argot_report.specs.Counted.{told}
use Rattle.argot_report.specs.Report.{of_problem, origin_text, origin_line}
use Rattle.argot_report.proofs.Numbered.{its_tables, its_problem, no_problem}
use Rattle.argot_report.proofs.lines.push_origin.Goals as goal

pub push_origin_of-requires-clause-naming : goal.push_origin_of-requires-clause-naming
push_origin_of-requires-clause-naming c =
    let l = c.in-Some.ensures.lookup in
    its_tables c.args.subject.now c.args.origin.now.problem c.deref.result.now c.in-Some.naming.now c.requires.subject c.deref.ensures.value l.3.0 l.1

pub returns-in-Some : goal.returns-in-Some
unfolding origin_line
returns-in-Some c =
    let l = c.in-Some.ensures.lookup in
    let is = its_problem c.args.subject.now c.args.origin.now.problem c.deref.result.now c.in-Some.naming.now c.requires.subject c.deref.ensures.value l.3.0 l.1 in
    on_ok_weaker c.push_origin_of.result (λ h. h ∙ ap (λ z. c.args.out.now ++ of_problem z (origin_text (told c.args.subject.now) c.args.origin.now)) (sym is)) c.push_origin_of.ensures

pub returns-in-None : goal.returns-in-None
unfolding origin_line
returns-in-None c =
    let none = no_problem c.args.subject.now c.args.origin.now.problem c.deref.result.now c.requires.subject c.deref.ensures.value c.in-None.ensures.lookup.3 in
    sym (append-nil c.args.out.now) ∙ ap (λ z. c.args.out.now ++ of_problem z (origin_text (told c.args.subject.now) c.args.origin.now)) (sym none)
