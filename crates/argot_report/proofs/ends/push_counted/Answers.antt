use Rattle.std.proofs.Common.{◌≡◌, ℕ, Some, None, false, sym, ap, ◌∙◌, ◌++◌, arith, subst}
use Rattle.std.specs.Prelude.{slice_get}
use Rattle.std.specs.List.{find}
use Rattle.std.proofs.lemmas.List.{append-nil}
use Rattle.std.proofs.lemmas.Option.{slice_get_past}
use Rattle.std.proofs.lemmas.Result.{on_ok_weaker}
use Rattle.argot_links.specs.Runs.{seconds}
use Rattle.argot_plain.specs.Counts.{is_left_out}
use Rattle.argot_report.specs.Counted.{is_set}
use Rattle.argot_report.specs.Names.{counted_text, numbered_name, name_of}
use Rattle.argot_report.proofs.Counting.{left_out, counted_is}
use Rattle.argot_report.proofs.ends.push_counted.Goals as goal

pub returns-then-is_left_out : goal.returns-then-is_left_out
returns-then-is_left_out c =
    let s = c.args.subject.now in
    sym (append-nil c.args.out.now)
    ∙ ap (λ z. c.args.out.now ++ z) (sym (left_out s.program.now s.findings.now.targets c.args.functions.now c.args.place (sym c.is_left_out.ensures ∙ c.if-is_left_out.true)))

pub returns-in-Some : goal.returns-in-Some
returns-in-Some c =
    let s = c.args.subject.now in
    let p = s.program.now in
    let i = c.args.place in
    let marks = c.args.marks.now in
    let kept : is_left_out p i ≡ false = sym c.is_left_out.ensures ∙ c.if-is_left_out.false in
    let found : find (is_set marks) (seconds i s.findings.now.targets) ≡ Some c.in-Some.h =
    ap (find (is_set marks)) (sym (c.run.ensures ∙ c.requires.subject.targets i c.requires.place)) ∙ sym c.first_marked.ensures ∙ c.in-Some.is in
    let named : counted_text p s.findings.now.targets c.args.functions.now i ≡ c.function.result.now.name =
    counted_is p s.findings.now.targets c.args.functions.now i marks c.requires.marks kept ∙ ap (numbered_name p) found ∙ ap name_of c.function.ensures in
    on_ok_weaker c.push_str.result (λ h. h ∙ ap (λ z. c.args.out.now ++ z) (c.as_str.ensures ∙ sym named)) c.push_str.ensures.ok

pub returns-in_default : goal.returns-in_default
returns-in_default c =
    let s = c.args.subject.now in
    let p = s.program.now in
    let i = c.args.place in
    let marks = c.args.marks.now in
    let kept : is_left_out p i ≡ false = sym c.is_left_out.ensures ∙ c.if-is_left_out.false in
    let found : find (is_set marks) (seconds i s.findings.now.targets) ≡ Some c.in-Some.h =
    ap (find (is_set marks)) (sym (c.run.ensures ∙ c.requires.subject.targets i c.requires.place)) ∙ sym c.first_marked.ensures ∙ c.in-Some.is in
    let past = slice_get_past p.functions c.in-Some.h (let n = c.function_count.ensures.count in omega arith) in
    let named = counted_is p s.findings.now.targets c.args.functions.now i marks c.requires.marks kept ∙ ap (numbered_name p) found ∙ ap name_of past in
    sym (append-nil c.args.out.now) ∙ ap (λ z. c.args.out.now ++ z) (sym named)

pub returns-in_default-2 : goal.returns-in_default-2
returns-in_default-2 c =
    let s = c.args.subject.now in
    let p = s.program.now in
    let i = c.args.place in
    let marks = c.args.marks.now in
    let kept : is_left_out p i ≡ false = sym c.is_left_out.ensures ∙ c.if-is_left_out.false in
    let found : find (is_set marks) (seconds i s.findings.now.targets) ≡ None =
    ap (find (is_set marks)) (sym (c.run.ensures ∙ c.requires.subject.targets i c.requires.place)) ∙ sym c.first_marked.ensures ∙ c.in_default.is in
    let named = counted_is p s.findings.now.targets c.args.functions.now i marks c.requires.marks kept ∙ ap (numbered_name p) found in
    sym (append-nil c.args.out.now) ∙ ap (λ z. c.args.out.now ++ z) (sym named)
