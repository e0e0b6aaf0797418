use Rattle.std.proofs.Common.{◌≡◌, Some, None, length, refl, sym, ap, ◌∙◌, ◌++◌, subst}
use Rattle.std.specs.Prelude.{slice_get}
use Rattle.std.proofs.lemmas.List.{append-nil}
use Rattle.std.proofs.lemmas.Result.{on_ok_weaker}
use Rattle.std.proofs.lemmas.Option.{slice_get_past, slice_get_read}
use Rattle.argot_report.specs.Names.{inside_text}
use Rattle.argot_report.specs.Report.{node_text, of_node}
use Rattle.argot_report.proofs.lines.push_node.Goals as goal

pub returns-in-Some : goal.returns-in-Some
unfolding node_text
returns-in-Some c =
    let xs = c.as_slice.result.now in
    let x = c.in-Some.node.now in
    let l = c.in-Some.ensures.lookup in
    let is : slice_get c.args.subject.now.findings.now.nodes c.args.number ≡ Some x = subst (λ ys. slice_get ys c.args.number ≡ Some x) c.as_slice.ensures (slice_get_read xs (length xs) c.args.number x refl l.3.0 l.1) in
    on_ok_weaker c.push_inside.result (λ h. h ∙ ap (λ z. c.args.out.now ++ of_node z (inside_text c.args.subject.now.program.now)) (sym is)) c.push_inside.ensures

pub returns-in-None : goal.returns-in-None
unfolding node_text
returns-in-None c =
    let none = subst (λ xs. slice_get xs c.args.number ≡ None) c.as_slice.ensures (slice_get_past c.as_slice.result.now c.args.number c.in-None.ensures.lookup.3) in
    sym (append-nil c.args.out.now) ∙ ap (λ z. c.args.out.now ++ of_node z (inside_text c.args.subject.now.program.now)) (sym none)
