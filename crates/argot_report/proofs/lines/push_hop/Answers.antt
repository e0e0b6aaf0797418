use Rattle.std.proofs.Common.{◌≡◌, Some, None, length, refl, sym, ap, ◌∙◌, ◌++◌, arith, subst}
use Rattle.std.specs.Prelude.{slice_get}
use Rattle.std.proofs.lemmas.List.{append-nil}
use Rattle.std.proofs.lemmas.Result.{on_ok_weaker}
use Rattle.std.proofs.lemmas.Option.{slice_get_past, slice_get_read}
use Rattle.argot_report.specs.Report.{hop_line, of_node, step_line}
use Rattle.argot_report.proofs.lines.push_hop.Goals as goal

pub returns-in-Some : goal.returns-in-Some
unfolding hop_line
returns-in-Some c =
    let p = c.args.subject.now.program.now in
    let xs = c.as_slice.result.now in
    let x = c.in-Some.node.now in
    let l = c.in-Some.ensures.lookup in
    let is : slice_get c.args.subject.now.findings.now.nodes c.args.hop.node ≡ Some x = subst (λ ys. slice_get ys c.args.hop.node ≡ Some x) c.as_slice.ensures (slice_get_read xs (length xs) c.args.hop.node x refl l.3.0 l.1) in
    on_ok_weaker c.push_step.result (λ h. h ∙ ap (λ z. c.args.out.now ++ of_node z (step_line p c.args.hop.kind)) (sym is)) c.push_step.ensures

pub returns-in-None : goal.returns-in-None
unfolding hop_line
returns-in-None c =
    let p = c.args.subject.now.program.now in
    let none = subst (λ xs. slice_get xs c.args.hop.node ≡ None) c.as_slice.ensures (slice_get_past c.as_slice.result.now c.args.hop.node c.in-None.ensures.lookup.3) in
    sym (append-nil c.args.out.now) ∙ ap (λ z. c.args.out.now ++ of_node z (step_line p c.args.hop.kind)) (sym none)
