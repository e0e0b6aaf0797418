use Rattle.std.proofs.Common.{◌≡◌, ℕ, ◌<◌, ◌≤◌, ◌+◌, Some, true, false, length, slice_get, refl, sym, ap, ◌∙◌, arith, subst}
use Rattle.std.specs.Prelude.{OnOk}
use Rattle.argot_plain.specs.Code.{IsAt, arguments}
use Rattle.argot_facts.specs.declared.nodes.Node.{Node}
use Rattle.argot_graph_edges.specs.Adding.{Adds}
use Rattle.argot_graph_edges.specs.Outward.{FromArguments}
use Rattle.argot_graph_edges.proofs.Outwards.{in_order, external_of, external_from}
use Rattle.argot_graph_edges.proofs.Sketching.{adds_none, adds_as_last}
use Rattle.argot_graph_edges.proofs.outside.draw_external.Goals as goal

pub draw_arguments-requires-clause-order : goal.draw_arguments-requires-clause-order
draw_arguments-requires-clause-order c =
    in_order c.nodes-nodes.result.now c.args.place c.first_of-first.result c.first_of-last.result c.first_of-first.ensures.inside c.first_of-first.ensures.before c.first_of-last.ensures.behind

pub returns : goal.returns
returns c =
    let d = c.args.drawing.now in
    let i = c.args.place in
    let call = c.in-Call in
    let at = subst (λ w. IsAt d.program.now i w) call.is c.kind.ensures in
    let out = c.flows_out.ensures.yes c.if-not-flows_out.false in
    let first = c.first_of-first.result in
    let last = c.first_of-last.result in
    let found : OnOk c.draw_arguments.result (Adds (FromArguments d.points.now.nodes i (length call.to) (length (arguments call.callee call.args)) first last) c.args.sketch.now c.draw_arguments.new.sketch) =
    subst (λ n. OnOk c.draw_arguments.result (Adds (FromArguments d.points.now.nodes i n (length (arguments call.callee call.args)) first last) c.args.sketch.now c.draw_arguments.new.sketch)) c.len.ensures
    (subst (λ xs. OnOk c.draw_arguments.result (Adds (FromArguments d.points.now.nodes i c.len.result (length (arguments call.callee xs)) first last) c.args.sketch.now c.draw_arguments.new.sketch)) c.as_slice.ensures c.draw_arguments.ensures) in
    let ns = c.nodes-nodes.ensures.nodes in
    let before : (m : ℕ) (a : Node) → slice_get d.points.now.nodes m ≡ Some a → m < first → a.place < i = λ m a g. c.first_of-first.ensures.before m a (ap (λ xs. slice_get xs m) ns ∙ g) in
    let behind : (m : ℕ) (a : Node) → slice_get d.points.now.nodes m ≡ Some a → last ≤ m → i + 1 ≤ a.place = λ m a g. c.first_of-last.ensures.behind m a (ap (λ xs. slice_get xs m) ns ∙ g) in
    adds_as_last c.draw_arguments.result _ _ _ _
    (external_of d.program.now d.points.now d.problem.now i call.to call.callee call.args at out first last before behind)
    (external_from d.program.now d.points.now d.problem.now i call.to call.callee call.args at out first last before behind) found
