use Rattle.std.proofs.Common.{◌≡◌, Some, true, false, sym, ap, ◌∙◌}
use Rattle.std.specs.Prelude.{slice_get}
use Rattle.argot_graph_edges.proofs.Numbered.{at_first}
use Rattle.argot_graph_edges.proofs.drawing.number.Goals as goal

pub returns-then-is_at-clause-only : goal.returns-then-is_at-clause-only
returns-then-is_at-clause-only c = λ m e.
    at_first c.args.nodes.now c.as_slice-list.ensures.ordered c.first_from-first.result m c.args.node c.first_from-first.ensures.before c.first_from-first.ensures.behind e

pub returns-clause-none : goal.returns-clause-none
returns-clause-none c = λ z m e.
    let s = at_first c.args.nodes.now c.as_slice-list.ensures.ordered c.first_from-first.result m c.args.node c.first_from-first.ensures.before c.first_from-first.ensures.behind e in
    let here : slice_get c.args.nodes.now c.first_from-first.result ≡ Some c.args.node = ap (slice_get c.args.nodes.now) (sym s) ∙ e in
    let x : true ≡ false = sym (c.is_at.ensures.no (ap (λ xs. slice_get xs c.first_from-first.result) c.as_slice-list.ensures.list ∙ here)) ∙ c.if-is_at.false in
    absurd cc
