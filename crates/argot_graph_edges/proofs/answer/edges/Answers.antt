use Rattle.std.proofs.Common.{◌≡◌, sym, ap, ◌∙◌, subst}
use Rattle.argot_facts.specs.Graphs.{EdgeBefore, IsGraphBy, IsOrdered}
use Rattle.argot_facts.specs.Handed.{FactsOf}
use Rattle.argot_facts.specs.Reaching.{DefinedAt}
use Rattle.argot_facts.specs.Refers.{Holds}
use Rattle.argot_facts.proofs.Handed.{facts_hold, holds_facts}
use Rattle.argot_graph.specs.Order.{HaveSame}
use Rattle.argot_graph_edges.proofs.Finished.{has_many, is_graph, is_graph_by}
use Rattle.argot_graph_edges.proofs.Grown.{graph_as}
use Rattle.argot_graph_edges.proofs.answer.edges.Goals as goal

pub sketched-requires-clause-well : goal.sketched-requires-clause-well
sketched-requires-clause-well g c = c.len.ensures.well

pub returns-in-Err-clause-many : goal.returns-in-Err-clause-many
returns-in-Err-clause-many g c = λ e.
    let m = c.in-Err.ensures.many e in
    has_many c.args.program.now c.args.points.now c.len.ensures.well c.requires.points c.args.problem.now c.in-Ok-sketched.sketch c.in-Ok-sketched.ensures m.0 m.1 m.2

pub from_parts-requires : goal.from_parts-requires
from_parts-requires g c =
    let p = c.args.program.now in
    let x = c.args.points.now in
    let n : c.from_vec.result ≡ x.nodes = c.from_vec.ensures ∙ (c.in-Ok-copied.ensures ∙ (c.as_slice-3.ensures.list ∙ c.nodes.ensures.nodes)) in
    let sketch = c.in-Ok-sketched.sketch in
    let ordered = subst (IsOrdered EdgeBefore) (sym c.from_vec-2.ensures) c.in-Ok-settled.ensures.ordered in
    let same = subst (λ es. HaveSame es sketch.edges.items) (sym c.from_vec-2.ensures) c.in-Ok-settled.ensures.same in
    is_graph p x c.len.ensures.well c.requires.points c.args.problem.now sketch c.in-Ok-sketched.ensures c.from_vec.result c.from_vec-2.result n ordered same

pub returns-clause-handed : goal.returns-clause-handed
returns-clause-handed g c =
    let p = c.args.program.now in
    let x = c.args.points.now in
    let n : c.from_vec.result ≡ x.nodes = c.from_vec.ensures ∙ (c.in-Ok-copied.ensures ∙ (c.as_slice-3.ensures.list ∙ c.nodes.ensures.nodes)) in
    let sketch = c.in-Ok-sketched.sketch in
    let ordered = subst (IsOrdered EdgeBefore) (sym c.from_vec-2.ensures) c.in-Ok-settled.ensures.ordered in
    let same = subst (λ es. HaveSame es sketch.edges.items) (sym c.from_vec-2.ensures) c.in-Ok-settled.ensures.same in
    let found = is_graph_by p x c.len.ensures.well c.requires.points c.args.problem.now sketch c.in-Ok-sketched.ensures c.from_vec.result c.from_vec-2.result n ordered same c.in-Ok-settled.ensures.whole in
    subst (IsGraphBy p (DefinedAt p) (FactsOf p x) c.args.problem.now) (sym c.from_parts.ensures) found

pub returns-clause-exact : goal.returns-clause-exact
returns-clause-exact g c = λ exact.
    let p = c.args.program.now in
    let x = c.args.points.now in
    let n : c.from_vec.result ≡ x.nodes = c.from_vec.ensures ∙ (c.in-Ok-copied.ensures ∙ (c.as_slice-3.ensures.list ∙ c.nodes.ensures.nodes)) in
    let sketch = c.in-Ok-sketched.sketch in
    let ordered = subst (IsOrdered EdgeBefore) (sym c.from_vec-2.ensures) c.in-Ok-settled.ensures.ordered in
    let same = subst (λ es. HaveSame es sketch.edges.items) (sym c.from_vec-2.ensures) c.in-Ok-settled.ensures.same in
    let found = is_graph_by p x c.len.ensures.well c.requires.points c.args.problem.now sketch c.in-Ok-sketched.ensures c.from_vec.result c.from_vec-2.result n ordered same c.in-Ok-settled.ensures.whole in
    graph_as p (DefinedAt p) (FactsOf p x) (Holds p) (facts_hold p x c.len.ensures.well exact) (holds_facts p x c.len.ensures.well exact) c.args.problem.now c.from_parts.result
    (subst (IsGraphBy p (DefinedAt p) (FactsOf p x) c.args.problem.now) (sym c.from_parts.ensures) found)
