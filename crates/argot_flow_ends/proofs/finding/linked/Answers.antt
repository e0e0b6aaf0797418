use Rattle.std.proofs.Common.{◌≡◌, [], sym, ◌∙◌, subst, inl, inr}
use Rattle.argot_plain.specs.Lists.{In}
use Rattle.argot_facts.specs.declared.findings.Flow.{Flow}
use Rattle.argot_facts.proofs.Listed.{get_within}
use Rattle.argot_flow_ends.specs.Ends.{AreSources, AreArguments}
use Rattle.argot_flow_ends.proofs.Flowing.{link_flows, flow_linked}
use Rattle.argot_flow_ends.proofs.finding.linked.Goals as goal

none : (f : Flow) → In f [] → ⊥
none f m = elim m [ ]

pub add_all-requires-clause-sources : goal.add_all-requires-clause-sources
add_all-requires-clause-sources c = λ s m.
    let p = c.args.asked.now.program.now in
    let pr = c.args.asked.now.problem.now in
    let ns = c.args.graph.now.nodes in
    let same : c.as_slice-nodes.result.now ≡ ns = c.as_slice-nodes.ensures.value ∙ c.nodes.ensures.nodes in
    let sources : AreSources p pr ns c.deref-2.result.now =
    subst (AreSources p pr ns) (sym c.deref-2.ensures.value) (subst (λ xs. AreSources p pr xs c.in_ok-sources.sources.items) same c.in_ok-sources.ensures) in
    let r = (sources s).0 m in
    get_within ns s r.0 r.1

pub add_all-requires-clause-ends : goal.add_all-requires-clause-ends
add_all-requires-clause-ends c = λ e m.
    let p = c.args.asked.now.program.now in
    let pr = c.args.asked.now.problem.now in
    let ns = c.args.graph.now.nodes in
    let same : c.as_slice-nodes.result.now ≡ ns = c.as_slice-nodes.ensures.value ∙ c.nodes.ensures.nodes in
    let ends : AreArguments p pr ns c.deref.result.now =
    subst (AreArguments p pr ns) (sym c.deref.ensures.value) (subst (λ xs. AreArguments p pr xs c.in_ok-ends.ends.items) same c.in_ok-ends.ensures) in
    let r = (ends e).0 m in
    get_within ns e.node r.0 r.1

pub returns : goal.returns
returns c = λ f.
    let p = c.args.asked.now.program.now in
    let pr = c.args.asked.now.problem.now in
    let ns = c.args.graph.now.nodes in
    let same : c.as_slice-nodes.result.now ≡ ns = c.as_slice-nodes.ensures.value ∙ c.nodes.ensures.nodes in
    let sources : AreSources p pr ns c.deref-2.result.now =
    subst (AreSources p pr ns) (sym c.deref-2.ensures.value) (subst (λ xs. AreSources p pr xs c.in_ok-sources.sources.items) same c.in_ok-sources.ensures) in
    let ends : AreArguments p pr ns c.deref.result.now =
    subst (AreArguments p pr ns) (sym c.deref.ensures.value) (subst (λ xs. AreArguments p pr xs c.in_ok-ends.ends.items) same c.in_ok-ends.ensures) in
    let added = c.in_ok-add_all.ensures f in (
      λ m. elim (added.0 m) [
        | inl n ↦ absurd (none f (subst (In f) c.new-flows.ensures.items n))
        | inr l ↦ link_flows p pr c.args.graph.now c.requires.graph c.deref-2.result.now c.deref.result.now sources ends f l
      ],
      λ h. added.1 (inr (flow_linked p pr c.args.graph.now c.requires.graph c.deref-2.result.now c.deref.result.now sources ends f h.0 h.1)),
    )
