-- The edges of a call of an external, by the numbers of the nodes of its place.
use Rattle.std.proofs.Common.{◌≡◌, ℕ, ◌+◌, ◌<◌, ◌≤◌, List, Some, length, sym, ap, ◌∙◌, subst, inl, inr, arith, refl}
use Rattle.std.specs.Prelude.{slice_get}
use Rattle.std.proofs.lemmas.Bool.{cases_lt}
use Rattle.argot_plain.specs.Code.{Code, IsAt, arguments}
use Rattle.argot_plain.specs.declared.instructions.Callee.{Callee}
use Rattle.argot_plain.specs.declared.instructions.Kind.TheVariants.{Call}
use Rattle.argot_plain.specs.declared.problems.Problem.{Problem}
use Rattle.argot_facts.specs.Pointing.{Pointing}
use Rattle.argot_facts.specs.declared.graphs.Edge.{Edge}
use Rattle.argot_facts.specs.declared.graphs.EdgeKind.TheVariants.{Plain}
use Rattle.argot_facts.specs.declared.nodes.Node.{Node}
use Rattle.argot_facts.proofs.Listed.{get_at}
use Rattle.argot_graph_edges.specs.Outward.{FlowsOut, FromArguments, OfExternal}

-- where the nodes of a place begin, those of the next place don't begin earlier
pub in_order : (ns : List Node) (i first last : ℕ) → first ≤ length ns → ((m : ℕ) (a : Node) → slice_get ns m ≡ Some a → m < first → a.place < i)
    → ((m : ℕ) (a : Node) → slice_get ns m ≡ Some a → last ≤ m → i + 1 ≤ a.place) → first ≤ last
in_order ns i first last l before behind = elim (cases_lt last first) [
  | inl k ↦ (let x = get_at ns last (omega (arith, k, l)) in absurd (omega (arith, before last x.0 x.1 k, behind last x.0 x.1 (omega arith))))
  | inr k ↦ omega arith
]

module _ (p : Code) (x : Pointing) (pr : Problem) (i : ℕ) (to : List ℕ) (callee : Callee) (args : List ℕ) (at : IsAt p i (Call to callee args)) (out : FlowsOut p x pr i) (first last : ℕ)
    (before : (m : ℕ) (a : Node) → slice_get x.nodes m ≡ Some a → m < first → a.place < i) (behind : (m : ℕ) (a : Node) → slice_get x.nodes m ≡ Some a → last ≤ m → i + 1 ≤ a.place) where
  pub external_of : (e : Edge) → FromArguments x.nodes i (length to) (length (arguments callee args)) first last e → OfExternal p x pr i e
  external_of e h =
      let f = h.3 in
      let t = f.3.3 in
      record {
        to = to;
        callee = callee;
        args = args;
        at = at;
        out = out;
        from = f.0;
        is_from = ap (λ (w : Edge). slice_get x.nodes w.from) t.3 ∙ f.1;
        argument = f.2;
        end = t.0;
        is_to = ap (λ (w : Edge). slice_get x.nodes w.to) t.3 ∙ t.1;
        result = t.2;
        plain = ap (λ (w : Edge). w.kind) t.3;
      }

  -- a node of the place has a number of these
  within : (m : ℕ) (a : Node) → slice_get x.nodes m ≡ Some a → a.place ≡ i → (first ≤ m) × (m < last)
  within m a g s = (
    elim (cases_lt m first) [ inl l ↦ absurd (omega (arith, before m a g l, s)) | inr l ↦ omega arith ],
    elim (cases_lt m last) [ inl l ↦ l | inr l ↦ absurd (omega (arith, behind m a g (omega arith), s)) ],
  )

  pub external_from : (e : Edge) → OfExternal p x pr i e → FromArguments x.nodes i (length to) (length (arguments callee args)) first last e
  external_from e r =
      let s : Some (Call r.to r.callee r.args) ≡ Some (Call to callee args) = sym r.at ∙ at in
      let t : r.to ≡ to = cc in
      let u : r.callee ≡ callee = cc in
      let v : r.args ≡ args = cc in
      let a = within e.from r.from r.is_from r.argument.0 in
      let b = within e.to r.end r.is_to r.result.0 in
      let k = r.argument.1 in
      let arg = subst (λ xs. k.0 < length (arguments callee xs)) v (subst (λ w. k.0 < length (arguments w r.args)) u k.1) in
      let index : r.from.index ≡ length to + k.0 = k.2 ∙ ap (λ w. length w + k.0) t in
      let same : e ≡ record { from = e.from; to = e.to; kind = Plain } = ap (λ w. record { from = e.from; to = e.to; kind = w }) r.plain in
      (e.from, a.0, a.1, (r.from, r.is_from, (r.argument.0, (k.0, arg, index)), (e.to, b.0, b.1, (r.end, r.is_to, (r.result.0, subst (λ (w : List ℕ). r.end.index < length w) t r.result.1), same))))
