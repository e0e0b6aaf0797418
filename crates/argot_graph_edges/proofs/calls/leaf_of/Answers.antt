use Rattle.std.proofs.Common.{◌≡◌, ◌<◌, ℕ, Some, true, false, slice_get, sym, ap, ◌∙◌, arith, inl, inr}
use Rattle.std.proofs.lemmas.Bool.{cases_lt, cases_eq}
use Rattle.argot_facts.proofs.Listed.{get_within}
use Rattle.argot_graph_edges.proofs.calls.leaf_of.Goals as goal

pub loop-leaf-preserved : goal.loop-leaf-preserved
loop-leaf-preserved c = λ a l e. elim (cases_eq a c.loop-leaf.leaf) [
  | inl s ↦
      (let x : true ≡ false = sym (c.is_leaf-in-loop-leaf.ensures.no (ap (slice_get c.args.leaves.now) (sym s) ∙ e)) ∙ c.if-is_leaf-2.false in
      absurd cc)
  | inr s ↦ c.loop-leaf.invariant a (omega arith) e
]

pub returns-clause-none : goal.returns-clause-none
returns-clause-none c = λ z a e. c.loop-leaf.invariant a (omega (arith, get_within c.args.leaves.now a c.args.path.now e, c.loop-leaf-test.false)) e
