use Rattle.std.proofs.Common.{◌≡◌, ℕ, ◌+◌, ◌<◌, ◌≤◌, Some, sym, inl, inr, arith, subst}
use Rattle.std.specs.Prelude.{slice_get}
use Rattle.std.proofs.lemmas.Bool.{cases_lt}
use Rattle.argot_facts.proofs.Listed.{get_at}
use Rattle.argot_escape.specs.Flooding.{NodeLeadsTo, RowLeadsTo}
use Rattle.argot_escape.proofs.Finding.{finds_none, finds_both, finds_as, ready_on}
use Rattle.argot_escape.proofs.starts.reach_place.Goals as goal

pub loop-n-init : goal.loop-n-init
loop-n-init c = record {
  ready = c.requires.ready;
  finds = finds_none (λ m. (n : ℕ) × (c.first_of-first.result ≤ n) × (n < c.first_of-first.result) × RowLeadsTo c.args.points.now n m) c.args.found.now (λ m h. absurd (omega (arith, h.1, h.2)));
}

pub loop-n-preserved : goal.loop-n-preserved
loop-n-preserved c =
    let x = c.args.points.now in
    let first = c.first_of-first.result in
    let k = c.loop-n.n in
    record {
      ready = ready_on x.locations (RowLeadsTo x k) c.loop-n.found c.reach_node.new.found c.reach_node.ensures c.loop-n.invariant.ready;
      finds = finds_both (λ m. (n : ℕ) × (first ≤ n) × (n < k) × RowLeadsTo x n m) (RowLeadsTo x k) (λ m. (n : ℕ) × (first ≤ n) × (n < k + 1) × RowLeadsTo x n m) c.args.found.now c.loop-n.found c.reach_node.new.found
          (λ m h. elim h [ inl y ↦ (y.0, y.1, omega (arith, y.2), y.3) | inr y ↦ (k, c.loop-n.auto.n, omega arith, y) ])
          (λ m y. elim (cases_lt y.0 k) [ inl l ↦ inl (y.0, y.1, l, y.3) | inr l ↦ let e : y.0 ≡ k = omega (arith, y.2) in inr (subst (λ n. RowLeadsTo x n m) e y.3) ])
          c.loop-n.invariant.finds c.reach_node.ensures;
    }

pub returns : goal.returns
returns c =
    let x = c.args.points.now in
    let ns = c.nodes-nodes.result.now in
    let same : ns ≡ x.nodes = c.nodes-nodes.ensures.nodes in
    let first = c.first_of-first.result in
    let last = c.first_of-last.result in
    let in_first = c.first_of-first.ensures.inside in
    let in_last = c.first_of-last.ensures.inside in
    let rising : first ≤ last = elim (cases_lt last first) [
      | inl l ↦ let a = get_at ns last (omega arith) in let b = c.first_of-first.ensures.before last a.0 a.1 l in let d = c.first_of-last.ensures.behind last a.0 a.1 (omega arith) in absurd (omega arith)
      | inr l ↦ l
    ] in
    let to_last : c.loop-n.n ≤ last = c.loop-n.auto.n-end rising in
    let at_last : last ≤ c.loop-n.n = c.loop-n-test.false in
    finds_as (λ m. (n : ℕ) × (first ≤ n) × (n < c.loop-n.n) × RowLeadsTo x n m) (NodeLeadsTo x c.args.place) c.args.found.now c.loop-n.found
    (λ m y.
    let low = y.1 in
    let high = y.2 in
    let a = get_at ns y.0 (omega arith) in
    let b = c.first_of-first.ensures.behind y.0 a.0 a.1 y.1 in
    let d = c.first_of-last.ensures.before y.0 a.0 a.1 (omega arith) in
    record { number = y.0; node = a.0; is = subst (λ xs. slice_get xs y.0 ≡ Some a.0) same a.1; place = omega arith; leads = y.3 })
    (λ m h.
    let is : slice_get ns h.number ≡ Some h.node = subst (λ xs. slice_get xs h.number ≡ Some h.node) (sym same) h.is in
    let at = h.place in (
      h.number,
      elim (cases_lt h.number first) [ inl l ↦ let b = c.first_of-first.ensures.before h.number h.node is l in absurd (omega arith) | inr l ↦ l ],
      elim (cases_lt h.number last) [ inl l ↦ omega arith | inr l ↦ let b = c.first_of-last.ensures.behind h.number h.node is l in absurd (omega arith) ],
      h.leads,
    ))
    c.loop-n.invariant.finds
