use Rattle.std.proofs.Common.{◌≡◌, ℕ, ◌+◌, ◌<◌, ◌≤◌, Some, sym, inl, inr, arith, subst}
use Rattle.std.specs.Prelude.{slice_get}
use Rattle.std.proofs.lemmas.Bool.{cases_lt}
use Rattle.argot_facts.proofs.Listed.{get_at}
use Rattle.argot_escape.specs.Flooding.{IndexLeadsTo, AtLeadsTo}
use Rattle.argot_escape.proofs.Finding.{finds_none, finds_both, finds_as, ready_on}
use Rattle.argot_escape.proofs.reaching.reach_index.Goals as goal

pub loop-n-init : goal.loop-n-init
loop-n-init c = record {
  ready = c.requires.ready;
  finds = finds_none (λ m. (n : ℕ) × (c.first_of-first.result ≤ n) × (n < c.first_of-first.result) × AtLeadsTo c.args.points.now c.args.index n m) c.args.found.now (λ m h. absurd (omega (arith, h.1, h.2)));
}

pub loop-n-preserved : goal.loop-n-preserved
loop-n-preserved c =
    let x = c.args.points.now in
    let i = c.args.index in
    let first = c.first_of-first.result in
    let k = c.loop-n.n in
    record {
      ready = ready_on x.locations (AtLeadsTo x i k) c.loop-n.found c.reach_at.new.found c.reach_at.ensures c.loop-n.invariant.ready;
      finds = finds_both (λ m. (n : ℕ) × (first ≤ n) × (n < k) × AtLeadsTo x i n m) (AtLeadsTo x i k) (λ m. (n : ℕ) × (first ≤ n) × (n < k + 1) × AtLeadsTo x i n m) c.args.found.now c.loop-n.found c.reach_at.new.found
          (λ m h. elim h [ inl y ↦ (y.0, y.1, omega (arith, y.2), y.3) | inr y ↦ (k, c.loop-n.auto.n, omega arith, y) ])
          (λ m y. elim (cases_lt y.0 k) [ inl l ↦ inl (y.0, y.1, l, y.3) | inr l ↦ let e : y.0 ≡ k = omega (arith, y.2) in inr (subst (λ n. AtLeadsTo x i n m) e y.3) ])
          c.loop-n.invariant.finds c.reach_at.ensures;
    }

pub returns : goal.returns
returns c =
    let x = c.args.points.now in
    let ns = c.nodes-nodes.result.now in
    let same : ns ≡ x.nodes = c.nodes-nodes.ensures.nodes in
    let first = c.first_of-first.result in
    let last = c.first_of-last.result in
    let in_first = c.first_of-first.ensures.inside in
    let in_last = c.first_of-last.ensures.inside in
    let rising : first ≤ last = elim (cases_lt last first) [
      | inl l ↦ let a = get_at ns last (omega arith) in let b = c.first_of-first.ensures.before last a.0 a.1 l in let d = c.first_of-last.ensures.behind last a.0 a.1 (omega arith) in absurd (omega arith)
      | inr l ↦ l
    ] in
    let to_last : c.loop-n.n ≤ last = c.loop-n.auto.n-end rising in
    let at_last : last ≤ c.loop-n.n = c.loop-n-test.false in
    finds_as (λ m. (n : ℕ) × (first ≤ n) × (n < c.loop-n.n) × AtLeadsTo x c.args.index n m) (IndexLeadsTo x c.args.place c.args.index) c.args.found.now c.loop-n.found
    (λ m y.
    let high = y.2 in
    let a = y.3 in
    let is : slice_get ns y.0 ≡ Some a.0 = subst (λ xs. slice_get xs y.0 ≡ Some a.0) (sym same) a.1 in
    let b = c.first_of-first.ensures.behind y.0 a.0 is y.1 in
    let d = c.first_of-last.ensures.before y.0 a.0 is (omega arith) in
    (y.0, a.0, a.1, omega arith, a.2, a.3))
    (λ m h.
    let is : slice_get ns h.0 ≡ Some h.1 = subst (λ xs. slice_get xs h.0 ≡ Some h.1) (sym same) h.2 in
    let at = h.3 in (
      h.0,
      elim (cases_lt h.0 first) [ inl l ↦ let b = c.first_of-first.ensures.before h.0 h.1 is l in absurd (omega arith) | inr l ↦ l ],
      elim (cases_lt h.0 last) [ inl l ↦ omega arith | inr l ↦ let b = c.first_of-last.ensures.behind h.0 h.1 is l in absurd (omega arith) ],
      (h.1, h.2, h.4, h.5),
    ))
    c.loop-n.invariant.finds
