use Rattle.std.proofs.Common.{◌≡◌, ℕ, ◌+◌, ◌<◌, ◌≤◌, Some, sym, ◌∙◌, inl, inr, arith, subst}
use Rattle.std.proofs.lemmas.Bool.{cases_lt}
use Rattle.argot_plain.specs.Code.{IsFunction}
use Rattle.argot_plain.specs.declared.functions.Function.{Function}
use Rattle.argot_escape.specs.Flooding.{GoLeadsTo, FunctionLeadsTo}
use Rattle.argot_escape.proofs.Finding.{finds_none, finds_both, finds_as, ready_on}
use Rattle.argot_escape.proofs.starts.reach_function.Goals as goal

pub overflow_add-place-end : goal.overflow_add-place-end
overflow_add-place-end c =
    let r = c.requires.well.ranges.inside c.args.g c.function-function.result.now c.function-function.ensures in
    let l = c.requires.well.limits.instrs in
    omega (arith, r.2)

pub reach_go-requires-clause-inside : goal.reach_go-requires-clause-inside
reach_go-requires-clause-inside c =
    let r = c.requires.well.ranges.inside c.args.g c.function-function.result.now c.function-function.ensures in
    omega (arith, r.2)

pub loop-place-init : goal.loop-place-init
loop-place-init c = record {
  ready = c.requires.ready;
  finds = finds_none (λ m. (i : ℕ) × (c.function-function.result.now.entry ≤ i) × (i < c.function-function.result.now.entry) × GoLeadsTo c.args.program.now c.args.points.now i m) c.args.found.now (λ m h. absurd (omega (arith, h.1, h.2)));
}

pub loop-place-preserved : goal.loop-place-preserved
loop-place-preserved c =
    let p = c.args.program.now in
    let x = c.args.points.now in
    let entry = c.function-function.result.now.entry in
    let k = c.loop-place.place in
    record {
      ready = ready_on x.locations (GoLeadsTo p x k) c.loop-place.found c.reach_go.new.found c.reach_go.ensures c.loop-place.invariant.ready;
      finds = finds_both (λ m. (i : ℕ) × (entry ≤ i) × (i < k) × GoLeadsTo p x i m) (GoLeadsTo p x k) (λ m. (i : ℕ) × (entry ≤ i) × (i < k + 1) × GoLeadsTo p x i m) c.args.found.now c.loop-place.found c.reach_go.new.found
          (λ m h. elim h [ inl y ↦ (y.0, y.1, omega (arith, y.2), y.3) | inr y ↦ (k, c.loop-place.auto.place, omega arith, y) ])
          (λ m y. elim (cases_lt y.0 k) [ inl l ↦ inl (y.0, y.1, l, y.3) | inr l ↦ let e : y.0 ≡ k = omega (arith, y.2) in inr (subst (λ n. GoLeadsTo p x n m) e y.3) ])
          c.loop-place.invariant.finds c.reach_go.ensures;
    }

pub returns : goal.returns
returns c =
    let p = c.args.program.now in
    let x = c.args.points.now in
    let fn = c.function-function.result.now in
    let is : IsFunction p c.args.g fn = c.function-function.ensures in
    let r = c.requires.well.ranges.inside c.args.g fn is in
    let k = c.loop-place.place in
    let upto : k ≤ fn.leave + 1 = c.loop-place.auto.place-end (omega (arith, r.0, r.1)) in
    finds_as (λ m. (i : ℕ) × (fn.entry ≤ i) × (i < k) × GoLeadsTo p x i m) (FunctionLeadsTo p x c.args.g) c.args.found.now c.loop-place.found
    (λ m y. record { place = y.0; inside = record { fn = fn; is = is; low = y.1; high = omega (arith, y.2) }; leads = y.3 })
    (λ m h.
    let e : Some h.inside.fn ≡ Some fn = sym h.inside.is ∙ is in
    let f : h.inside.fn ≡ fn = cc in
    let low = h.inside.low in
    let high = h.inside.high in
    (h.place, subst (λ (z : Function). z.entry ≤ h.place) f low, (let b : h.place ≤ fn.leave = subst (λ (z : Function). h.place ≤ z.leave) f high in omega arith), h.leads))
    c.loop-place.invariant.finds
