use Rattle.std.proofs.Common.{◌≡◌, ℕ, ◌+◌, ◌<◌, ◌≤◌, refl, sym, inl, inr, arith, subst}
use Rattle.std.proofs.lemmas.Bool.{cases_lt}
use Rattle.argot_plain.specs.Code.{IsFunction, IsIn}
use Rattle.argot_control.specs.Pairs.{GoesOnAt, GoesOnIn}
use Rattle.argot_control.proofs.Gaining.{gains_both, gains_as, within_function, bounds_of}
use Rattle.argot_control.proofs.live.gain_nexts.Goals as goal

pub loop-place-preserved : goal.loop-place-preserved
loop-place-preserved c =
    let p = c.args.program.now in
    let entry = c.function-own.result.now.entry in
    let k = c.loop-place.place in
    record {
      gains = gains_both (λ a b. (i : ℕ) × (entry ≤ i) × (i < k) × GoesOnAt p i a b) (GoesOnAt p k) (λ a b. (i : ℕ) × (entry ≤ i) × (i < k + 1) × GoesOnAt p i a b)
          c.args.pairs.now.items c.loop-place.pairs.items c.gain_next.new.pairs.items
          (λ a b u. (u.0, u.1, let l = u.2 in omega arith, u.3))
          (λ a b u. (k, c.loop-place.auto.place, omega arith, u))
          (λ a b u. elim (cases_lt u.0 k) [
            | inl l ↦ inl (u.0, u.1, l, u.3)
            | inr l ↦ let e : u.0 ≡ k = let m = u.2 in omega arith in inr (subst (λ n. GoesOnAt p n a b) e u.3)
          ])
          c.loop-place.invariant.gains c.in_ok-gain_next.ensures;
    }

pub returns : goal.returns
returns c =
    let p = c.args.program.now in
    let h = c.args.h in
    let fn = c.function-own.result.now in
    let is : IsFunction p h fn = c.function-own.ensures in
    let r = c.requires.well.ranges.inside h fn is in
    let k = c.loop-place.place in
    let upto : k ≤ fn.leave + 1 = c.loop-place.auto.place-end (omega (arith, r.0, r.1)) in
    gains_as (λ a b. (i : ℕ) × (fn.entry ≤ i) × (i < k) × GoesOnAt p i a b) (GoesOnIn p h) c.args.pairs.now.items c.loop-place.pairs.items
    (λ a b u. (subst (λ n. IsIn p n h) (sym u.3.0) (within_function p h u.0 fn is u.1 (let l = u.2 in omega arith)), u.3.1))
    (λ a b u. let w = bounds_of p h a fn is u.0 in let hi = w.1 in let e = c.loop-place-test.false in (a, w.0, omega arith, (refl, u.1)))
    c.loop-place.invariant.gains
