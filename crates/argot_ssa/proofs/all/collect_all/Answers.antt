use Rattle.std.proofs.Common.{◌+◌, subst, inl, inr, arith}
use Rattle.std.proofs.lemmas.Bool.{cases_eq}
use Rattle.argot_plain.specs.Code.{IsFunction}
use Rattle.argot_ssa.specs.Paths.{IsFound}
use Rattle.argot_ssa.specs.Form.{IsFoundIn}
use Rattle.argot_ssa.proofs.Ranges.{same_function}
use Rattle.argot_ssa.proofs.Rows.{adds_more}
use Rattle.argot_ssa.proofs.all.collect_all.Goals as goal

pub loop-number-preserved : goal.loop-number-preserved
loop-number-preserved c =
    let p = c.args.program.now in
    let n = c.loop-number.number in
    let fn = c.function.result.now in
    adds_more c.args.rows.now.items c.loop-number.rows.items c.collect.new.rows.items (IsFoundIn p n) (IsFound p fn) (IsFoundIn p (n + 1))
    (λ x h. elim (cases_eq h.g n) [
      | inl same ↦ inr (subst (λ f. IsFound p f x) (same_function p c.requires n h.fn fn (subst (λ g. IsFunction p g h.fn) same h.is) c.function.ensures) h.found)
      | inr other ↦ inl (record { g = h.g; below = (let low = h.below in omega arith); fn = h.fn; is = h.is; found = h.found })
    ])
    (λ x h. record { g = h.g; below = (let low = h.below in omega arith); fn = h.fn; is = h.is; found = h.found })
    (λ x h. record { g = n; below = omega arith; fn = fn; is = c.function.ensures; found = h })
    c.loop-number.invariant c.in_ok-collect.ensures
