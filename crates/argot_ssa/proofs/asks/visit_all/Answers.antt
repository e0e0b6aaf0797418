use Rattle.std.proofs.Common.{ℕ, ◌+◌, subst, inl, inr, rules, arith}
use Rattle.std.proofs.lemmas.Bool.{cases_eq}
use Rattle.argot_ssa.specs.Paths.{Row, IsLocalRow, IsLocalUpTo}
use Rattle.argot_ssa.proofs.Rows.{adds_more}
use Rattle.argot_ssa.proofs.asks.visit_all.Goals as goal

pub loop-k-preserved : goal.loop-k-preserved
loop-k-preserved c =
    let e = c.in_ok-visit.ensures in
    let i = c.loop-k.invariant in
    let At : ℕ → Row → Type 0 = λ k. IsLocalRow c.args.program.now c.args.function.now c.args.heads.now k in
    let To : ℕ → Row → Type 0 = λ k. IsLocalUpTo c.args.program.now c.args.function.now c.args.heads.now k in
    record {
      count = search rules;
      heads = search rules;
      latest = e.latest;
      asks = e.asks;
      rows = adds_more c.args.rows.now.items c.loop-k.rows.items c.visit.new.rows.items (To c.loop-k.k) (At c.loop-k.k) (To (c.loop-k.k + 1))
          (λ x h. elim (cases_eq h.0 c.loop-k.k) [
            | inl same ↦ inr (subst (λ k. At k x) same h.2)
            | inr other ↦ inl (h.0, (let low = h.1 in omega arith), h.2)
          ])
          (λ x h. (h.0, (let low = h.1 in omega arith), h.2))
          (λ x h. (c.loop-k.k, omega arith, h))
          i.rows e.rows;
    }
