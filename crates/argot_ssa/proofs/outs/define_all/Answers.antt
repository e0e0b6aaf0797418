use Rattle.std.proofs.Common.{◌≡◌, ℕ, slice_index, true, sym, subst, inl, inr, arith}
use Rattle.std.proofs.lemmas.Bool.{cases_eq}
use Rattle.argot_ssa.specs.Edges.{leads}
use Rattle.argot_ssa.specs.Places.{size, defines_at, IsOut}
use Rattle.argot_ssa.proofs.outs.define_all.Goals as goal

pub loop-r-preserved : goal.loop-r-preserved
loop-r-preserved c =
    let e = c.in_ok-define_one.ensures in
    let i = c.loop-r.invariant in
    let Out : ℕ → Type 0 = λ r. IsOut c.args.heads.now (size c.args.function.now) (defines_at c.args.program.now c.args.function.now r) c.args.k in
    record {
      heads = e.heads;
      kept = λ a b h. e.kept a b (i.kept a b h);
      only = λ a b h. elim (e.only a b h) [
        | inl old ↦ i.only a b old
        | inr new ↦ inr (new.1, subst Out (sym new.0) new.2)
      ];
      there = λ j low out. elim (cases_eq j c.loop-r.r-index) [
        | inl same ↦
            let At : ℕ → ℕ = λ x. slice_index c.args.registers.now x in
            subst (λ x. leads c.define_one.new.outs.lists (At x) c.args.k ≡ true) (sym same) (e.there (subst (λ x. Out (At x)) same out))
        | inr other ↦ e.kept _ _ (i.there j (omega arith) out)
      ];
    }
