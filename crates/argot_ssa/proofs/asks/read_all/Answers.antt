use Rattle.std.proofs.Common.{◌≡◌, ℕ, ◌+◌, slice_index, true, sym, subst, inl, inr, arith}
use Rattle.std.proofs.lemmas.Bool.{cases_eq}
use Rattle.argot_plain.specs.Lists.{In}
use Rattle.argot_ssa.specs.Edges.{leads}
use Rattle.argot_ssa.specs.Places.{reads_at, defines_at, IsLocal, IsExposed}
use Rattle.argot_ssa.proofs.asks.read_all.Goals as goal

pub loop-r-preserved : goal.loop-r-preserved
loop-r-preserved c =
    let e = c.in_ok-read_one.ensures in
    let i = c.loop-r.invariant in
    let p = c.args.program.now in
    let fn = c.args.function.now in
    let hs = c.args.heads.now in
    let r = slice_index c.args.registers.now c.loop-r.r-index in
    let read = c.requires.each c.loop-r.r-index c.loop-r-test.true in
    record {
      heads = e.heads;
      asks_kept = λ a b h. e.asks_kept a b (i.asks_kept a b h);
      asks_only = λ a b h. elim (e.asks_only a b h) [
        | inl old ↦ i.asks_only a b old
        | inr new ↦ inr (new.1, subst (λ x. reads_at p fn x c.args.k ≡ true) (sym new.0) read, subst (λ x. IsExposed hs (defines_at p fn x) c.args.k) (sym new.0) new.2)
      ];
      asks_there = λ j low exposed. elim (cases_eq j c.loop-r.r-index) [
        | inl same ↦
            let At : ℕ → ℕ = λ x. slice_index c.args.registers.now x in
            subst (λ x. leads c.read_one.new.asks.lists (At x) c.args.k ≡ true) (sym same) (e.asks_there (subst (λ x. IsExposed hs (defines_at p fn (At x)) c.args.k) same exposed))
        | inr other ↦ e.asks_kept _ _ (i.asks_there j (omega arith) exposed)
      ];
      rows_kept = λ x h. e.rows_kept x (i.rows_kept x h);
      rows_only = λ x h. elim (e.rows_only x h) [ inl old ↦ i.rows_only x old | inr new ↦ inr new ];
      rows_there = λ j low d here. elim (cases_eq j c.loop-r.r-index) [
        | inl same ↦
            let At : ℕ → ℕ = λ x. slice_index c.args.registers.now x in
            subst (λ x. In (fn.entry + c.args.k, At x, fn.entry + d) c.read_one.new.rows.items) (sym same) (e.rows_there d (subst (λ x. IsLocal hs (defines_at p fn (At x)) d c.args.k) same here))
        | inr other ↦ e.rows_kept _ (i.rows_there j (omega arith) d here)
      ];
    }
