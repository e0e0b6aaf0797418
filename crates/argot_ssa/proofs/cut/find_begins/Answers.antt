use Rattle.std.proofs.Common.{sym, subst, inl, inr, arith}
use Rattle.std.proofs.lemmas.Bool.{cases_eq}
use Rattle.argot_ssa.specs.Edges.{holds}
use Rattle.argot_ssa.specs.Places.{Cuts}
use Rattle.argot_ssa.proofs.Heads.{cuts_kept}
use Rattle.argot_ssa.proofs.cut.find_begins.Goals as goal

pub loop-k-preserved : goal.loop-k-preserved
loop-k-preserved c = record {
  set = c.in_ok-mark_at.ensures.set;
  entry = c.in_ok-mark_at.ensures.kept 0 c.loop-k.invariant.entry;
  cuts = λ j low. elim (cases_eq j c.loop-k.k) [
    | inl same ↦ subst (Cuts c.args.program.now c.args.function.now (holds c.mark_at.new.begins)) (sym same) c.in_ok-mark_at.ensures.cuts
    | inr other ↦ cuts_kept c.args.program.now c.args.function.now _ _ j c.in_ok-mark_at.ensures.kept (c.loop-k.invariant.cuts j (omega arith))
  ];
}
