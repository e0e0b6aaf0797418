use Rattle.std.proofs.Common.{◌≡◌, [], length, take, drop, sym, ap, ◌∙◌, arith}
use Rattle.argot_io.specs.Taken.{taken_with}
use Rattle.argot_show.specs.Lines.{lines_onto}
use Rattle.argot_show.proofs.LineLaws.{lines_more, taken_twice}
use Rattle.argot_show.proofs.tokens.write_lines.Goals as goal

pub loop-at-preserved : goal.loop-at-preserved
loop-at-preserved g c =
    let stretch = c.split_at-in-loop-at.ensures in
    let same : c.split_at-in-loop-at.result.0.now ≡ take (length c.split_at-in-loop-at.result.0.now) (drop c.loop-at.at c.args.tokens.now) =
    stretch.front ∙ (λ i. take (sym stretch.front_len i) (c.split_at.ensures.back i)) in
    let text : c.as_slice.result.now ≡ lines_onto [] c.args.bytes.now c.loop-at.at (take (length c.split_at-in-loop-at.result.0.now) (drop c.loop-at.at c.args.tokens.now)) =
    c.as_slice.ensures.value ∙ c.in_ok-text.ensures ∙ ap (lines_onto [] c.args.bytes.now c.loop-at.at) same in
    record {
      within = omega (arith, stretch.front_len, c.split_at.ensures.back_len, c.min.ensures);
      faults = c.in_ok-write_text.ensures.kept ∙ c.loop-at.invariant.faults;
      taken =
          c.in_ok-write_text.ensures.ok
          ∙ (λ i. taken_with (c.loop-at.invariant.taken i) (text i))
          ∙ taken_twice (g.O.Sink.taken c.args.out.now) (lines_onto [] c.args.bytes.now 0 (take c.loop-at.at c.args.tokens.now)) (lines_onto [] c.args.bytes.now c.loop-at.at (take (length c.split_at-in-loop-at.result.0.now) (drop c.loop-at.at c.args.tokens.now)))
          ∙ ap (taken_with (g.O.Sink.taken c.args.out.now)) (lines_more c.args.bytes.now c.loop-at.at (length c.split_at-in-loop-at.result.0.now) c.args.tokens.now c.loop-at.invariant.within);
    }
