use Rattle.std.proofs.Common.{sym, ◌∙◌, arith, length-drop, ap, length}
use Rattle.argot_lex.proofs.CommentSteps.{general_step_at}
use Rattle.argot_lex.proofs.comments.general_len.Goals as goal

pub loop-at-preserved : goal.loop-at-preserved
loop-at-preserved c = record {
  within = omega (arith, c.in_ok-c.ensures.within, length-drop c.loop-at.at c.args.text.now, ap length c.rest-behind.ensures);
  comment =
      sym (general_step_at c.loop-at.star c.loop-at.breaks c.args.text.now c.rest-behind.result.now c.loop-at.at c.in_ok-c.c c.in_ok-c.size c.rest-behind.ensures (sym c.if-closes.ensures) (sym c.in_ok-c.ensures.value))
      ∙ c.loop-at.invariant.comment;
}
