use Rattle.std.proofs.Common.{sym, ◌∙◌, arith, length-drop, ap, length}
use Rattle.argot_lex.proofs.Elements.{text_step_at}
use Rattle.argot_lex.proofs.literals.text_front.Goals as goal

pub loop-at-preserved : goal.loop-at-preserved
loop-at-preserved c = record {
  within = omega (arith, c.in_ok-step.ensures.within, length-drop c.loop-at.at c.args.text.now, ap length c.rest.ensures);
  text =
      sym (text_step_at c.args.text.now c.rest.result.now c.loop-at.at c.in_ok-step.step c.rest.ensures (sym c.in_ok-step.ensures.value))
      ∙ c.loop-at.invariant.text;
}
