use Rattle.std.proofs.Common.{subst, List}
use Rattle.argot_text.specs.declared.path.PathStep.{PathStep}
use Rattle.argot_points.specs.Meaning.{IsLeafRow}
use Rattle.argot_points.proofs.Called.{few_leaves}
use Rattle.argot_points.proofs.hands.enter_param.Goals as goal

pub enter_leaves-requires-clause-few : goal.enter_leaves-requires-clause-few
enter_leaves-requires-clause-few c = rw c.leaves_of.ensures (few_leaves _ c.requires.fits.well c.args.g c.args.param c.function-function.result.now c.function-function.ensures)

pub enter_leaves-requires-clause-rule : goal.enter_leaves-requires-clause-rule
enter_leaves-requires-clause-rule c = λ n m y w. c.requires.rule n m y (record {
  fn = c.function-function.result.now;
  is = c.function-function.ensures;
  within = c.if-param-function.false;
  row = subst (λ (x : List (List PathStep)). IsLeafRow c.args.system.now c.function-function.result.now.entry c.args.param x c.args.path.now m) c.leaves_of.ensures w;
})
