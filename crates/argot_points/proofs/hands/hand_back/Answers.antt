use Rattle.std.proofs.Common.{refl, sym, subst, List}
use Rattle.argot_text.specs.declared.path.PathStep.{PathStep}
use Rattle.argot_points.specs.Meaning.{IsLeafRow}
use Rattle.argot_points.proofs.Called.{few_leaves, handed_row, handed_is}
use Rattle.argot_points.proofs.hands.hand_back.Goals as goal

pub hand_back_leaves-requires-clause-few : goal.hand_back_leaves-requires-clause-few
hand_back_leaves-requires-clause-few c = rw c.leaves_of.ensures (few_leaves _ c.requires.fits.well c.args.g c.in-Some-handed.register c.function-function.result.now c.function-function.ensures)

pub hand_back_leaves-requires-clause-rule : goal.hand_back_leaves-requires-clause-rule
hand_back_leaves-requires-clause-rule c = λ n m y w. c.requires.rule n m y
    (handed_row _ c.args.g c.args.index c.in-Some-handed.register m c.args.path.now c.function-function.result.now c.in-Some-handed.ensures.found c.function-function.ensures c.in-None.is
    (subst (λ (x : List (List PathStep)). IsLeafRow c.args.system.now c.function-function.result.now.leave c.args.index x c.args.path.now m) c.leaves_of.ensures w))

pub returns-in-Some-handed-clause-closed : goal.returns-in-Some-handed-clause-closed
returns-in-Some-handed-clause-closed c = λ a n m h. c.hand_back_leaves.ensures.closed a n m
    (subst (λ (x : List (List PathStep)). IsLeafRow c.args.system.now c.function-function.result.now.leave c.args.index x c.args.path.now m) (sym c.leaves_of.ensures)
    (handed_is _ c.args.g c.args.index c.in-Some-handed.register m c.args.path.now c.function-function.result.now h c.function-function.ensures (c.in-Some-handed.ensures.only h.register h.returned)))

pub returns-in-None-handed-clause-closed : goal.returns-in-None-handed-clause-closed
returns-in-None-handed-clause-closed c = λ a n m h. absurd (c.in-None-handed.ensures.none refl h.register h.returned)
