use Rattle.std.proofs.Common.{arith, ◌∙◌, sym, inl, inr}
use Rattle.std.proofs.lemmas.Bool.{cases_eq, both_ways}
use Rattle.std.proofs.lemmas.Grind.{common_steps}
use Rattle.std.proofs.lemmas.Option.{slice_get_within}
use Rattle.argot_points.proofs.Growing.{advances_on}
use Rattle.argot_points.proofs.leaves.hand_back_leaves.Goals as goal
use Rattle.argot_points.proofs.leaves.hand_back_leaves.Goals.{then-hand_back_leaf, else-hand_back_leaf}

pub hand_back_leaf-requires-clause-rule : goal.hand_back_leaf-requires-clause-rule
hand_back_leaf-requires-clause-rule c = λ at n m y e f. c.requires.rule n m y (record { leaf = c.loop-leaf.leaf; at = at; row = f }) e

pub loop-leaf-preserved : goal.loop-leaf-preserved
loop-leaf-preserved c = elim c.if-hand_back_leaf.branch [
  | then-hand_back_leaf w ↦ record {
    sound = c.hand_back_leaf.ensures.sound;
    advances = advances_on c.args.system.now c.args.tables.now c.loop-leaf.tables c.hand_back_leaf.new.tables c.loop-leaf.invariant.advances c.hand_back_leaf.ensures.advances;
    closed = λ a. absurd (both_ways _ a w.changed-is);
    same = λ a. absurd (both_ways _ a w.changed-is);
    room = grind (arith, common_steps);
  }
  | else-hand_back_leaf w ↦ record {
    sound = c.hand_back_leaf.ensures.sound;
    advances = advances_on c.args.system.now c.args.tables.now c.loop-leaf.tables c.hand_back_leaf.new.tables c.loop-leaf.invariant.advances c.hand_back_leaf.ensures.advances;
    closed = λ a b l. elim (cases_eq b c.loop-leaf.leaf) [
      | inl q ↦ rw q (c.hand_back_leaf.ensures.closed w.if-hand_back_leaf.false)
      | inr n ↦ rw (c.hand_back_leaf.ensures.same w.if-hand_back_leaf.false) (c.loop-leaf.invariant.closed (sym w.changed-is ∙ a) b (omega arith))
    ];
    same = λ a. c.hand_back_leaf.ensures.same w.if-hand_back_leaf.false ∙ c.loop-leaf.invariant.same (sym w.changed-is ∙ a);
    room = grind (arith, common_steps);
  }
]

pub returns-clause-closed : goal.returns-clause-closed
returns-clause-closed c = λ a n m w f. c.loop-leaf.invariant.closed a w.leaf (omega (arith, slice_get_within c.args.leaves.now w.leaf c.args.path.now w.at)) w.at n m f w.row
