use Rattle.std.proofs.Common.{arith, ◌∙◌, sym, inl, inr}
use Rattle.std.proofs.lemmas.Bool.{cases_eq, both_ways}
use Rattle.std.proofs.lemmas.Grind.{common_steps}
use Rattle.std.proofs.lemmas.Option.{slice_get_within}
use Rattle.argot_points.proofs.Growing.{advances_on}
use Rattle.argot_points.proofs.leaves.enter_leaves.Goals as goal
use Rattle.argot_points.proofs.leaves.enter_leaves.Goals.{then-enter_leaf, else-enter_leaf}

pub enter_leaf-requires-clause-rule : goal.enter_leaf-requires-clause-rule
enter_leaf-requires-clause-rule c = λ at m n y e f. c.requires.rule n m y (record { leaf = c.loop-leaf.leaf; at = at; row = e }) f

pub loop-leaf-preserved : goal.loop-leaf-preserved
loop-leaf-preserved c = elim c.if-enter_leaf.branch [
  | then-enter_leaf w ↦ record {
    sound = c.enter_leaf.ensures.sound;
    advances = advances_on c.args.system.now c.args.tables.now c.loop-leaf.tables c.enter_leaf.new.tables c.loop-leaf.invariant.advances c.enter_leaf.ensures.advances;
    closed = λ a. absurd (both_ways _ a w.changed-is);
    same = λ a. absurd (both_ways _ a w.changed-is);
    room = grind (arith, common_steps);
  }
  | else-enter_leaf w ↦ record {
    sound = c.enter_leaf.ensures.sound;
    advances = advances_on c.args.system.now c.args.tables.now c.loop-leaf.tables c.enter_leaf.new.tables c.loop-leaf.invariant.advances c.enter_leaf.ensures.advances;
    closed = λ a b l. elim (cases_eq b c.loop-leaf.leaf) [
      | inl q ↦ rw q (c.enter_leaf.ensures.closed w.if-enter_leaf.false)
      | inr n ↦ rw (c.enter_leaf.ensures.same w.if-enter_leaf.false) (c.loop-leaf.invariant.closed (sym w.changed-is ∙ a) b (omega arith))
    ];
    same = λ a. c.enter_leaf.ensures.same w.if-enter_leaf.false ∙ c.loop-leaf.invariant.same (sym w.changed-is ∙ a);
    room = grind (arith, common_steps);
  }
]

pub returns-clause-closed : goal.returns-clause-closed
returns-clause-closed c = λ a n m w f. c.loop-leaf.invariant.closed a w.leaf (omega (arith, slice_get_within c.args.leaves.now w.leaf c.args.path.now w.at)) w.at m n w.row f
