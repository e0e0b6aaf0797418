use Rattle.std.proofs.Common.{arith, ◌∙◌, sym, inl, inr, rules}
use Rattle.std.proofs.lemmas.Bool.{cases_eq, cases_lt, both_ways}
use Rattle.std.proofs.lemmas.Grind.{common_steps}
use Rattle.argot_points.proofs.Growing.{advances_on}
use Rattle.argot_points.proofs.targets.hand_row.Goals as goal
use Rattle.argot_points.proofs.targets.hand_row.Goals.{then-hand_at, else-hand_at}

pub hand_at-requires-clause-rule : goal.hand_at-requires-clause-rule
hand_at-requires-clause-rule c = c.requires.rule c.in-Some.y

pub loop-y-preserved : goal.loop-y-preserved
loop-y-preserved c = elim c.if-hand_at.branch [
  | then-hand_at w ↦ record {
    sound = c.hand_at.ensures.sound;
    advances = advances_on c.args.system.now c.args.tables.now c.loop-y.tables c.hand_at.new.tables c.loop-y.invariant.advances c.hand_at.ensures.advances;
    within = omega (arith, c.in-Some.ensures.found.1, c.loop-y.invariant.sound.size.cols);
    closed = λ a. absurd (both_ways _ a w.changed-is);
    same = λ a. absurd (both_ways _ a w.changed-is);
    room = grind (arith, common_steps);
  }
  | else-hand_at w ↦ record {
    sound = c.hand_at.ensures.sound;
    advances = advances_on c.args.system.now c.args.tables.now c.loop-y.tables c.hand_at.new.tables c.loop-y.invariant.advances c.hand_at.ensures.advances;
    within = omega (arith, c.in-Some.ensures.found.1, c.loop-y.invariant.sound.size.cols);
    closed = λ a y l. elim (cases_eq y c.in-Some.y) [
      | inl q ↦ rw q (c.hand_at.ensures.closed w.if-hand_at.false)
      | inr n ↦ rw (c.hand_at.ensures.same w.if-hand_at.false) (elim (cases_lt y c.loop-y.from) [ inl b ↦ c.loop-y.invariant.closed (sym w.changed-is ∙ a) y b | inr b ↦ λ h. absurd (both_ways _ (c.in-Some.ensures.first y b (omega arith)) h) ])
    ];
    same = λ a. c.hand_at.ensures.same w.if-hand_at.false ∙ c.loop-y.invariant.same (sym w.changed-is ∙ a);
    room = grind (arith, common_steps);
  }
]

pub returns-clause-closed : goal.returns-clause-closed
returns-clause-closed c = λ a y h. elim (cases_lt y c.loop-y.from) [
  | inl b ↦ c.loop-y.invariant.closed a y b h
  | inr b ↦ absurd (both_ways _ (c.next_from.ensures.none (search rules) y b) h)
]
