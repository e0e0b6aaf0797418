use Rattle.std.proofs.Common.{arith, ◌∙◌, sym, inl, inr, rules}
use Rattle.std.proofs.lemmas.Bool.{cases_eq, cases_lt, both_ways}
use Rattle.std.proofs.lemmas.Grind.{common_steps}
use Rattle.argot_points.proofs.Growing.{advances_on}
use Rattle.argot_points.proofs.choosing.choose_row.Goals as goal
use Rattle.argot_points.proofs.choosing.choose_row.Goals.{then-choose_at, else-choose_at}

pub choose_at-requires-clause-rule : goal.choose_at-requires-clause-rule
choose_at-requires-clause-rule c = c.requires.rule c.in-Some.y

pub loop-y-preserved : goal.loop-y-preserved
loop-y-preserved c = elim c.if-choose_at.branch [
  | then-choose_at w ↦ record {
    sound = c.choose_at.ensures.sound;
    advances = advances_on c.args.system.now c.args.tables.now c.loop-y.tables c.choose_at.new.tables c.loop-y.invariant.advances c.choose_at.ensures.advances;
    within = omega (arith, c.in-Some.ensures.found.1, c.loop-y.invariant.sound.size.cols);
    closed = λ a. absurd (both_ways _ a w.changed-is);
    live = c.choose_at.ensures.live ∙ c.loop-y.invariant.live;
    same = λ a. absurd (both_ways _ a w.changed-is);
    room = grind (arith, common_steps);
  }
  | else-choose_at w ↦ record {
    sound = c.choose_at.ensures.sound;
    advances = advances_on c.args.system.now c.args.tables.now c.loop-y.tables c.choose_at.new.tables c.loop-y.invariant.advances c.choose_at.ensures.advances;
    within = omega (arith, c.in-Some.ensures.found.1, c.loop-y.invariant.sound.size.cols);
    closed = λ a y l. elim (cases_eq y c.in-Some.y) [
      | inl q ↦ rw q (c.choose_at.ensures.closed w.if-choose_at.false)
      | inr n ↦ rw (c.choose_at.ensures.same w.if-choose_at.false) (elim (cases_lt y c.loop-y.from) [ inl b ↦ c.loop-y.invariant.closed (sym w.changed-is ∙ a) y b | inr b ↦ λ h. absurd (both_ways _ (c.in-Some.ensures.first y b (omega arith)) h) ])
    ];
    live = c.choose_at.ensures.live ∙ c.loop-y.invariant.live;
    same = λ a. c.choose_at.ensures.same w.if-choose_at.false ∙ c.loop-y.invariant.same (sym w.changed-is ∙ a);
    room = grind (arith, common_steps);
  }
]

pub returns-clause-closed : goal.returns-clause-closed
returns-clause-closed c = λ a y h. elim (cases_lt y c.loop-y.from) [
  | inl b ↦ c.loop-y.invariant.closed a y b h
  | inr b ↦ absurd (both_ways _ (c.next_from.ensures.none (search rules) y b) h)
]
