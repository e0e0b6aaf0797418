use Rattle.std.proofs.Common.{arith, ◌∙◌, sym, inl, inr, rules}
use Rattle.std.proofs.lemmas.Bool.{cases_eq, cases_lt, both_ways}
use Rattle.std.proofs.lemmas.Grind.{common_steps}
use Rattle.argot_points.proofs.Growing.{advances_on}
use Rattle.argot_points.proofs.moves.load_row.Goals as goal
use Rattle.argot_points.proofs.moves.load_row.Goals.{then-load_at, else-load_at}

pub load_at-requires-clause-rule : goal.load_at-requires-clause-rule
load_at-requires-clause-rule c = c.requires.rule c.in-Some.y

pub loop-y-preserved : goal.loop-y-preserved
loop-y-preserved c = elim c.if-load_at.branch [
  | then-load_at w ↦ record {
    sound = c.load_at.ensures.sound;
    advances = advances_on c.args.system.now c.args.tables.now c.loop-y.tables c.load_at.new.tables c.loop-y.invariant.advances c.load_at.ensures.advances;
    within = omega (arith, c.in-Some.ensures.found.1, c.loop-y.invariant.sound.size.cols);
    closed = λ a. absurd (both_ways _ a w.changed-is);
    live = c.load_at.ensures.live ∙ c.loop-y.invariant.live;
    same = λ a. absurd (both_ways _ a w.changed-is);
    room = grind (arith, common_steps);
  }
  | else-load_at w ↦ record {
    sound = c.load_at.ensures.sound;
    advances = advances_on c.args.system.now c.args.tables.now c.loop-y.tables c.load_at.new.tables c.loop-y.invariant.advances c.load_at.ensures.advances;
    within = omega (arith, c.in-Some.ensures.found.1, c.loop-y.invariant.sound.size.cols);
    closed = λ a y l. elim (cases_eq y c.in-Some.y) [
      | inl q ↦ rw q (c.load_at.ensures.closed w.if-load_at.false)
      | inr n ↦ rw (c.load_at.ensures.same w.if-load_at.false) (elim (cases_lt y c.loop-y.from) [ inl b ↦ c.loop-y.invariant.closed (sym w.changed-is ∙ a) y b | inr b ↦ λ h. absurd (both_ways _ (c.in-Some.ensures.first y b (omega arith)) h) ])
    ];
    live = c.load_at.ensures.live ∙ c.loop-y.invariant.live;
    same = λ a. c.load_at.ensures.same w.if-load_at.false ∙ c.loop-y.invariant.same (sym w.changed-is ∙ a);
    room = grind (arith, common_steps);
  }
]

pub returns-clause-closed : goal.returns-clause-closed
returns-clause-closed c = λ a y h. elim (cases_lt y c.loop-y.from) [
  | inl b ↦ c.loop-y.invariant.closed a y b h
  | inr b ↦ absurd (both_ways _ (c.next_from.ensures.none (search rules) y b) h)
]
