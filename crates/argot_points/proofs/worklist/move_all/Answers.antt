use Rattle.std.proofs.Common.{arith, ◌∙◌, sym, subst, inl, inr}
use Rattle.std.proofs.lemmas.Bool.{cases_eq, both_ways}
use Rattle.std.proofs.lemmas.Grind.{common_steps}
use Rattle.std.proofs.lemmas.Option.{slice_get_within}
use Rattle.argot_points.specs.Solved.{IsDone}
use Rattle.argot_points.proofs.Framed.{settled_on}
use Rattle.argot_points.proofs.worklist.move_all.Goals as goal
use Rattle.argot_points.proofs.worklist.move_all.Goals.{then-move_on, else-move_on}

pub loop-k-preserved : goal.loop-k-preserved
loop-k-preserved c =
    let i = c.loop-k.invariant in
    let on = settled_on c.args.system.now c.loop-k.tables c.move_on.new.tables c.move_on.ensures.advances i.settled in
    elim c.if-move_on.branch [
      | then-move_on w ↦ record {
        sound = c.move_on.ensures.sound;
        settled = on;
        closed = λ a. absurd (both_ways _ a w.changed-is);
        same = λ a. absurd (both_ways _ a w.changed-is);
        room = grind (arith, common_steps);
      }
      | else-move_on w ↦ record {
        sound = c.move_on.ensures.sound;
        settled = on;
        closed = λ a j o l at moves. elim (cases_eq j c.loop-k.k) [
          | inl q ↦ c.move_on.ensures.closed w.if-move_on.false o (rw (← q) at) moves
          | inr n ↦ subst (λ t. IsDone c.args.system.now t o) (sym (c.move_on.ensures.same w.if-move_on.false)) (i.closed (sym w.changed-is ∙ a) j o (omega arith) at moves)
        ];
        same = λ a. c.move_on.ensures.same w.if-move_on.false ∙ i.same (sym w.changed-is ∙ a);
        room = grind (arith, common_steps);
      }
    ]

pub returns-clause-closed : goal.returns-clause-closed
returns-clause-closed c = λ a k o at moves. c.loop-k.invariant.closed a k o (omega (arith, slice_get_within c.args.system.now.rules.items k o at)) at moves
