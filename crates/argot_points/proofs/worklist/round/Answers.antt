use Rattle.std.proofs.Common.{sym, subst, inl, inr}
use Rattle.std.proofs.lemmas.Bool.{cases_Bool, both_ways}
use Rattle.argot_points.specs.Settled.{is_moving}
use Rattle.argot_points.specs.Solved.{IsDone}
use Rattle.argot_points.proofs.worklist.round.Goals as goal

pub returns-clause-done : goal.returns-clause-done
returns-clause-done c = λ a k o at. elim (cases_Bool (is_moving o.rule)) [
  | inl moves ↦ c.move_all.ensures.closed a k o at moves
  | inr stays ↦ subst (λ t. IsDone c.args.system.now t o) (sym (c.move_all.ensures.same a)) (c.drain.ensures.settled k o at stays (λ j r w. both_ways _ (c.drain.ensures.empty j) w))
]
