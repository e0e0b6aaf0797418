use Rattle.std.proofs.Common.{inl, inr}
use Rattle.std.proofs.lemmas.Bool.{both_ways}
use Rattle.argot_ssa.specs.Edges.{leads, holds}
use Rattle.argot_ssa.proofs.Carried.{spreads_more}
use Rattle.argot_ssa.proofs.carry.follow.Goals as goal

pub returns-clause-sound : goal.returns-clause-sound
returns-clause-sound c = λ a h. spreads_more c.args.onward.now.lists (holds c.args.work.now.stops) (holds c.expand.new.marks) (leads c.args.onward.now.lists c.args.block)
    (λ b m. elim (c.expand.ensures.only b m) [
      | inl old ↦ absurd (both_ways _ (c.clear.ensures.empty 0 b) old)
      | inr edge ↦ edge
    ])
    (c.flood.ensures.sound a h)
