use Rattle.std.proofs.Common.{◌≡◌, ℕ, true, slice_index, sym, subst, inl, inr}
use Rattle.std.proofs.lemmas.Bool.{both_ways}
use Rattle.argot_links.specs.Table.{Table}
use Rattle.argot_ssa.specs.Edges.{leads, holds}
use Rattle.argot_ssa.proofs.Register.{carried_found, found_carried}
use Rattle.argot_ssa.proofs.carry.carry.Goals as goal
use Rattle.argot_ssa.proofs.carry.carry.Goals.{After-carry_all}

abbrev stops : After-carry_all → Table
stops c = c.find_needed.new.work.stops

there : (c : After-carry_all) → (d : ℕ) → leads c.args.outs.now.lists c.args.r d ≡ true → holds (stops c) (slice_index c.args.heads.now d) ≡ true
there c d h = subst (λ t. holds t (slice_index c.args.heads.now d) ≡ true) (sym c.find_needed.ensures.stops) (c.mark_blocks.ensures.there d h)

only : (c : After-carry_all) → (a : ℕ) → holds (stops c) a ≡ true → (d : ℕ) × (leads c.args.outs.now.lists c.args.r d ≡ true) × (slice_index c.args.heads.now d ≡ a)
only c a h = elim (c.mark_blocks.ensures.only a (subst (λ t. holds t a ≡ true) c.find_needed.ensures.stops h)) [
  | inl old ↦ absurd (both_ways _ (c.clear.ensures.empty 0 a) old)
  | inr new ↦ new
]

pub returns-clause-only : goal.returns-clause-only
returns-clause-only c = λ x h.
    let d = (goal.at.returns-clause-only c).After-carry_all in
    elim (c.in_ok-carry_all.ensures.only x h) [
      | inl old ↦ inl old
      | inr new ↦ inr (carried_found c.args.program.now c.args.function.now c.args.heads.now c.requires.cut c.args.net.now.onward.lists c.args.net.now.back.lists c.requires.net
          c.args.outs.now.lists c.args.asks.now.lists c.requires.outs c.requires.asks c.args.r (holds (stops d)) (there d) (only d) x new)
    ]

pub returns-clause-there : goal.returns-clause-there
returns-clause-there c = λ x f same exposed.
    let d = (goal.at.returns-clause-there c).After-carry_all in
    c.in_ok-carry_all.ensures.there x
    (found_carried c.args.program.now c.args.function.now c.args.heads.now c.requires.cut c.args.net.now.onward.lists c.args.net.now.back.lists c.requires.net
    c.args.outs.now.lists c.args.asks.now.lists c.requires.outs c.requires.asks c.args.r (holds (stops d)) (there d) (only d) x f same exposed)
