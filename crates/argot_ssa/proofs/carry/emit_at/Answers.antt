use Rattle.std.proofs.Common.{◌+◌, sym, subst, inl, inr, ◌∙◌}
use Rattle.argot_plain.specs.Lists.{In}
use Rattle.argot_ssa.specs.Paths.{Row}
use Rattle.argot_ssa.proofs.Rows.{in_kept, in_pushed, in_cases}
use Rattle.argot_ssa.proofs.carry.emit_at.Goals as goal
use Rattle.argot_ssa.proofs.carry.emit_at.Goals.{After-push}

abbrev row : After-push → Row
row c = (c.args.entry + c.args.k, c.args.r, c.args.entry + c.args.d)

pub returns-clause-kept : goal.returns-clause-kept
returns-clause-kept c = λ x h. subst (In x) (sym c.in_ok-push.ensures.items) (in_kept _ x h)

pub returns-clause-only : goal.returns-clause-only
returns-clause-only c = λ x h. elim (in_cases c.args.rows.now.items (row (goal.at.returns-clause-only c).After-push) x (subst (In x) c.in_ok-push.ensures.items h)) [
  | inl old ↦ inl old
  | inr new ↦ inr (sym c.has.ensures ∙ c.if-not-has.false, new)
]

pub returns-clause-there : goal.returns-clause-there
returns-clause-there c = λ seen.
    let x = row (goal.at.returns-clause-there c).After-push in
    subst (In x) (sym c.in_ok-push.ensures.items) (in_pushed c.args.rows.now.items x)
