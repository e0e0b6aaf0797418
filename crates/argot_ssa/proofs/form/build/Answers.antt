use Rattle.std.proofs.Common.{[], subst, inl, inr}
use Rattle.argot_plain.specs.Lists.{In}
use Rattle.argot_ssa.specs.Paths.{Row}
use Rattle.argot_ssa.proofs.Forming.{forms}
use Rattle.argot_ssa.proofs.form.build.Goals as goal
use Rattle.argot_ssa.proofs.form.build.Goals.{After-put_in_order}

none : (x : Row) → In x [] → ⊥
none x h = elim h [ ]

pub returns : goal.returns
returns c =
    let adds = c.in_ok-collect.ensures in
    let order = c.in_ok-put_in_order.ensures in
    forms c.args.program.now c.len.ensures.well c.args.function c.function-of.result.now c.function-of.ensures c.put_in_order.new.rows.items
    (λ x h. elim (adds.only x (order.only x h)) [
      | inl old ↦ absurd (none x (subst (In x) c.new-rows.ensures.items old))
      | inr found ↦ found
    ])
    (λ x f. order.kept x (adds.there x f))
    order.in_order
