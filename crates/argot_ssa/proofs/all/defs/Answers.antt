use Rattle.std.proofs.Common.{◌≡◌, [], map, subst, inl, inr, ◌∙◌}
use Rattle.argot_plain.specs.Lists.{In}
use Rattle.argot_ssa.specs.Paths.{Row}
use Rattle.argot_ssa.specs.Form.{as_triple}
use Rattle.argot_ssa.proofs.Whole.{all_defs}
use Rattle.argot_ssa.proofs.all.defs.Goals as goal

none : (x : Row) → In x [] → ⊥
none x h = elim h [ ]

pub returns : goal.returns
returns c =
    let adds = c.in_ok-collect_all.ensures in
    let order = c.in_ok-put_in_order.ensures in
    let turned : c.from_vec.result ≡ map as_triple c.put_in_order.new.rows.items = c.from_vec.ensures ∙ c.turn_all.ensures in
    rw turned (all_defs c.args.program.now c.len.ensures.well c.put_in_order.new.rows.items
    (λ x h. elim (adds.only x (order.only x h)) [
      | inl old ↦ absurd (none x (subst (In x) c.new-rows.ensures.items old))
      | inr found ↦ found
    ])
    (λ x f. order.kept x (adds.there x f))
    order.in_order)
