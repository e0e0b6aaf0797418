use Rattle.std.proofs.Common.{◌≡◌, ◌++◌, ◌∷◌, [], refl, ap, sym, ◌∙◌, subst, inl, inr, rules, append_assoc, append-nil}
use Rattle.argot_links.specs.Table.{row}
use Rattle.argot_plain.specs.Lists.{In, here}
use Rattle.argot_facts.proofs.Listed.{In-append, In-left, In-right}
use Rattle.argot_points.specs.Meaning.{Means}
use Rattle.argot_points.proofs.Each.{one-In}
use Rattle.argot_points.proofs.Rows.{has_row, row_has}
use Rattle.argot_points.proofs.aiming.mark_row.Goals as goal
use Rattle.argot_points.proofs.aiming.mark_row.Goals.{In-Some, In-None}

whole : (c : In-Some) → c.loop-y.yielded ++ (c.in-Some.y ∷ c.next.new.self) ≡ row c.args.refers.now c.args.r
whole c = ap (λ rest. c.loop-y.yielded ++ rest) (sym c.in-Some.ensures.steps) ∙ c.loop-y.invariant.rest

all : (c : In-None) → c.loop-y.yielded ≡ row c.args.refers.now c.args.r
all c = sym (append-nil c.loop-y.yielded) ∙ ap (λ rest. c.loop-y.yielded ++ rest) (sym c.in-None.ensures.steps.0) ∙ c.loop-y.invariant.rest

pub loop-y-preserved : goal.loop-y-preserved
loop-y-preserved c =
    let i = c.loop-y.invariant in
    let e = c.mark_at.ensures in
    let y = c.in-Some.y in
    record {
      rest = rw append_assoc (whole (goal.at.loop-y-preserved c).In-Some);
      shape = search rules;
      kept = λ g h. e.kept g (i.kept g h);
      there = λ x g takes m means. elim (In-append x c.loop-y.yielded (y ∷ []) m) [
        | inl old ↦ e.kept g (i.there x g takes old means)
        | inr new ↦ e.there g takes (subst (λ z. Means c.args.system.now c.args.callee.now z g takes) (one-In x y new) means)
      ];
      only = λ g h. elim (e.only g h) [
        | inl old ↦ elim (i.only g old) [ inl a ↦ inl a | inr x ↦ inr (x.0, x.1, In-left x.0 c.loop-y.yielded (y ∷ []) x.2, x.3) ]
        | inr x ↦ inr (y, x.0, In-right y c.loop-y.yielded (y ∷ []) (here refl), x.1)
      ];
    }

pub returns-clause-there : goal.returns-clause-there
returns-clause-there c = λ y g takes h means.
    c.loop-y.invariant.there y g takes (subst (λ ys. In y ys) (sym (all (goal.at.returns-clause-there c).In-None)) (has_row c.args.refers.now c.args.r y h)) means

pub returns-clause-only : goal.returns-clause-only
returns-clause-only c = λ g h. elim (c.loop-y.invariant.only g h) [
  | inl a ↦ inl a
  | inr x ↦ inr (x.0, x.1, row_has c.args.refers.now c.args.r x.0 (subst (λ ys. In x.0 ys) (all (goal.at.returns-clause-only c).In-None) x.2), x.3)
]
