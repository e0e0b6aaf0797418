use Rattle.std.proofs.Common.{◌≡◌, ℕ, true, false, sym, ◌∙◌, subst, inl, inr, rules}
use Rattle.std.proofs.lemmas.Bool.{cases_Bool, cases_eq, both_ways}
use Rattle.argot_links.specs.Members.{has}
use Rattle.argot_ssa.specs.Edges.{leads}
use Rattle.argot_ssa.specs.Edges.Spreads.{first, on}
use Rattle.argot_ssa.proofs.flood.flood.Goals as goal
use Rattle.argot_ssa.proofs.flood.flood.Goals.{After-expand}

pub loop-a-init : goal.loop-a-init
loop-a-init c = record {
  cols = search rules;
  marks = search rules;
  queue = search rules;
  kept = λ a h. h;
  marked = c.requires.marked;
  closed = λ a b m w s e f. absurd (both_ways _ w (c.requires.waits a m));
  sound = λ a h. first h;
}

-- what neither waits now nor was taken didn't wait before
not_before : (c : After-expand) → (a : ℕ) → has c.expand.new.queue.items a ≡ false → (a ≡ c.in-Some.a → ⊥) → has c.loop-a.queue.items a ≡ false
not_before c a w other = elim (cases_Bool (has c.loop-a.queue.items a)) [
  | inl there ↦ elim (c.in-Some.ensures.others a there) [
    | inl same ↦ absurd (other same)
    | inr still ↦ absurd (both_ways _ w (c.expand.ensures.waiting a still))
  ]
  | inr absent ↦ absent
]

pub loop-a-preserved-then-not-has : goal.loop-a-preserved-then-not-has
loop-a-preserved-then-not-has c = record {
  cols = search rules;
  marks = search rules;
  queue = search rules;
  kept = λ a h. c.expand.ensures.kept a (c.loop-a.invariant.kept a h);
  marked = λ a h. elim (c.expand.ensures.marked a h) [
    | inl old ↦ c.expand.ensures.kept a (c.loop-a.invariant.marked a (c.in-Some.ensures.rest a old))
    | inr new ↦ new
  ];
  closed = λ a b m w s e f. elim (c.expand.ensures.fresh a m) [
    | inl was ↦ elim (cases_eq a c.in-Some.a) [
      | inl same ↦ c.expand.ensures.there b (subst (λ x. leads c.args.edges.now.lists x b ≡ true) same e) f
      | inr other ↦ c.expand.ensures.kept b (c.loop-a.invariant.closed a b was (not_before c a w other) s e f)
    ]
    | inr waits ↦ absurd (both_ways _ w waits)
  ];
  sound = λ a h. elim (c.expand.ensures.only a h) [
    | inl old ↦ c.loop-a.invariant.sound a old
    | inr edge ↦ on (c.loop-a.invariant.sound _ (c.loop-a.invariant.marked _ c.in-Some.ensures.first)) (sym c.has.ensures ∙ c.if-not-has.true) edge
  ];
}
