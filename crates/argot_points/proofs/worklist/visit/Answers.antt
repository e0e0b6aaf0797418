use Rattle.std.proofs.Common.{◌≡◌, ◌++◌, ◌∷◌, [], true, slice_index_or, ap, sym, ◌∙◌, subst, inl, inr, arith, append_assoc, append-nil}
use Rattle.std.proofs.lemmas.Bool.{cases_Bool, both_ways}
use Rattle.std.proofs.lemmas.Grind.{common_steps}
use Rattle.argot_links.specs.Members.{has as contains}
use Rattle.argot_links.proofs.Having.{pushed_cases}
use Rattle.argot_points.specs.Settled.{Reads}
use Rattle.argot_points.specs.Solved.{IsDone}
use Rattle.argot_points.proofs.Framed.{settled_but_on}
use Rattle.argot_points.proofs.Growing.{at_middle}
use Rattle.argot_points.proofs.worklist.visit.Goals as goal
use Rattle.argot_points.proofs.worklist.visit.Goals.{In-Some}

whole : (c : In-Some) → c.loop-k.yielded ++ (c.in-Some.k ∷ c.next.new.self) ≡ slice_index_or c.args.uses.now.lists c.args.key []
whole c = ap (λ rest. c.loop-k.yielded ++ rest) (sym c.in-Some.ensures.steps) ∙ c.loop-k.invariant.rest

used : (c : In-Some) → contains (slice_index_or c.args.uses.now.lists c.args.key []) c.in-Some.k ≡ true
used c = subst (λ xs. contains xs c.in-Some.k ≡ true) (whole c) (at_middle c.loop-k.yielded c.next.new.self c.in-Some.k)

pub apply-requires-clause-inside : goal.apply-requires-clause-inside
apply-requires-clause-inside c = c.requires.uses.inside c.in-Some.k c.args.key (used (goal.at.apply-requires-clause-inside c).In-Some)

pub loop-k-preserved-then-apply : goal.loop-k-preserved-then-apply
loop-k-preserved-then-apply c = record {
  rest = rw append_assoc (whole (goal.at.loop-k-preserved-then-apply c).In-Some);
  sound = c.apply.ensures.sound;
  settled = settled_but_on c.args.system.now c.loop-k.tables c.apply.new.tables c.apply.ensures.advances c.args.key c.loop-k.invariant.settled;
  done = λ a. absurd (cc a);
  same = λ a. absurd (cc a);
  room = grind (arith, common_steps);
}

pub loop-k-preserved : goal.loop-k-preserved
loop-k-preserved c =
    let i = c.loop-k.invariant in
    let alike = c.apply.ensures.same c.if-apply.false in
    record {
      rest = rw append_assoc (whole (goal.at.loop-k-preserved c).In-Some);
      sound = c.apply.ensures.sound;
      settled = settled_but_on c.args.system.now c.loop-k.tables c.apply.new.tables c.apply.ensures.advances c.args.key i.settled;
      done = λ a j o m at. elim (pushed_cases c.loop-k.yielded c.in-Some.k j m) [
        | inl old ↦ subst (λ t. IsDone c.args.system.now t o) (sym alike) (i.done a j o old at)
        | inr e ↦ c.apply.ensures.closed c.if-apply.false o (rw (← e) at)
      ];
      same = λ a. alike ∙ i.same a;
      room = λ a. rw alike (i.room a);
    }

pub returns-clause-done : goal.returns-clause-done
returns-clause-done c = λ a k o at stays quiet.
    let i = c.loop-k.invariant in
    let all : c.loop-k.yielded ≡ slice_index_or c.args.uses.now.lists c.args.key [] = sym (append-nil c.loop-k.yielded) ∙ ap (λ rest. c.loop-k.yielded ++ rest) (sym c.in-None.ensures.steps.0) ∙ i.rest in
    elim (cases_Bool (contains (slice_index_or c.args.uses.now.lists c.args.key []) k)) [
      | inl y ↦ i.done a k o (subst (λ xs. contains xs k ≡ true) (sym all) y) at
      | inr n ↦ i.settled k o at stays (λ j r. (quiet j r, λ e. both_ways _ n (c.requires.uses.all k c.args.key o at stays (subst (λ x. Reads c.args.system.now o x) e r) (omega (arith, c.requires.key, c.requires.uses.heads)))))
    ]
