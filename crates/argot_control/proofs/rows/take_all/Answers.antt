use Rattle.std.proofs.Common.{◌≡◌, ◌<◌, ◌≤◌, ℕ, Some, true, false, get_or, sym, ◌∙◌, inl, inr, arith, subst}
use Rattle.std.specs.List.{slice_get}
use Rattle.std.proofs.lemmas.Bool.{cases_lt}
use Rattle.std.proofs.lemmas.Option.{slice_get-get_or, get_or_from_slice_get}
use Rattle.argot_links.specs.Table.{room}
use Rattle.argot_facts.proofs.Listed.{in_of_get, number_of, get_within}
use Rattle.argot_control.specs.Steps.{IsTaken}
use Rattle.argot_control.proofs.rows.take_all.Goals as goal
use Rattle.argot_control.proofs.rows.take_all.Goals.{then-take, else-take}

pub take-requires-clause-step : goal.take-requires-clause-step
take-requires-clause-step c =
    let steps = c.args.steps.now in
    in_of_get steps c.loop-k.k (get_or steps c.loop-k.k (0, 0)) (slice_get-get_or steps c.loop-k.k (0, 0) c.loop-k-test.true)

pub loop-k-preserved : goal.loop-k-preserved
loop-k-preserved c = elim c.if-take.branch [
  | then-take w ↦
      let l = c.take.ensures.less w.if-take.true in
      let m = c.loop-k.invariant.most in
      record {
        square = c.take.ensures.square;
        led = c.take.ensures.led;
        most = omega arith;
        less = λ e. omega arith;
        taken = λ e j x y b is. (let z : true ≡ false = sym w.changed-is ∙ e in absurd cc);
      }
  | else-take w ↦
      let steps = c.args.steps.now in
      let k = c.loop-k.k in
      let none : c.take.result ≡ false = w.if-take.false in
      let same = c.take.ensures.same none in
      let i = c.loop-k.invariant in
      record {
        square = c.take.ensures.square;
        led = c.take.ensures.led;
        most = subst (λ t. room t ≤ room c.args.rows.now) (sym same) i.most;
        less = λ e. subst (λ t. room t < room c.args.rows.now) (sym same) (i.less (sym w.changed-is ∙ e));
        taken = λ e j x y b is. elim (cases_lt j k) [
          | inl l ↦ subst (λ t. IsTaken t x y) (sym same) (i.taken (sym w.changed-is ∙ e) j x y l is)
          | inr l ↦
              let f : j ≡ k = omega arith in
              let g : get_or steps k (0, 0) ≡ (x, y) = get_or_from_slice_get steps k (x, y) (0, 0) (subst (λ n. slice_get steps n ≡ Some (x, y)) f is) in
              subst (λ (s : ℕ × ℕ). IsTaken c.take.new.rows s.0 s.1) g (c.take.ensures.taken none)
        ];
      }
]

pub returns-clause-taken : goal.returns-clause-taken
returns-clause-taken c = λ none x y step.
    let n = number_of (x, y) c.args.steps.now step in
    let l = get_within c.args.steps.now n.0 (x, y) n.1 in
    let e = c.loop-k-test.false in
    c.loop-k.invariant.taken none n.0 x y (omega arith) n.1
